-- The list that is being read, by itself.
use Rattle.std.specs.Prelude.{◌≡◌, ℕ, ◌^◌, ◌<◌, pos, List, [], length, All, FitsSigned}
use Rattle.std.specs.Int.{w32}
use Rattle.rgb_base.specs.declared.parts.Posting.{Posting}
use Rattle.rgb_base.specs.declared.parts.Header.{Header}
use Rattle.rgb_base.specs.Parts.{IsPostings}
use Rattle.rgb_base.specs.Building.{Building, begun}

abbrev pub no_posting : Posting
no_posting = record { doc = 0; tf = pos 0 }

abbrev pub no_header : Header
no_header = record {
  version = pos 0;
  total_lists = pos 0;
  total_docs = pos 0;
  total_terms = pos 0;
  average_bits = 0;
  description = [];
}

-- these postings in the open list, and nothing else
abbrev pub alone : ℕ → List Posting → Building
alone documents postings = record (begun no_header documents) { postings = postings }

-- what an open list keeps
pub record IsOpen (list : Building) : Type 0 where
  pub no_list : list.lists ≡ []
  pub narrow : list.documents < 2 ^ 32
  pub few : length list.postings < 2 ^ 32
  pub rising : IsPostings list.documents list.postings
  pub fit : All (λ posting. FitsSigned w32 posting.tf) list.postings
