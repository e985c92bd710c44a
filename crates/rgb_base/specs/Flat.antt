-- How an index lies in memory: the postings of all lists in one table, the bytes of all terms in
-- one and those of all names in another, each with the places at which its parts end.
use Rattle.std.specs.Prelude.{◌≡◌, ℕ, ℤ, zero, suc, ◌+◌, ◌-◌, ◌^◌, ◌<◌, ◌≤◌, List, [], ◌∷◌, length, take, drop, slice_index, sum_by, All}
use Rattle.std.specs.Str.{IsCharBoundary}
use Rattle.rgb_base.specs.declared.parts.Posting.{Posting}
use Rattle.rgb_base.specs.declared.parts.TermList.{TermList}
use Rattle.rgb_base.specs.declared.parts.DocRecord.{DocRecord}
use Rattle.rgb_base.specs.declared.columns.Counts.{Counts}

-- ---- parts of a table

-- the parts of a table that end at these places, the first of which begins at this one
abbrev pub pieces : {X : Type 0} → ℕ → List ℕ → List X → List (List X)
pieces from [] table = []
pieces from (end ∷ ends) table = take (end - from) (drop from table) ∷ pieces end ends table

-- the place behind the last part
abbrev pub last_end : ℕ → List ℕ → ℕ
last_end from [] = from
last_end from (end ∷ ends) = last_end end ends

-- the ends don't fall, and lie within the table
abbrev pub AreCuts : ℕ → List ℕ → ℕ → Type 0
AreCuts from [] limit = from ≤ limit
AreCuts from (end ∷ ends) limit = (from ≤ end) × AreCuts end ends limit

-- each text ends between two characters, and the last one where the bytes do
pub record IsTextTable (ends bytes : List ℕ) : Type 0 where
  pub cuts : AreCuts 0 ends (length bytes)
  pub whole : last_end 0 ends ≡ length bytes
  pub boundaries : All (IsCharBoundary bytes) ends

-- the parts of a table of postings, what stands behind the last part, and for how many more ends
-- there is room
pub record Parted : Type 0 where
  pub closed : List (List Posting)
  pub pending : List Posting
  pub room : ℕ

pub record IsPostingTable (ends : List ℕ) (table : List Posting) : Type 0 where
  pub cuts : AreCuts 0 ends (length table)
  pub small : length table < 2 ^ 32

-- ---- lists and records from their columns

abbrev pub lists_of : List (List ℕ) → List Counts → List (List Posting) → List TermList
lists_of (term ∷ terms) (count ∷ counts) (part ∷ parts) =
    record { term = term; df = count.df; cf = count.cf; postings = part }
    ∷ lists_of terms counts parts
lists_of terms counts parts = []

abbrev pub records_of : List (List ℕ) → List ℤ → List DocRecord
records_of (name ∷ names) (size ∷ sizes) =
    record { name = name; length = size } ∷ records_of names sizes
records_of names sizes = []

-- parts of this table, each as long as the one of these
abbrev pub cut_like : List (List Posting) → List Posting → List (List Posting)
cut_like [] table = []
cut_like (part ∷ parts) table =
    take (length part) table ∷ cut_like parts (drop (length part) table)

-- each total is the length of the parts up to that one, itself with them
pub record AreRunningTotals (parts : List (List Posting)) (totals : List ℕ) : Type 0 where
  pub len : length totals ≡ length parts
  pub each :
      (k : ℕ) → k < length parts
      → slice_index totals k ≡ sum_by (λ part. length part) (take (k + 1) parts)

-- where part k begins
abbrev pub start_from : ℕ → List ℕ → ℕ → ℕ
start_from from ends zero = from
start_from from ends (suc k) = slice_index ends k
