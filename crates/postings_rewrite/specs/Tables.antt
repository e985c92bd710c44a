-- The table of the postings of lists, one list's part behind another's, as functions of this crate
-- hand it to one another.
use Rattle.std.specs.Prelude.{◌≡◌, ℕ, List, length}
use Rattle.std.specs.List.{AllZip}
use Rattle.rgb_base.specs.declared.parts.Posting.{Posting}
use Rattle.rgb_base.specs.declared.parts.TermList.{TermList}
use Rattle.rgb_base.specs.Parts.{posting_count}
use Rattle.rgb_base.specs.Table.{cut_anew}
use Rattle.postings_rewrite.specs.Renumbering.{IsListRenumbered}

-- the parts of the table are the postings of the lists, renumbered
pub record IsTableRenumbered (order : List ℕ) (lists : List TermList) (table : List Posting)
    : Type 0 where
  pub len : length table ≡ posting_count lists
  pub parts : AllZip (IsListRenumbered order) lists (cut_anew lists table)
