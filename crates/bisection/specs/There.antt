-- That cells and numberings are there, each the contract of a call of its own.
use Rattle.std.specs.Prelude.{◌≡◌, ℕ, List, length}
use Rattle.std.specs.List.Sorted.{IsStrictlyIncreasing}
use Rattle.rgb_base.specs.Parts.{IndexParts, IsIndex}
use Rattle.rgb_base.specs.Order.{IsOrder}
use Rattle.forward_index.specs.Forward.{ForwardIndex}
use Rattle.cell_claims.specs.declared.trace.KeptRound.{KeptRound}
use Rattle.bisection.specs.Recursion.{Limits, IsBisected, IsNumbered}
use Rattle.bisection.specs.Progress.{IsNumberingOf}

-- ---- the recursion

-- the cell comes to cells and a trace
pub record HasCells (forward : ForwardIndex) (limits : Limits) (depth : ℕ) (cell : List ℕ)
    : Type 0 where
  pub cells : List (List ℕ)
  pub trace : List KeptRound
  pub is_bisected : IsBisected forward limits depth cell cells trace

abbrev pub BisectionIsThere : Type 0
BisectionIsThere = (forward : ForwardIndex) (limits : Limits) (depth : ℕ) (cell : List ℕ)
    → IsStrictlyIncreasing cell → HasCells forward limits depth cell

-- the forward index has a numbering and its trace
pub record HasNumbering (forward : ForwardIndex) (limits : Limits) (depth : ℕ) : Type 0 where
  pub numbering : List ℕ
  pub trace : List KeptRound
  pub is_numbered : IsNumbered forward limits depth numbering trace

abbrev pub NumberingIsThere : Type 0
NumberingIsThere =
    (forward : ForwardIndex) (limits : Limits) (depth : ℕ) → HasNumbering forward limits depth

-- ---- an index

-- the index has a numbering over the start order, and its trace
pub record HasNumberingOf (index : IndexParts) (min_df : ℕ) (start : List ℕ) (limits : Limits)
    (depth : ℕ) : Type 0 where
  pub numbering : List ℕ
  pub trace : List KeptRound
  pub is_numbering : IsNumberingOf index min_df start limits depth numbering trace

abbrev pub NumberingOfIsThere : Type 0
NumberingOfIsThere = (index : IndexParts) (min_df : ℕ) (start : List ℕ) (limits : Limits)
    (depth : ℕ) → IsIndex index → IsOrder start → length start ≡ length index.documents
    → HasNumberingOf index min_df start limits depth
