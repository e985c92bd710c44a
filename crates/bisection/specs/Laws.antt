-- What holds of the recursion, each the contract of a call of its own.
use Rattle.std.specs.Prelude.{◌≡◌, ℕ, ◌+◌, ◌<◌, List, [], ◌∷◌, ◌++◌, length, map, slice_index, All, AllPairs, IsPermutation}
use Rattle.std.specs.List.Sorted.{IsStrictlyIncreasing}
use Rattle.forward_index.specs.Forward.{ForwardIndex, IsForward}
use Rattle.forward_index.specs.Cell.{IsCellOf}
use Rattle.cell_claims.specs.declared.trace.KeptRound.{KeptRound}
use Rattle.bisection.specs.Trace.{moved_to, StandsBefore, IsTrace}
use Rattle.bisection.specs.Recursion.{Limits, IsBisected, IsNumbered, order_of}

-- a cell comes to one list of cells, and one trace
abbrev pub BisectionIsOne : Type 0
BisectionIsOne = (forward : ForwardIndex) (limits : Limits) (depth : ℕ) (cell : List ℕ)
    (cells other_cells : List (List ℕ)) (trace other_trace : List KeptRound)
    → IsBisected forward limits depth cell cells trace
    → IsBisected forward limits depth cell other_cells other_trace
    → (other_cells ≡ cells) × (other_trace ≡ trace)

-- so a forward index has one numbering of each depth, and one trace
abbrev pub NumberingIsOne : Type 0
NumberingIsOne = (forward : ForwardIndex) (limits : Limits) (depth : ℕ)
    (numbering other : List ℕ) (trace other_trace : List KeptRound)
    → IsNumbered forward limits depth numbering trace
    → IsNumbered forward limits depth other other_trace
    → (other ≡ numbering) × (other_trace ≡ trace)

-- each document of the cell stands once in the order, and each cell in start order
pub record HasEachOnce (cell : List ℕ) (cells : List (List ℕ)) : Type 0 where
  pub documents : IsPermutation cell (order_of cells)
  pub rising : All IsStrictlyIncreasing cells

abbrev pub EachDocumentOnce : Type 0
EachDocumentOnce = (forward : ForwardIndex) (limits : Limits) (depth : ℕ) (cell : List ℕ)
    (cells : List (List ℕ)) (trace : List KeptRound) → IsStrictlyIncreasing cell
    → IsBisected forward limits depth cell cells trace → HasEachOnce cell cells

-- each kept round costs less, and the trace stands in order
abbrev pub RoundsStandInOrder : Type 0
RoundsStandInOrder = (forward : ForwardIndex) (limits : Limits) (depth : ℕ) (cell : List ℕ)
    (cells : List (List ℕ)) (trace : List KeptRound)
    → 0 < limits.leaf → IsStrictlyIncreasing cell
    → IsBisected forward limits depth cell cells trace → IsTrace trace

-- the recursion over a cell's own rows is the recursion over the whole forward index, seen through
-- the list of the cell's places
abbrev pub BisectionOverTheCell : Type 0
BisectionOverTheCell =
    (whole own : ForwardIndex) (places : List ℕ) (limits : Limits) (depth : ℕ) (cell : List ℕ)
    (cells : List (List ℕ)) (trace : List KeptRound) → IsForward whole → IsForward own
    → IsStrictlyIncreasing places → IsCellOf whole places own
    → IsStrictlyIncreasing cell → All (λ k. k < length places) cell
    → IsBisected own limits depth cell cells trace
    → IsBisected whole limits depth (map (slice_index places) cell)
    (map (map (slice_index places)) cells) trace

-- ---- slabs

-- the first of some cells comes to these, and the others to those
pub record AreFirst (First : List (List ℕ) → List KeptRound → Type 0)
    (Others : List (List ℕ) → List KeptRound → Type 0)
    (level start : ℕ) (cells : List (List ℕ)) (trace : List KeptRound) : Type 0 where
  pub cells_first : List (List ℕ)
  pub cells_others : List (List ℕ)
  pub trace_first : List KeptRound
  pub trace_others : List KeptRound
  pub first : First cells_first trace_first
  pub others : Others cells_others trace_others
  pub is_cells : cells ≡ cells_first ++ cells_others
  pub is_trace : trace ≡ moved_to level start trace_first ++ trace_others

-- Each of these cells comes to its own by so many levels. The cells have this level, and the first
-- begins at this place.
abbrev pub AreBisected : ForwardIndex → Limits → ℕ → ℕ → ℕ → List (List ℕ)
    → List (List ℕ) → List KeptRound → Type 0
AreBisected forward limits depth level start [] cells trace = (cells ≡ []) × (trace ≡ [])
AreBisected forward limits depth level start (cell ∷ others) cells trace =
    AreFirst (IsBisected forward limits depth cell)
    (AreBisected forward limits depth level (start + length cell) others) level start cells trace

-- a recursion leaves these cells, and a trace that has the records of both
pub record IsOneRecursion (forward : ForwardIndex) (limits : Limits) (depth : ℕ) (cell : List ℕ)
    (parts : List (List ℕ)) (trace others : List KeptRound) : Type 0 where
  pub all : List KeptRound
  pub same : IsPermutation (trace ++ others) all
  pub is_bisected : IsBisected forward limits depth cell parts all

-- so many levels, and then more of them over each cell, are all of them at once
abbrev pub LevelsAddUp : Type 0
LevelsAddUp =
    (forward : ForwardIndex) (limits : Limits) (depth more : ℕ) (cell : List ℕ)
    (cells parts : List (List ℕ)) (trace others : List KeptRound) → IsStrictlyIncreasing cell
    → IsBisected forward limits depth cell cells trace
    → AreBisected forward limits more depth 0 cells parts others
    → IsOneRecursion forward limits (depth + more) cell parts trace others

-- and as a trace stands in order, it is what the records of both become when they are put in order
abbrev pub SlabsAreOneRecursion : Type 0
SlabsAreOneRecursion =
    (forward : ForwardIndex) (limits : Limits) (depth more : ℕ) (cell : List ℕ)
    (cells parts : List (List ℕ)) (trace others all : List KeptRound)
    → 0 < limits.leaf → IsStrictlyIncreasing cell
    → IsBisected forward limits depth cell cells trace
    → AreBisected forward limits more depth 0 cells parts others
    → IsPermutation (trace ++ others) all → AllPairs StandsBefore all
    → IsBisected forward limits (depth + more) cell parts all
