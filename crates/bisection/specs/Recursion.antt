-- Recursive graph bisection (L. Dhulipala and others, "Compressing Graphs and Indexes with
-- Recursive Graph Bisection", KDD 2016, algorithm 1): a cell of documents is halved, and each half
-- in its turn, until so many levels are done or a cell has no more documents than a leaf. One
-- thread could do it: it knows no workers and no slabs.
use Rattle.std.specs.Prelude.{◌≡◌, ◌⊎◌, ℕ, zero, suc, ◌<◌, ◌≤◌, List, [], ◌∷◌, ◌++◌, length, map, flat_map, slice_index}
use Rattle.std.specs.List.{range_with_len}
use Rattle.forward_index.specs.Forward.{ForwardIndex}
use Rattle.exchange.specs.declared.round.Kept.{Kept}
use Rattle.exchange.specs.Halving.{Halves, AreHalves}
use Rattle.cell_claims.specs.declared.trace.KeptRound.{KeptRound}
use Rattle.bisection.specs.Trace.{own_rounds, moved_to}

-- how many rounds a halving makes at most, and how many documents a cell has that isn't halved
pub record Limits : Type 0 where
  pub rounds : ℕ
  pub leaf : ℕ

-- the cell stays as it is
pub record StaysWhole (cell : List ℕ) (cells : List (List ℕ)) (trace : List KeptRound)
    : Type 0 where
  pub is_cell : cells ≡ cell ∷ []
  pub is_trace : trace ≡ []

-- The cell is halved, and of both halves it is known what they come to. The kept rounds of the cell
-- stand first, then those of the first half, one level down, and then those of the second, which
-- begins where the first one ends.
pub record IsSplit (forward : ForwardIndex) (limits : Limits)
    (ComesTo : List ℕ → List (List ℕ) → List KeptRound → Type 0)
    (cell : List ℕ) (cells : List (List ℕ)) (trace : List KeptRound) : Type 0 where
  pub left : Halves
  pub records : List Kept
  pub are_halves : AreHalves forward cell limits.rounds left records
  pub cells_a : List (List ℕ)
  pub cells_b : List (List ℕ)
  pub trace_a : List KeptRound
  pub trace_b : List KeptRound
  pub half_a : ComesTo left.a cells_a trace_a
  pub half_b : ComesTo left.b cells_b trace_b
  pub is_cells : cells ≡ cells_a ++ cells_b
  pub is_trace : trace ≡ own_rounds (length cell) records
      ++ moved_to 1 0 trace_a ++ moved_to 1 (length left.a) trace_b

-- so many levels of the recursion over a cell leave these cells in order, and this trace
abbrev pub IsBisected : ForwardIndex → Limits → ℕ → List ℕ → List (List ℕ) → List KeptRound → Type 0
IsBisected forward limits zero cell cells trace = StaysWhole cell cells trace
IsBisected forward limits (suc depth) cell cells trace =
    ((length cell ≤ limits.leaf) × StaysWhole cell cells trace)
    ⊎ ((limits.leaf < length cell)
    × IsSplit forward limits (IsBisected forward limits depth) cell cells trace)

-- the documents of all cells, cell by cell
abbrev pub order_of : List (List ℕ) → List ℕ
order_of cells = flat_map (λ cell. cell) cells

-- all places, in start order
abbrev pub all_places : ForwardIndex → List ℕ
all_places forward = range_with_len 0 (length forward.rows)

-- the recursion over all documents leaves this numbering, in which the document at the j-th place
-- of its order has the number j, and this trace
pub record IsNumbered (forward : ForwardIndex) (limits : Limits) (depth : ℕ)
    (numbering : List ℕ) (trace : List KeptRound) : Type 0 where
  pub cells : List (List ℕ)
  pub is_bisected : IsBisected forward limits depth (all_places forward) cells trace
  pub documents : numbering ≡ map (slice_index forward.documents) (order_of cells)
