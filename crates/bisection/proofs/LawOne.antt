-- A cell comes to one list of cells and one trace.
use Rattle.std.proofs.Common.{◌≡◌, ℕ, zero, suc, List, ◌++◌, length, map, slice_index, sym, ap, ap₂, subst, ◌∙◌, inl, inr, arith}
use Rattle.forward_index.specs.Forward.{ForwardIndex}
use Rattle.exchange.specs.declared.round.Kept.{Kept}
use Rattle.exchange.specs.Halving.{Halves}
use Rattle.exchange.specs.Laws.{HalvesAreOne}
use Rattle.cell_claims.specs.declared.trace.KeptRound.{KeptRound}
use Rattle.bisection.specs.Trace.{own_rounds, moved_to}
use Rattle.bisection.specs.Recursion.{Limits, StaysWhole, IsSplit, IsBisected, order_of, all_places}
use Rattle.bisection.specs.Laws.{BisectionIsOne, NumberingIsOne}

-- what a cell comes to is one list of cells and one trace
abbrev IsOne : (List ℕ → List (List ℕ) → List KeptRound → Type 0) → Type 0
IsOne ComesTo = (cell : List ℕ) (cells other_cells : List (List ℕ)) (trace other_trace : List KeptRound) → ComesTo cell cells trace → ComesTo cell other_cells other_trace → (other_cells ≡ cells) × (other_trace ≡ trace)

whole_is_one : IsOne StaysWhole
whole_is_one cell cells other_cells trace other_trace one other = (other.is_cell ∙ sym one.is_cell, other.is_trace ∙ sym one.is_trace)

-- the trace of a cell that is split
abbrev pub joined : ℕ → List Kept → ℕ → List KeptRound → List KeptRound → List KeptRound
joined size records place trace_a trace_b = own_rounds size records ++ moved_to 1 0 trace_a ++ moved_to 1 place trace_b

joined_same : (size : ℕ) (records other_records : List Kept) (place other_place : ℕ) (trace_a other_a trace_b other_b : List KeptRound)
    → other_records ≡ records → other_place ≡ place → other_a ≡ trace_a → other_b ≡ trace_b → joined size other_records other_place other_a other_b ≡ joined size records place trace_a trace_b
joined_same size records other_records place other_place trace_a other_a trace_b other_b same_records same_place same_a same_b =
    ap (λ (r : List Kept). joined size r other_place other_a other_b) same_records
    ∙ ap (λ (p : ℕ). joined size records p other_a other_b) same_place
    ∙ ap (λ (t : List KeptRound). joined size records place t other_b) same_a
    ∙ ap (λ (t : List KeptRound). joined size records place trace_a t) same_b

split_is_one : HalvesAreOne → (forward : ForwardIndex) (limits : Limits) (ComesTo : List ℕ → List (List ℕ) → List KeptRound → Type 0) → IsOne ComesTo → IsOne (IsSplit forward limits ComesTo)
split_is_one halves forward limits ComesTo is_one cell cells other_cells trace other_trace one other =
    let same : (other.left ≡ one.left) × (other.records ≡ one.records) = halves forward cell limits.rounds one.left other.left one.records other.records one.are_halves other.are_halves in
    let first : (other.cells_a ≡ one.cells_a) × (other.trace_a ≡ one.trace_a) =
    is_one one.left.a one.cells_a other.cells_a one.trace_a other.trace_a one.half_a (subst (λ (h : Halves). ComesTo h.a other.cells_a other.trace_a) same.0 other.half_a) in
    let second : (other.cells_b ≡ one.cells_b) × (other.trace_b ≡ one.trace_b) =
    is_one one.left.b one.cells_b other.cells_b one.trace_b other.trace_b one.half_b (subst (λ (h : Halves). ComesTo h.b other.cells_b other.trace_b) same.0 other.half_b) in (
      other.is_cells ∙ ap₂ (λ (xs ys : List (List ℕ)). xs ++ ys) first.0 second.0 ∙ sym one.is_cells,
      other.is_trace ∙ joined_same (length cell) one.records other.records (length one.left.a) (length other.left.a) one.trace_a other.trace_a one.trace_b other.trace_b same.1 (ap (λ (h : Halves). length h.a) same.0) first.1 second.1 ∙ sym one.is_trace,
    )

pub bisection_is_one : HalvesAreOne → BisectionIsOne
bisection_is_one halves forward limits zero cell cells other_cells trace other_trace one other = whole_is_one cell cells other_cells trace other_trace one other
bisection_is_one halves forward limits (suc depth) cell cells other_cells trace other_trace (inl one) (inl other) = whole_is_one cell cells other_cells trace other_trace one.1 other.1
bisection_is_one halves forward limits (suc depth) cell cells other_cells trace other_trace (inl one) (inr other) = let small = one.0 in let large = other.0 in absurd (omega (arith, small, large))
bisection_is_one halves forward limits (suc depth) cell cells other_cells trace other_trace (inr one) (inl other) = let large = one.0 in let small = other.0 in absurd (omega (arith, small, large))
bisection_is_one halves forward limits (suc depth) cell cells other_cells trace other_trace (inr one) (inr other) =
    split_is_one halves forward limits (IsBisected forward limits depth) (bisection_is_one halves forward limits depth) cell cells other_cells trace other_trace one.1 other.1

pub numbering_is_one : HalvesAreOne → NumberingIsOne
numbering_is_one halves forward limits depth numbering other trace other_trace one another =
    let same = bisection_is_one halves forward limits depth (all_places forward) one.cells another.cells trace other_trace one.is_bisected another.is_bisected in
    (another.documents ∙ ap (λ (cells : List (List ℕ)). map (slice_index forward.documents) (order_of cells)) same.0 ∙ sym one.documents, same.1)
