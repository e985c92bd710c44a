-- Each document of a cell stands once in the order, and each cell in start order.
use Rattle.std.proofs.Common.{ℕ, zero, suc, List, [], ◌∷◌, ◌++◌, IsPermutation, sym, subst, inl, inr, append-nil}
use Rattle.std.specs.List.Sorted.{IsStrictlyIncreasing}
use Rattle.std.proofs.lemmas.List.Concat.{flat_map-append}
use Rattle.std.proofs.lemmas.List.Elements.{All-nil, All-cons, All-append}
use Rattle.std.proofs.lemmas.List.Sorted.{IsPermutation-refl, IsPermutation-trans, IsPermutation-append}
use Rattle.exchange.specs.Laws.{HalvesKeepDocuments, ArePartsOf}
use Rattle.cell_claims.specs.declared.trace.KeptRound.{KeptRound}
use Rattle.bisection.specs.Recursion.{StaysWhole, order_of}
use Rattle.bisection.specs.Laws.{HasEachOnce, EachDocumentOnce}

pub whole_has_each : (cell : List ℕ) (cells : List (List ℕ)) (trace : List KeptRound) → IsStrictlyIncreasing cell → StaysWhole cell cells trace → HasEachOnce cell cells
whole_has_each cell cells trace rising is =
    let alone : HasEachOnce cell (cell ∷ []) = record {
      documents = subst (IsPermutation cell) (sym (append-nil cell)) (IsPermutation-refl cell);
      rising = All-cons IsStrictlyIncreasing cell [] rising (All-nil IsStrictlyIncreasing);
    } in
    subst (HasEachOnce cell) (sym is.is_cell) alone

both_have_each : (cell a b : List ℕ) (cells_a cells_b : List (List ℕ)) → IsPermutation cell (a ++ b) → HasEachOnce a cells_a → HasEachOnce b cells_b → HasEachOnce cell (cells_a ++ cells_b)
both_have_each cell a b cells_a cells_b same first second = record {
  documents = IsPermutation-trans cell (a ++ b) (order_of (cells_a ++ cells_b)) same
      (subst (IsPermutation (a ++ b)) (sym (flat_map-append (λ (c : List ℕ). c) cells_a cells_b)) (IsPermutation-append a (order_of cells_a) b (order_of cells_b) first.documents second.documents));
  rising = All-append IsStrictlyIncreasing cells_a cells_b first.rising second.rising;
}

pub each_document_once : HalvesKeepDocuments → EachDocumentOnce
each_document_once keep forward limits zero cell cells trace rising is = whole_has_each cell cells trace rising is
each_document_once keep forward limits (suc depth) cell cells trace rising (inl is) = whole_has_each cell cells trace rising is.1
each_document_once keep forward limits (suc depth) cell cells trace rising (inr is) =
    let s = is.1 in
    let parts : ArePartsOf cell s.left = keep forward cell limits.rounds s.left s.records rising s.are_halves in
    let first : HasEachOnce s.left.a s.cells_a = each_document_once keep forward limits depth s.left.a s.cells_a s.trace_a parts.rising_a s.half_a in
    let second : HasEachOnce s.left.b s.cells_b = each_document_once keep forward limits depth s.left.b s.cells_b s.trace_b parts.rising_b s.half_b in
    subst (HasEachOnce cell) (sym s.is_cells) (both_have_each cell s.left.a s.left.b s.cells_a s.cells_b parts.documents first second)
