-- The recursion over a cell's own rows is the recursion over the whole forward index.
use Rattle.std.proofs.Common.{ℕ, zero, suc, ◌<◌, List, ◌++◌, length, map, slice_index, All, sym, ap, ◌∙◌, inl, inr, arith}
use Rattle.std.proofs.lemmas.List.{length-map, map-append}
use Rattle.std.proofs.lemmas.List.Sorted.{All-permutation}
use Rattle.exchange.specs.Laws.{HalvesKeepDocuments, HalvesOverTheCell, ArePartsOf, halves_through}
use Rattle.cell_claims.specs.declared.trace.KeptRound.{KeptRound}
use Rattle.bisection.specs.Recursion.{StaysWhole}
use Rattle.bisection.specs.Laws.{BisectionOverTheCell}
use Rattle.bisection.proofs.LawLists.{All-left, All-right}
use Rattle.bisection.proofs.LawOne.{joined}

-- a list of documents, and lists of them, by their places in the whole
abbrev through : List ℕ → List ℕ → List ℕ
through places cell = map (slice_index places) cell

whole_through : (places cell : List ℕ) (cells : List (List ℕ)) (trace : List KeptRound) → StaysWhole cell cells trace → StaysWhole (through places cell) (map (through places) cells) trace
whole_through places cell cells trace is = record { is_cell = ap (map (through places)) is.is_cell; is_trace = is.is_trace }

pub bisection_over_the_cell : HalvesKeepDocuments → HalvesOverTheCell → BisectionOverTheCell
bisection_over_the_cell keep over whole own places limits zero cell cells trace sound own_sound up is_cell rising below is = whole_through places cell cells trace is
bisection_over_the_cell keep over whole own places limits (suc depth) cell cells trace sound own_sound up is_cell rising below (inl is) =
    let small = is.0 in inl (omega (arith, small, length-map cell (slice_index places)), whole_through places cell cells trace is.1)
bisection_over_the_cell keep over whole own places limits (suc depth) cell cells trace sound own_sound up is_cell rising below (inr is) =
    let large = is.0 in
    let s = is.1 in
    let parts : ArePartsOf cell s.left = keep own cell limits.rounds s.left s.records rising s.are_halves in
    let both : All (λ k. k < length places) (s.left.a ++ s.left.b) = All-permutation (λ (k : ℕ). k < length places) cell (s.left.a ++ s.left.b) parts.documents below in
    inr (
      omega (arith, large, length-map cell (slice_index places)),
      record {
        left = halves_through places s.left;
        records = s.records;
        are_halves = over whole own places cell limits.rounds s.left s.records sound own_sound up is_cell rising below s.are_halves;
        cells_a = map (through places) s.cells_a;
        cells_b = map (through places) s.cells_b;
        trace_a = s.trace_a;
        trace_b = s.trace_b;
        half_a = bisection_over_the_cell keep over whole own places limits depth s.left.a s.cells_a s.trace_a sound own_sound up is_cell parts.rising_a (All-left (λ (k : ℕ). k < length places) s.left.a s.left.b both) s.half_a;
        half_b = bisection_over_the_cell keep over whole own places limits depth s.left.b s.cells_b s.trace_b sound own_sound up is_cell parts.rising_b (All-right (λ (k : ℕ). k < length places) s.left.a s.left.b both) s.half_b;
        is_cells = ap (map (through places)) s.is_cells ∙ map-append (through places) s.cells_a s.cells_b;
        is_trace = s.is_trace
            ∙ ap (λ (n : ℕ). joined n s.records (length s.left.a) s.trace_a s.trace_b) (sym (length-map cell (slice_index places)))
            ∙ ap (λ (n : ℕ). joined (length (through places cell)) s.records n s.trace_a s.trace_b) (sym (length-map s.left.a (slice_index places)));
      },
    )
