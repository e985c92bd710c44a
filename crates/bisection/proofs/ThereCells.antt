-- A cell comes to cells and a trace, and a forward index to a numbering.
use Rattle.std.proofs.Common.{ℕ, zero, suc, ◌+◌, List, [], ◌∷◌, ◌++◌, length, map, slice_index, refl, inl, inr, arith}
use Rattle.std.specs.List.{range_with_len}
use Rattle.std.specs.List.Sorted.{IsStrictlyIncreasing}
use Rattle.std.proofs.lemmas.Bool.{cases_lt}
use Rattle.std.proofs.lemmas.List.FromFn.{length-range_with_len, get_or-range_with_len}
use Rattle.exchange.specs.Laws.{HasHalves, HalvesAreThere, HalvesKeepDocuments, ArePartsOf}
use Rattle.bisection.specs.Recursion.{StaysWhole, order_of, all_places}
use Rattle.bisection.specs.There.{HasCells, BisectionIsThere, NumberingIsThere}
use Rattle.bisection.proofs.LawOne.{joined}

whole_has : (cell : List ℕ) → StaysWhole cell (cell ∷ []) []
whole_has cell = record { is_cell = refl; is_trace = refl }

pub bisection_is_there : HalvesAreThere → HalvesKeepDocuments → BisectionIsThere
bisection_is_there there keep forward limits zero cell rising = record { cells = cell ∷ []; trace = []; is_bisected = whole_has cell }
bisection_is_there there keep forward limits (suc depth) cell rising = elim (cases_lt limits.leaf (length cell)) [
  | inl large ↦
      let halves : HasHalves forward cell limits.rounds = there forward cell limits.rounds rising in
      let parts : ArePartsOf cell halves.left = keep forward cell limits.rounds halves.left halves.records rising halves.are_halves in
      let first : HasCells forward limits depth halves.left.a = bisection_is_there there keep forward limits depth halves.left.a parts.rising_a in
      let second : HasCells forward limits depth halves.left.b = bisection_is_there there keep forward limits depth halves.left.b parts.rising_b in
      record {
        cells = first.cells ++ second.cells;
        trace = joined (length cell) halves.records (length halves.left.a) first.trace second.trace;
        is_bisected = inr (
          large,
          record {
            left = halves.left;
            records = halves.records;
            are_halves = halves.are_halves;
            cells_a = first.cells;
            cells_b = second.cells;
            trace_a = first.trace;
            trace_b = second.trace;
            half_a = first.is_bisected;
            half_b = second.is_bisected;
            is_cells = refl;
            is_trace = refl;
          },
        );
      }
  | inr small ↦ record { cells = cell ∷ []; trace = []; is_bisected = inl (small, whole_has cell) }
]

range_rises : (n : ℕ) → IsStrictlyIncreasing (range_with_len 0 n)
range_rises n k within =
    let len = length-range_with_len 0 n in
    omega (arith, get_or-range_with_len 0 n k 0 (omega (arith, within, len)), get_or-range_with_len 0 n (k + 1) 0 (omega (arith, within, len)))

pub numbering_is_there : BisectionIsThere → NumberingIsThere
numbering_is_there there forward limits depth =
    let all : HasCells forward limits depth (all_places forward) = there forward limits depth (all_places forward) (range_rises (length forward.rows)) in
    record {
      numbering = map (slice_index forward.documents) (order_of all.cells);
      trace = all.trace;
      is_numbered = record { cells = all.cells; is_bisected = all.is_bisected; documents = refl };
    }
