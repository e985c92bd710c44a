-- Each kept round of a trace costs less, and the trace stands in order.
use Rattle.std.proofs.Common.{◌≡◌, ℕ, zero, suc, ◌+◌, ◌<◌, ◌≤◌, ◌<ℤ◌, List, [], ◌++◌, length, get_or, All, AllPairs, refl, sym, subst, ◌∙◌, inl, inr, arith}
use Rattle.std.specs.List.Sorted.{IsStrictlyIncreasing}
use Rattle.std.specs.Int.Signed.{<ℤ_irrefl}
use Rattle.std.specs.Cmp.{int_chain}
use Rattle.std.proofs.lemmas.Bool.{cases_lt}
use Rattle.std.proofs.lemmas.List.{length-append}
use Rattle.std.proofs.lemmas.List.Elements.{All-nil, All-append, All-map, All-weaker}
use Rattle.std.proofs.lemmas.List.Sorted.{length_permutation}
use Rattle.forward_index.specs.Forward.{ForwardIndex}
use Rattle.exchange.specs.declared.round.Kept.{Kept}
use Rattle.exchange.specs.Laws.{HalvesKeepDocuments, KeptRoundsAreAChain, IsChain, ArePartsOf}
use Rattle.cell_claims.specs.declared.trace.KeptRound.{KeptRound}
use Rattle.bisection.specs.Trace.{own_round, own_rounds, round_at, moved_to, StandsBefore}
use Rattle.bisection.specs.Recursion.{Limits, StaysWhole, IsBisected}
use Rattle.bisection.specs.Laws.{RoundsStandInOrder}
use Rattle.bisection.proofs.LawLists.{AllPairs-append, AllPairs-map}
use Rattle.bisection.proofs.LawOne.{joined}

-- ---- the order of rounds

pub stands_apart : (x : KeptRound) → StandsBefore x x → ⊥
stands_apart x (inl earlier) = omega (arith, earlier)
stands_apart x (inr (same, inl higher)) = omega (arith, higher)
stands_apart x (inr (same, inr (level, falls))) = <ℤ_irrefl falls

pub stands_far : (x y z : KeptRound) → StandsBefore x y → StandsBefore y z → StandsBefore x z
stands_far x y z (inl first) (inl second) = inl (omega (arith, first, second))
stands_far x y z (inl first) (inr (same, second)) = inl (omega (arith, first, same))
stands_far x y z (inr (same, first)) (inl second) = inl (omega (arith, same, second))
stands_far x y z (inr (same, inl first)) (inr (same', inl second)) = inr (same ∙ same', inl (omega (arith, first, second)))
stands_far x y z (inr (same, inl first)) (inr (same', inr (level, second))) = inr (same ∙ same', inl (omega (arith, first, level)))
stands_far x y z (inr (same, inr (level, first))) (inr (same', inl second)) = inr (same ∙ same', inl (omega (arith, level, second)))
stands_far x y z (inr (same, inr (level, first))) (inr (same', inr (level', second))) = inr (same ∙ same', inr (level ∙ level', int_chain z.before y.before x.before second first))

moves_both : (level start : ℕ) (x y : KeptRound) → StandsBefore x y → StandsBefore (round_at level start x) (round_at level start y)
moves_both level start x y (inl earlier) = inl (omega (arith, earlier))
moves_both level start x y (inr (same, inl higher)) = inr (omega (arith, same), inl (omega (arith, higher)))
moves_both level start x y (inr (same, inr (level', falls))) = inr (omega (arith, same), inr (omega (arith, level'), falls))

pub moved_ordered : (level start : ℕ) (trace : List KeptRound) → AllPairs StandsBefore trace → AllPairs StandsBefore (moved_to level start trace)
moved_ordered level start trace ordered = AllPairs-map StandsBefore StandsBefore (round_at level start) (moves_both level start) trace ordered

-- a round of the cell itself stands before those of its halves
top_before : (x y : KeptRound) → (x.start ≡ 0) × (x.level ≡ 0) → 0 < y.level → StandsBefore x y
top_before x y at below =
    let start : x.start ≡ 0 = at.0 in
    let level : x.level ≡ 0 = at.1 in
    elim (cases_lt 0 y.start) [
      | inl later ↦ inl (omega (arith, start, later))
      | inr here ↦ inr (omega (arith, start, here), inl (omega (arith, level, below)))
    ]

-- ---- what holds of the rounds of a cell

record IsOrdered (cell : List ℕ) (trace : List KeptRound) : Type 0 where
  less : All (λ r. r.after <ℤ r.before) trace
  within : All (λ r. r.start < length cell) trace
  ordered : AllPairs StandsBefore trace

none_ordered : (cell : List ℕ) → IsOrdered cell []
none_ordered cell = record {
  less = All-nil (λ (r : KeptRound). r.after <ℤ r.before);
  within = All-nil (λ (r : KeptRound). r.start < length cell);
  ordered = λ i j d lt within. absurd (omega (arith, within));
}

whole_ordered : (cell : List ℕ) (cells : List (List ℕ)) (trace : List KeptRound) → StaysWhole cell cells trace → IsOrdered cell trace
whole_ordered cell cells trace is = subst (IsOrdered cell) (sym is.is_trace) (none_ordered cell)

-- ---- the rounds of the cell itself

abbrev IsAtTop : KeptRound → Type 0
IsAtTop r = (r.start ≡ 0) × (r.level ≡ 0)

own_at_top : (size : ℕ) (records : List Kept) → All IsAtTop (own_rounds size records)
own_at_top size records = All-map IsAtTop (own_round size) records (λ k d lt. (refl, refl))

own_less : (size : ℕ) (records : List Kept) → All (λ r. r.after <ℤ r.before) records → All (λ r. r.after <ℤ r.before) (own_rounds size records)
own_less size records less = All-map (λ (r : KeptRound). r.after <ℤ r.before) (own_round size) records less

own_ordered : (size : ℕ) (records : List Kept) → AllPairs (λ r later. later.before <ℤ r.before) records → AllPairs StandsBefore (own_rounds size records)
own_ordered size records falling = AllPairs-map (λ (r later : Kept). later.before <ℤ r.before) StandsBefore (own_round size) (λ r later falls. inr (refl, inr (refl, falls))) records falling

-- ---- the rounds of a half

moved_less : (level start : ℕ) (trace : List KeptRound) → All (λ r. r.after <ℤ r.before) trace → All (λ r. r.after <ℤ r.before) (moved_to level start trace)
moved_less level start trace less = All-map (λ (r : KeptRound). r.after <ℤ r.before) (round_at level start) trace less

moved_below : (level start : ℕ) (trace : List KeptRound) → 0 < level → All (λ r. 0 < r.level) (moved_to level start trace)
moved_below level start trace some = All-map (λ (r : KeptRound). 0 < r.level) (round_at level start) trace (λ k d lt. omega (arith, some))

moved_within : (level start end : ℕ) (half : List ℕ) (trace : List KeptRound) → length half + start ≤ end → All (λ r. r.start < length half) trace → All (λ r. r.start < end) (moved_to level start trace)
moved_within level start end half trace room within =
    All-map (λ (r : KeptRound). r.start < end) (round_at level start) trace
    (λ k d lt. let here : (get_or trace k d).start < length half = within k d lt in omega (arith, here, room))

moved_from : (level start : ℕ) (trace : List KeptRound) → All (λ r. start ≤ r.start) (moved_to level start trace)
moved_from level start trace = All-map (λ (r : KeptRound). start ≤ r.start) (round_at level start) trace (λ k d lt. omega arith)

-- ---- all together

module _ (cell a b : List ℕ) (records : List Kept) (trace_a trace_b : List KeptRound) (some : 0 < length cell) (sizes : length a + length b ≡ length cell)
    (less : All (λ r. r.after <ℤ r.before) records) (falling : AllPairs (λ r later. later.before <ℤ r.before) records) (first : IsOrdered a trace_a) (second : IsOrdered b trace_b) where
  abbrev own : List KeptRound
  own = own_rounds (length cell) records

  abbrev part_a : List KeptRound
  part_a = moved_to 1 0 trace_a

  abbrev part_b : List KeptRound
  part_b = moved_to 1 (length a) trace_b

  own_before_a : All (λ x. All (StandsBefore x) part_a) own
  own_before_a = All-weaker IsAtTop (λ (x : KeptRound). All (StandsBefore x) part_a)
      (λ x top. All-weaker (λ (r : KeptRound). 0 < r.level) (StandsBefore x) (λ y below. top_before x y top below) part_a (moved_below 1 0 trace_a (omega arith))) own (own_at_top (length cell) records)

  own_before_b : All (λ x. All (StandsBefore x) part_b) own
  own_before_b = All-weaker IsAtTop (λ (x : KeptRound). All (StandsBefore x) part_b)
      (λ x top. All-weaker (λ (r : KeptRound). 0 < r.level) (StandsBefore x) (λ y below. top_before x y top below) part_b (moved_below 1 (length a) trace_b (omega arith))) own (own_at_top (length cell) records)

  a_before_b : All (λ x. All (StandsBefore x) part_b) part_a
  a_before_b = All-weaker (λ (r : KeptRound). r.start < length a) (λ (x : KeptRound). All (StandsBefore x) part_b)
      (λ x early. All-weaker (λ (r : KeptRound). length a ≤ r.start) (StandsBefore x) (λ y late. inl (omega (arith, early, late))) part_b (moved_from 1 (length a) trace_b))
      part_a (moved_within 1 0 (length a) a trace_a (omega arith) first.within)

  own_within : All (λ r. r.start < length cell) own
  own_within = All-weaker IsAtTop (λ (r : KeptRound). r.start < length cell) (λ r top. let start : r.start ≡ 0 = top.0 in omega (arith, start, some)) own (own_at_top (length cell) records)

  split_ordered : IsOrdered cell (joined (length cell) records (length a) trace_a trace_b)
  split_ordered = record {
    less = All-append (λ (r : KeptRound). r.after <ℤ r.before) (own ++ part_a) part_b
        (All-append (λ (r : KeptRound). r.after <ℤ r.before) own part_a (own_less (length cell) records less) (moved_less 1 0 trace_a first.less)) (moved_less 1 (length a) trace_b second.less);
    within = All-append (λ (r : KeptRound). r.start < length cell) (own ++ part_a) part_b
        (All-append (λ (r : KeptRound). r.start < length cell) own part_a own_within (moved_within 1 0 (length cell) a trace_a (omega (arith, sizes)) first.within))
        (moved_within 1 (length a) (length cell) b trace_b (omega (arith, sizes)) second.within);
    ordered = AllPairs-append StandsBefore (own ++ part_a) part_b
        (AllPairs-append StandsBefore own part_a (own_ordered (length cell) records falling) (moved_ordered 1 0 trace_a first.ordered) own_before_a)
        (moved_ordered 1 (length a) trace_b second.ordered)
        (All-append (λ (x : KeptRound). All (StandsBefore x) part_b) own part_a own_before_b a_before_b);
  }

cell_ordered : HalvesKeepDocuments → KeptRoundsAreAChain → (forward : ForwardIndex) (limits : Limits) (depth : ℕ) (cell : List ℕ) (cells : List (List ℕ)) (trace : List KeptRound)
    → IsStrictlyIncreasing cell → IsBisected forward limits depth cell cells trace → IsOrdered cell trace
cell_ordered keep chain forward limits zero cell cells trace rising is = whole_ordered cell cells trace is
cell_ordered keep chain forward limits (suc depth) cell cells trace rising (inl is) = whole_ordered cell cells trace is.1
cell_ordered keep chain forward limits (suc depth) cell cells trace rising (inr is) =
    let large = is.0 in
    let s = is.1 in
    let parts : ArePartsOf cell s.left = keep forward cell limits.rounds s.left s.records rising s.are_halves in
    let falls : IsChain forward cell s.left s.records = chain forward cell limits.rounds s.left s.records s.are_halves in
    let first : IsOrdered s.left.a s.trace_a = cell_ordered keep chain forward limits depth s.left.a s.cells_a s.trace_a parts.rising_a s.half_a in
    let second : IsOrdered s.left.b s.trace_b = cell_ordered keep chain forward limits depth s.left.b s.cells_b s.trace_b parts.rising_b s.half_b in
    let sizes : length s.left.a + length s.left.b ≡ length cell = sym (length-append s.left.a s.left.b) ∙ length_permutation cell (s.left.a ++ s.left.b) parts.documents in
    subst (IsOrdered cell) (sym s.is_trace) (split_ordered cell s.left.a s.left.b s.records s.trace_a s.trace_b (omega (arith, large)) sizes falls.less falls.falling first second)

pub rounds_stand_in_order : HalvesKeepDocuments → KeptRoundsAreAChain → RoundsStandInOrder
rounds_stand_in_order keep chain forward limits depth cell cells trace some rising is =
    let ordered = cell_ordered keep chain forward limits depth cell cells trace rising is in
    record { less = ordered.less; ordered = ordered.ordered }
