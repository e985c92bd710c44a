use Rattle.std.proofs.Common.{◌≡◌, ℕ, ◌+◌, ◌^◌, ◌<◌, length, get_or, List, w64, ◌+ℤ◌, to_z, of_z, sym, ap, ◌∙◌, subst, arith}
use Rattle.std.proofs.lemmas.Int.{ints}
use Rattle.std.proofs.lemmas.List.{take_all}
use Rattle.std.proofs.lemmas.List.Sums.{sum_by_more}
use Rattle.degrees.specs.declared.pair.Pair.{Pair}
use Rattle.degrees.specs.Steps.{Both}
use Rattle.degrees.specs.Kept.{AreTouched}
use Rattle.degrees.proofs.Touched.{of_term}
use Rattle.degrees.proofs.Pairs.{a_len, b_len, a_at, b_at}
use Rattle.degrees.proofs.Costs.{term_cost, weight, IsCostTo-start, IsCostTo-more, weight_within, cost_of_touched}
use Rattle.degrees.specs.Cost.{part}
use Rattle.degrees.specs.Sums.{total_by}
use Rattle.degrees.proofs.counts.Counts.cost.Goals as goal

-- what a step has: the term's counts, and how much all counts so far weigh
record Step (c : goal.After-part-in-loop-term) : Type 0 where
  a : get_or c.args.self.now.a (get_or c.deref-term-items.result.now c.loop-term.term-index 0) 0 ≡ c.index-pair.result.now.a
  b : get_or c.args.self.now.b (get_or c.deref-term-items.result.now c.loop-term.term-index 0) 0 ≡ c.index-pair.result.now.b
  few : weight c.args.self.now c.deref-term-items.result.now c.loop-term.term-index + (c.index-pair.result.now.a + c.index-pair.result.now.b) < 2 ^ 32

step : (c : goal.After-part-in-loop-term) → Step c
step c =
    let pairs : List Pair = c.self.inside.pairs.items in
    let both = c.args.self.now in
    let items = c.deref-term-items.result.now in
    let i = c.loop-term.term-index in
    let term = get_or items i 0 in
    let touched : AreTouched both items =
    subst (AreTouched both) (sym c.deref-term-items.ensures.value) (subst (λ (v : Both). AreTouched v c.self.inside.touched.items) c.self.view_is c.self.invariant.touched) in
    let len_a : length both.a ≡ length pairs = ap (λ (v : Both). length v.a) (sym c.self.view_is) ∙ a_len pairs in
    let len_b : length both.b ≡ length pairs = ap (λ (v : Both). length v.b) (sym c.self.view_is) ∙ b_len pairs in
    let low : term < length pairs = omega (arith, touched.below i 0 c.loop-term-test.true) in
    let a = ap (λ (v : Both). get_or v.a term 0) (sym c.self.view_is) ∙ a_at pairs term c.index-pair.result.now low c.index-pair.ensures in
    let b = ap (λ (v : Both). get_or v.b term 0) (sym c.self.view_is) ∙ b_at pairs term c.index-pair.result.now low c.index-pair.ensures in
    let more : weight both items (i + 1) ≡ weight both items i + of_term both term = sum_by_more (of_term both) items i 0 c.loop-term-test.true in
    record {
      a = a;
      b = b;
      few = omega (arith, a, b, weight_within both items (i + 1) touched (len_b ∙ sym len_a), c.requires.few);
    }

pub loop-term-init : goal.loop-term-init
loop-term-init c = IsCostTo-start c.args.self.now c.args.m c.args.n c.deref-term-items.result.now

pub overflow_add-cost : goal.overflow_add-cost
overflow_add-cost c = omega (arith, ints, (step c).few, c.part.ensures.high, c.part.ensures.low, c.part-in-loop-term.ensures.high, c.part-in-loop-term.ensures.low)

pub overflow_add-cost-in-loop-term : goal.overflow_add-cost-in-loop-term
overflow_add-cost-in-loop-term c =
    omega (
      arith,
      ints,
      (step c).few,
      c.part.ensures.high,
      c.part.ensures.low,
      c.part-in-loop-term.ensures.high,
      c.part-in-loop-term.ensures.low,
      c.loop-term.invariant.high,
      c.loop-term.invariant.low,
      c.loop-term.cost-is,
    )

pub loop-term-preserved : goal.loop-term-preserved
loop-term-preserved c =
    let s = step c in
    let x = c.part.result in
    let y = c.part-in-loop-term.result in
    let cost = to_z w64 c.loop-term.cost-bits in
    let next : to_z w64 (of_z w64 (cost +ℤ to_z w64 (of_z w64 (to_z w64 (of_z w64 x) +ℤ to_z w64 (of_z w64 y))))) ≡ cost +ℤ (x +ℤ y) =
    omega (
      arith,
      ints,
      s.few,
      c.part.ensures.high,
      c.part.ensures.low,
      c.part-in-loop-term.ensures.high,
      c.part-in-loop-term.ensures.low,
      c.loop-term.invariant.high,
      c.loop-term.invariant.low,
      c.loop-term.cost-is,
    ) in
    IsCostTo-more c.args.self.now c.args.m c.args.n c.deref-term-items.result.now c.loop-term.term-index cost x y
    (to_z w64 (of_z w64 (cost +ℤ to_z w64 (of_z w64 (to_z w64 (of_z w64 x) +ℤ to_z w64 (of_z w64 y)))))) c.loop-term-test.true c.loop-term.invariant
    (c.part.ensures.same c.args.m (sym c.lg-log_m.ensures.same) ∙ ap (λ (k : ℕ). part k c.args.m) (sym s.a))
    (c.part-in-loop-term.ensures.same c.args.n (sym c.lg-log_n.ensures.same) ∙ ap (λ (k : ℕ). part k c.args.n) (sym s.b))
    (omega (arith, ints, s.a, c.part.ensures.high))
    (omega (arith, ints, s.b, c.part-in-loop-term.ensures.high))
    (omega (arith, ints, s.a, c.part.ensures.low))
    (omega (arith, ints, s.b, c.part-in-loop-term.ensures.low))
    next

pub returns : goal.returns
returns c = record {
  same =
      let both = c.args.self.now in
      let items = c.deref-term-items.result.now in
      let touched : AreTouched both items =
      subst (AreTouched both) (sym c.deref-term-items.ensures.value) (subst (λ (v : Both). AreTouched v c.self.inside.touched.items) c.self.view_is c.self.invariant.touched) in
      c.loop-term.invariant.sum ∙ ap (total_by (term_cost both c.args.m c.args.n)) (take_all c.loop-term.term-index items c.loop-term-test.false) ∙ cost_of_touched both c.args.m c.args.n items touched;
}
