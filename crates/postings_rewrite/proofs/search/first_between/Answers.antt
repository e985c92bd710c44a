use Rattle.std.proofs.Common.{◌+◌, ◌-◌, ◌/◌, arith}
use Rattle.postings_rewrite.proofs.Searching.{not_above}
use Rattle.postings_rewrite.proofs.search.first_between.Goals as goal

pub loop-low-preserved-then-numbers-middle : goal.loop-low-preserved-then-numbers-middle
loop-low-preserved-then-numbers-middle c =
    let low = c.loop-low.low in
    let high = c.loop-low.high in
    let middle = low + (high - low) / 2 in
    record {
      forward = omega (arith, c.loop-low.invariant.forward);
      order = omega (arith, c.loop-low-test.true);
      within = c.loop-low.invariant.within;
      passed = λ k from below.
          omega (arith, c.if-numbers-middle.true, not_above c.args.numbers.now k middle c.requires.rising (omega (arith, below)) (omega (arith, c.loop-low-test.true, c.loop-low.invariant.within)));
      reached = c.loop-low.invariant.reached;
    }
