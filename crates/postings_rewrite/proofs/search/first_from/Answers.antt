use Rattle.std.proofs.Common.{◌+◌, ◌-◌, arith}
use Rattle.postings_rewrite.proofs.Searching.{not_above}
use Rattle.postings_rewrite.proofs.search.first_from.Goals as goal

pub loop-step-preserved : goal.loop-step-preserved
loop-step-preserved c =
    let low = c.loop-step.low in
    let step = c.loop-step.step in
    let is = c.loop-step.invariant in
    let room = c.loop-step-test.true in
    record {
      some = omega (arith, is.some);
      small = omega (arith, room);
      forward = omega (arith, is.forward);
      within = omega (arith, room, is.within);
      passed = λ k from below.
          omega (arith, c.if-numbers-low.true, not_above c.args.numbers.now k (low + step - 1) c.requires.rising (omega (arith, below)) (omega (arith, room, is.within, is.some)));
    }
