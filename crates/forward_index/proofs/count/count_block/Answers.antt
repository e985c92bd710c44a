use Rattle.std.proofs.Common.{length, refl, arith}
use Rattle.forward_index.proofs.Begun.{counts_none, counts_all}
use Rattle.forward_index.proofs.count.count_block.Goals as goal

pub loop-from-init : goal.loop-from-init
loop-from-init c = record {
  passed = c.pass_lists.ensures.passed;
  counts = counts_none c.band_of-whole.result.from c.args.min_df c.args.index.now.lists c.args.start.now c.args.first (length c.args.counts.now) c.requires.within c.band_of-whole.ensures.from c.args.counts.now refl c.requires.noughts;
}

pub returns : goal.returns
returns c = record {
  same = counts_all c.loop-from.from c.args.min_df c.args.index.now.lists c.args.start.now c.args.first (length c.args.counts.now) c.requires.within
      (λ k lt. let high = c.band_of-whole.ensures.limit k lt in omega (arith, high, c.loop-from-test.false))
      c.loop-from.counts c.loop-from.invariant.counts;
}
