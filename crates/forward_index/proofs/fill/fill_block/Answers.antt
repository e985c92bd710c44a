use Rattle.std.proofs.Common.{length, refl, arith}
use Rattle.forward_index.proofs.Begun.{begun_none, begun_all}
use Rattle.forward_index.proofs.fill.fill_block.Goals as goal

pub loop-from-init : goal.loop-from-init
loop-from-init c = record {
  passed = c.pass_lists.ensures.passed;
  begun = begun_none c.band_of-whole.result.from c.args.min_df c.args.index.now.lists c.args.start.now c.args.first (length c.args.cursors.now) c.requires.within c.band_of-whole.ensures.from c.args.base c.args.cursors.now c.args.entries.now refl c.requires.ready;
}

pub returns : goal.returns
returns c = record {
  filled = begun_all c.loop-from.from c.args.min_df c.args.index.now.lists c.args.start.now c.args.first (length c.args.cursors.now) c.requires.within
      (λ k lt. let high = c.band_of-whole.ensures.limit k lt in omega (arith, high, c.loop-from-test.false))
      c.args.base c.loop-from.cursors c.loop-from.entries c.loop-from.invariant.begun;
}
