use Rattle.std.proofs.Common.{◌≡◌, length}
use Rattle.degrees.specs.Kept.{IsCounts}
use Rattle.degrees.proofs.counts.Counts.clear.Given as goal

abbrev pub invariant-loop-term : goal.invariant-loop-term
invariant-loop-term l = record {
  sound : IsCounts l.self-inside;
  len : length l.self-inside.pairs.items ≡ length l.initial.self-inside.pairs.items;
}

abbrev pub decreases-loop-term : goal.decreases-loop-term
decreases-loop-term l = length l.self-inside.touched.items
