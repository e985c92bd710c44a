-- The last documents stand in order behind those that are still to be placed.
use Rattle.std.proofs.Common.{◌+◌}
use Rattle.exchange.proofs.Merged.{AreMerged}
use Rattle.exchange.proofs.halves.merge_into.Given as goal

abbrev pub invariant-loop-coming : goal.invariant-loop-coming
invariant-loop-coming l = AreMerged l.ahead l.coming l.staying l.initial.docs l.docs l.come

abbrev pub decreases-loop-coming : goal.decreases-loop-coming
decreases-loop-coming l = l.ahead + l.coming
