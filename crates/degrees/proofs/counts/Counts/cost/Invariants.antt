-- The cost of the terms passed.
use Rattle.degrees.proofs.Costs.{IsCostTo}
use Rattle.degrees.proofs.counts.Counts.cost.Given as goal

abbrev pub invariant-loop-term : goal.invariant-loop-term
invariant-loop-term l = IsCostTo l.self l.m l.n l.term-items l.term-index l.cost
