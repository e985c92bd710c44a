-- The counts of the terms passed are below the number.
use Rattle.std.proofs.Common.{ℕ, ◌<◌, get_or}
use Rattle.degrees.proofs.tests.are_below.Given as goal

abbrev pub invariant-loop-term : goal.invariant-loop-term
invariant-loop-term l = (k : ℕ) → k < l.term → (get_or l.table.a k 0 < l.top) × (get_or l.table.b k 0 < l.top)
