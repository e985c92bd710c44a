-- The rounds passed stand behind the others.
use Rattle.std.proofs.Common.{◌≡◌, ◌++◌, take}
use Rattle.bisection.specs.Trace.{own_rounds, moved_to}
use Rattle.bisection.proofs.cell.append_rounds.Given as goal

abbrev pub invariant-loop-round : goal.invariant-loop-round
invariant-loop-round l = l.trace.items ≡ l.initial.trace.items ++ moved_to l.level l.start (own_rounds l.size (take l.round-index l.kept))
