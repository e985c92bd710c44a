-- The documents passed either stand in front or were among those that leave.
use Rattle.exchange.proofs.Merged.{AreTaken}
use Rattle.exchange.proofs.halves.remove_all.Given as goal

abbrev pub invariant-loop-place : goal.invariant-loop-place
invariant-loop-place l = AreTaken l.place l.staying l.left l.initial.docs l.docs l.leave
