use Rattle.std.proofs.Common.{length}
use Rattle.rgb_host.proofs.Pieces.{Warned}
use Rattle.rgb_host.proofs.write.warn_all.Given as goal

abbrev pub invariant-loop-rest : goal.invariant-loop-rest
invariant-loop-rest g l = Warned l.text l.rest (g.H.Host.seen l.initial.host) (g.H.Host.seen l.host)

abbrev pub decreases-loop-rest : goal.decreases-loop-rest
decreases-loop-rest g l = length l.rest
