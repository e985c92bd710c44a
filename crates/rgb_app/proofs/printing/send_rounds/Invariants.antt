use Rattle.std.proofs.Common.{take}
use Rattle.rgb_app.specs.Text.{round_lines}
use Rattle.rgb_app.specs.Printing.{Adds}
use Rattle.rgb_app.proofs.printing.send_rounds.Given as goal

abbrev pub invariant-loop-round : goal.invariant-loop-round
invariant-loop-round g l = Adds (round_lines (take l.round-index l.rounds)) l.initial.held.bytes l.held.bytes (g.H.Host.seen l.initial.host) (g.H.Host.seen l.host)
