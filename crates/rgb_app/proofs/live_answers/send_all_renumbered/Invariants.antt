use Rattle.std.proofs.Common.{take, zip}
use Rattle.rgb_app.specs.Text.{renumbered_lines}
use Rattle.rgb_app.specs.Printing.{Adds}
use Rattle.rgb_app.proofs.live_answers.send_all_renumbered.Given as goal

abbrev pub invariant-loop-place : goal.invariant-loop-place
invariant-loop-place g l = Adds (renumbered_lines l.index (take l.place (zip l.ids l.originals))) l.initial.held.bytes l.held.bytes (g.H.Host.seen l.initial.host) (g.H.Host.seen l.host)
