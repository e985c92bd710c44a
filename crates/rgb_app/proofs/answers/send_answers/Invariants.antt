use Rattle.std.proofs.Common.{take}
use Rattle.rgb_app.specs.Text.{query_text}
use Rattle.rgb_app.specs.Printing.{Adds}
use Rattle.rgb_app.proofs.answers.send_answers.Given as goal

abbrev pub invariant-loop-answer : goal.invariant-loop-answer
invariant-loop-answer g l = Adds (query_text l.index (take l.answer-index l.answers)) l.initial.held.bytes l.held.bytes (g.H.Host.seen l.initial.host) (g.H.Host.seen l.host)
