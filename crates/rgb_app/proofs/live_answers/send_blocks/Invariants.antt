use Rattle.std.proofs.Common.{take, flat_map}
use Rattle.rgb_app.specs.Text.{block_text}
use Rattle.rgb_app.specs.Printing.{Adds}
use Rattle.rgb_app.proofs.live_answers.send_blocks.Given as goal

abbrev pub invariant-loop-answer : goal.invariant-loop-answer
invariant-loop-answer g l = Adds (flat_map (λ answer. block_text l.word l.index answer.now) (take l.answer-index l.answers)) l.initial.held.bytes l.held.bytes (g.H.Host.seen l.initial.host) (g.H.Host.seen l.host)
