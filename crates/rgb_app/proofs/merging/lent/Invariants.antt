use Rattle.std.proofs.Common.{◌≡◌, take}
use Rattle.rgb_app.specs.Prepared.{all_lent}
use Rattle.rgb_app.proofs.merging.lent.Given as goal

abbrev pub invariant-loop-answer : goal.invariant-loop-answer
invariant-loop-answer l = all_lent l.all.items ≡ take l.answer-index l.answers
