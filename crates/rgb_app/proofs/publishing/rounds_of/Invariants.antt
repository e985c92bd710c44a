use Rattle.std.proofs.Common.{◌≡◌, take}
use Rattle.rgb_app.proofs.publishing.rounds_of.Given as goal

abbrev pub invariant-loop-round : goal.invariant-loop-round
invariant-loop-round l = l.all.items ≡ take l.round-index l.rounds
