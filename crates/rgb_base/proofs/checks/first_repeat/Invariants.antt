use Rattle.std.proofs.Common.{◌≡◌, map, take}
use Rattle.rgb_base.specs.Parts.{AreDifferent, terms_of}
use Rattle.rgb_base.proofs.checks.first_repeat.Given as goal

abbrev pub invariant-loop-place : goal.invariant-loop-place
invariant-loop-place l = record {
  seen : map (λ key. key.now) l.seen.keys ≡ take l.place (terms_of l.lists);
  different : AreDifferent (take l.place (terms_of l.lists));
}
