use Rattle.rgb_base.proofs.Tables.{AreMarked}
use Rattle.rgb_base.proofs.permutation.places_of.Given as goal

abbrev pub invariant-loop-place : goal.invariant-loop-place
invariant-loop-place l = AreMarked l.order l.places.items l.place
