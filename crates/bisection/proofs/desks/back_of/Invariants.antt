use Rattle.std.proofs.Common.{length}
use Rattle.bisection.specs.Desks.{AreComing}
use Rattle.bisection.proofs.desks.back_of.Given as goal

abbrev pub invariant-loop-desk : goal.invariant-loop-desk
invariant-loop-desk l = AreComing l.slab.options l.slab.last l.parts l.claims l.desks.items l.seats.items l.any l.all.items

abbrev pub decreases-loop-desk : goal.decreases-loop-desk
decreases-loop-desk l = length l.desks.items
