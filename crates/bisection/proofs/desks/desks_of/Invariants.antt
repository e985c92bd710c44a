use Rattle.std.proofs.Common.{◌≡◌, ◌+◌, length}
use Rattle.bisection.specs.Desks.{AreSeated}
use Rattle.bisection.proofs.desks.desks_of.Given as goal

abbrev pub invariant-loop-seat : goal.invariant-loop-seat
invariant-loop-seat l = (length l.seats.items + length l.desks.items ≡ length l.fn.seats.items) × AreSeated l.slab.options l.slab.last l.parts l.claims l.seats.items l.desks.items

abbrev pub decreases-loop-seat : goal.decreases-loop-seat
decreases-loop-seat l = length l.seats.items
