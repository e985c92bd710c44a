use Rattle.std.proofs.Common.{◌≡◌, ◌-◌, length}
use Rattle.bisection.specs.Desks.{IsDesk, reach}
use Rattle.bisection.proofs.desk.work.Given as goal

abbrev pub invariant-loop-cell : goal.invariant-loop-cell
invariant-loop-cell g l = IsDesk l.slab.options l.slab.last l.parts l.claims l.desk × (l.desk.seat.shares ≡ l.fn.desk.seat.shares)

abbrev pub decreases-loop-cell : goal.decreases-loop-cell
decreases-loop-cell g l = length l.claims.cells - reach l.desk.seat.drawn
