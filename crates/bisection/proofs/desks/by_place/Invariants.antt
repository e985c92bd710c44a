use Rattle.std.proofs.Common.{◌≡◌, length}
use Rattle.bisection.specs.Desks.{ArePlacing}
use Rattle.bisection.proofs.desks.by_place.Given as goal

abbrev pub invariant-loop : goal.invariant-loop
invariant-loop l = length l.table.items ≡ l.counter

abbrev pub invariant-loop-left : goal.invariant-loop-left
invariant-loop-left l = ArePlacing l.count l.fn.lefts.items l.lefts.items l.table.items

abbrev pub decreases-loop-left : goal.decreases-loop-left
decreases-loop-left l = length l.lefts.items
