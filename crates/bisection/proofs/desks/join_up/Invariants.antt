use Rattle.bisection.specs.Cells.{output_of}
use Rattle.bisection.specs.Desks.{AreJoined}
use Rattle.bisection.proofs.desks.join_up.Given as goal

abbrev pub invariant-loop-place : goal.invariant-loop-place
invariant-loop-place l = AreJoined l.slab.options l.level l.slab.last l.place l.parts l.docs l.order.items (output_of l.fn.made) (output_of l.made) l.fn.table.items l.table.items
