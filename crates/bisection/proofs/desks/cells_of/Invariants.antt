use Rattle.std.proofs.Common.{◌≡◌, take}
use Rattle.std.specs.List.{sum_by}
use Rattle.bisection.specs.Desks.{AreCells}
use Rattle.bisection.proofs.desks.cells_of.Given as goal

abbrev pub invariant-loop-place : goal.invariant-loop-place
invariant-loop-place l = (l.start ≡ sum_by (λ part. part.len) (take l.place l.parts)) × AreCells l.level (take l.place l.parts) l.docs l.cells.items
