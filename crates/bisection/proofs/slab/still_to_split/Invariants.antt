use Rattle.std.proofs.Common.{◌≡◌, ◌≤◌, take, None, All}
use Rattle.bisection.proofs.slab.still_to_split.Given as goal

abbrev pub invariant-loop-part : goal.invariant-loop-part
invariant-loop-part l = (l.cells ≤ l.part-index) × (l.cells ≡ 0 → All (λ part. part.rows ≡ None) (take l.part-index l.parts))
