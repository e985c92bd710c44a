use Rattle.std.proofs.Common.{◌≡◌, []}
use Rattle.cell_claims.specs.Kept.{AreFree, IsGathered}
use Rattle.cell_claims.proofs.claims.Claims.gather.Given as goal

abbrev pub invariant-loop-other : goal.invariant-loop-other
invariant-loop-other l =
    (l.all.table_id ≡ l.self.id)
    × (l.all.me.1 ≡ [])
    × AreFree l.self l.seats.items
    × IsGathered l.self l.fn.seats.items l.seats.items l.all.me.0

abbrev pub decreases-loop-other : goal.decreases-loop-other
decreases-loop-other l = goal.left-loop-other l
