use Rattle.std.proofs.Common.{◌≡◌, ℕ, ◌-◌, ◌<◌, ◌≤◌, false, get_or}
use Rattle.std.specs.Prelude.{vec_capacity}
use Rattle.std.specs.Mem.Slots.{slots_items, slots_filled, slots_len}
use Rattle.std.specs.Mem.Slots.Ownership.{Filled}
use Rattle.cell_claims.specs.Kept.{AreTaken}
use Rattle.cell_claims.proofs.claims.empty.Given as goal

abbrev pub invariant-loop-place : goal.invariant-loop-place
invariant-loop-place l =
    (slots_len l.closed.slots ≡ slots_len l.fn.closed.slots)
    × (slots_items l.closed.slots ≡ slots_items l.fn.closed.slots)
    × Filled (slots_filled l.closed.slots) l.place (slots_len l.closed.slots)
    × ((k : ℕ) → k < l.place → get_or (slots_filled l.closed.slots) k false ≡ false)
    × (l.place ≤ slots_len l.closed.slots)
    × (vec_capacity l.dones ≡ vec_capacity l.fn.dones)
    × AreTaken l.place (slots_items l.fn.closed.slots) l.dones.items

abbrev pub decreases-loop-place : goal.decreases-loop-place
decreases-loop-place l = slots_len l.closed.slots - l.place
