-- The readers that have a seat, and those that are left.
use Rattle.std.proofs.Common.{◌≡◌, ◌+◌, length, All}
use Rattle.live_index.specs.History.{IsOfSame}
use Rattle.live_index.specs.declared.history.History.{History}
use Rattle.rgb_app.specs.declared.plan.SlabPlan.{SlabPlan}
use Rattle.rgb_app.proofs.beside.seated.Given as goal

abbrev pub invariant-readers : goal.invariant-readers
invariant-readers l = record {
  len : length l.seats.items + length l.readers.items ≡ length l.initial.readers.items;
  same : (history : History SlabPlan) → All (IsOfSame history) l.initial.readers.items → All (IsOfSame history) l.readers.items × All (λ seat. IsOfSame history seat.reader) l.seats.items;
}

abbrev pub decreases-readers : goal.decreases-readers
decreases-readers l = length l.readers.items
