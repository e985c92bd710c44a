use Rattle.std.proofs.Common.{◌≡◌, ◌-◌, ◌≤◌, []}
use Rattle.cell_claims.specs.Rule.{hand}
use Rattle.cell_claims.specs.Kept.{AreDealt}
use Rattle.cell_claims.proofs.claims.Claims.deal.Given as goal

abbrev pub invariant-loop : goal.invariant-loop
invariant-loop l =
    (l.first.table_id ≡ l.fn.self.id)
    × (l.first.me ≡ (hand l.fn.self.cells (65 - l.counter) [] [], []))
    × (1 ≤ l.counter) × (l.counter ≤ l.fn.seats)
    × AreDealt l.fn.self (l.counter - 1) l.made.items
