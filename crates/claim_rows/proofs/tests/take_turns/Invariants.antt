use Rattle.std.proofs.Common.{◌≡◌, length}
use Rattle.cell_claims.specs.Claims.{AreBack}
use Rattle.claim_rows.proofs.tests.take_turns.Given as goal

abbrev pub invariant-loop-seat : goal.invariant-loop-seat
invariant-loop-seat l = AreBack l.claims l.seats.items × (length l.seats.items ≡ length l.fn.seats.items)
