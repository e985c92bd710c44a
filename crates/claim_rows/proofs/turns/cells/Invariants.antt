use Rattle.std.proofs.Common.{◌≡◌, length}
use Rattle.cell_claims.specs.Claims.{AreInPlace}
use Rattle.claim_rows.proofs.turns.cells.Given as goal

abbrev pub invariant-loop-place : goal.invariant-loop-place
invariant-loop-place l = (length l.cells.items ≡ l.place) × AreInPlace l.cells.items
