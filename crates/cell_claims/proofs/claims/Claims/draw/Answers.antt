use Rattle.std.proofs.Common.{rules, arith}
use Rattle.cell_claims.proofs.Steps.{draws}
use Rattle.cell_claims.proofs.claims.Claims.draw.Goals as goal

pub fetch_add-requires : goal.fetch_add-requires
fetch_add-requires c =
    let i = c.self.invariant in
    (search rules, omega (arith, i.words), draws _ _ _ _ (search rules) i.slots)
