use Rattle.std.proofs.Common.{rules}
use Rattle.cell_claims.specs.declared.cell.Slot.TheVariants.{Ready}
use Rattle.cell_claims.proofs.claims.Claims.take.Goals as goal

pub exchange-requires : goal.exchange-requires
exchange-requires c = (search rules, (Ready c.requires.out.cell, cc))
