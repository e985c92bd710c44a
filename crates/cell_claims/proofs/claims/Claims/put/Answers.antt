use Rattle.std.proofs.Common.{rules, ap, ◌∙◌, arith}
use Rattle.std.proofs.Common.{ℕ, List, ◌∷◌}
use Rattle.atomic_table.specs.Table.{rest}
use Rattle.cell_claims.specs.declared.cell.Slot.{Slot}
use Rattle.cell_claims.specs.declared.cell.Slot.TheVariants.{Done}
use Rattle.cell_claims.specs.Rule.{MayGive}
use Rattle.cell_claims.proofs.Steps.{returns}
use Rattle.cell_claims.proofs.claims.Claims.put.Goals as goal

pub load-requires : goal.load-requires
load-requires c =
    let i = c.self.invariant in
    let may : MayGive c.self.inside.table.shared.key.value.items c.args.done.place c.args.seat.now.me = search rules in
    (search rules, omega (arith, i.words), returns c.self.inside.table.shared.key.value.items _ _ c.args.seat.now.me _ c.args.done may i.slots (c.exchange-away.ensures.3 ∙ ap (λ (r : List (ℕ × Slot)). (c.args.seat.now.me.0, (c.args.done.place, Done c.args.done) ∷ rest r)) may.away))
