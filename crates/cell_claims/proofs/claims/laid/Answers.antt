use Rattle.std.proofs.Common.{List, map, length, ap, ◌≡◌, ◌∙◌, sym, arith}
use Rattle.cell_claims.specs.declared.cell.CellWork.{CellWork}
use Rattle.cell_claims.specs.declared.cell.Slot.TheVariants.{Ready}
use Rattle.cell_claims.proofs.Steps.{opens_as}
use Rattle.cell_claims.proofs.claims.laid.Goals as goal

pub new-requires : goal.new-requires
new-requires c =
    let e : c.of-about.result.value.items ≡ c.args.cells.items = cc in
    let l : length c.of-about.result.value.items ≡ length c.args.cells.items = ap (λ (xs : List CellWork). length xs) e in
    opens_as c.of-about.result.value.items c.in_ok-slots.slots.items (omega (arith, c.args.cells.ok, c.args.cells.small)) (c.in_ok-slots.ensures ∙ ap (λ (xs : List CellWork). map Ready xs) (sym e))
