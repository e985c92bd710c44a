use Rattle.std.proofs.Common.{ap, ◌∙◌, length, List}
use Rattle.bisection.specs.declared.desk.Desk.{Desk}
use Rattle.cell_claims.specs.declared.cell.CellWork.{CellWork}
use Rattle.bisection.proofs.Works.{nearer_still, desk_next}
use Rattle.bisection.proofs.desk.work.Goals as goal

pub loop-cell-smaller : goal.loop-cell-smaller
loop-cell-smaller g c =
    let i = c.loop-cell.invariant in
    nearer_still (length c.args.claims.now.cells) c.loop-cell.desk.seat c.claim.new.self c.give.new.self c.in-Some.cell c.work_on-done.result c.in-Some.ensures.some (ap (λ (w : List CellWork). length w) i.0.seat.1) c.give.ensures.given

pub loop-cell-preserved : goal.loop-cell-preserved
loop-cell-preserved g c =
    let i = c.loop-cell.invariant in
    let slab = c.args.slab.now in
    let now : Desk = record { seat = c.give.new.self; workers = c.loop-cell.desk.workers; left = c.work_on-done.new.left; failed = c.work_on-done.new.failed } in
    let d = desk_next slab.options slab.last c.args.parts.now c.args.claims.now c.loop-cell.desk now c.claim.new.self c.in-Some.cell c.work_on-done.result i.0 c.in-Some.ensures.some c.work_on-done.ensures.worked c.give.ensures.given in
    (d.0, d.1 ∙ i.1)
