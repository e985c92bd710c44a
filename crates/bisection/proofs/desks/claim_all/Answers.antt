use Rattle.std.proofs.Common.{◌≡◌, ◌++◌, List, length, take, drop, sym, ap, ◌∙◌, subst, arith}
use Rattle.cell_claims.specs.declared.cell.CellWork.{CellWork}
use Rattle.cell_claims.specs.declared.cell.CellDone.{CellDone}
use Rattle.cell_claims.specs.Claims.{shares_of, given_by}
use Rattle.bisection.specs.declared.desk.Desk.{Desk}
use Rattle.bisection.specs.Desks.{AreCells, AreAllMade, seats_of}
use Rattle.bisection.proofs.Places.{put_whole}
use Rattle.bisection.proofs.Claimed.{in_place, can_work, over_shares, left_within, left_cover, all_made}
use Rattle.bisection.proofs.desks.claim_all.Goals as goal

pub new-requires-clause-places : goal.new-requires-clause-places
new-requires-clause-places g c = in_place c.args.level c.args.parts.now c.args.docs.now c.in_ok-cells.cells.items c.in_ok-cells.ensures.cells

pub work_all-requires-clause-work : goal.work_all-requires-clause-work
work_all-requires-clause-work g c κs within =
    let slab = c.args.slab.now in
    let cells : AreCells c.args.level c.args.parts.now c.args.docs.now c.in_ok-claims.claims.cells = subst (λ (cs : List CellWork). AreCells c.args.level c.args.parts.now c.args.docs.now cs) (sym c.in_ok-claims.ensures.cells) c.in_ok-cells.ensures.cells in
    can_work slab.options slab.logs.now slab.last c.args.level c.args.parts.now c.args.docs.now c.in_ok-claims.claims.cells c.requires.can cells

pub back_of-requires-clause-shares : goal.back_of-requires-clause-shares
back_of-requires-clause-shares g c =
    let slab = c.args.slab.now in
    let new = c.work_all.new.desks in
    let items = c.in_ok-desks.desks.items in
    let old = c.deref_mut.result.now in
    let whole : take c.in_ok-desks.desks.len (new ++ drop (length new) items) ≡ new =
    put_whole c.in_ok-desks.desks.len new items (omega (arith, c.work_all.ensures.len, c.deref_mut.ensures.len, c.in_ok-desks.desks.ok.0)) (omega (arith, c.in_ok-desks.desks.ok.0)) in
    let same = over_shares slab.options slab.last c.args.parts.now c.in_ok-claims.claims old new c.work_all.ensures.len c.work_all.ensures.over in
    let before : shares_of (seats_of old) ≡ shares_of (seats_of items) = ap (λ (ds : List Desk). shares_of (seats_of ds)) c.deref_mut.ensures.value in
    let all : shares_of (seats_of items) ≡ 64 = (let s = c.in_ok-desks.ensures.desks.shares in omega (arith, s)) in
    ap (λ (ds : List Desk). shares_of (seats_of ds)) whole ∙ same ∙ before ∙ all

pub by_place-requires-clause-within : goal.by_place-requires-clause-within
by_place-requires-clause-within g c =
    let slab = c.args.slab.now in
    let claims = c.in_ok-claims.claims in
    let back = c.in_ok-seats.ensures.back in
    let count : length claims.cells ≡ length c.args.parts.now = ap (λ (cs : List CellWork). length cs) c.in_ok-claims.ensures.cells ∙ c.in_ok-cells.ensures.cells.len in
    left_within slab.options slab.last (length claims.cells) (length c.args.parts.now) c.args.parts.now claims (given_by c.in_ok-seats.field-0.seats.items) c.in_ok-dones.dones.items c.in_ok-seats.field-0.left.items count (back.left c.if-failed.false) c.in_ok-dones.ensures.dones

pub by_place-requires-clause-cover : goal.by_place-requires-clause-cover
by_place-requires-clause-cover g c =
    let slab = c.args.slab.now in
    let claims = c.in_ok-claims.claims in
    let back = c.in_ok-seats.ensures.back in
    let count : length claims.cells ≡ length c.args.parts.now = ap (λ (cs : List CellWork). length cs) c.in_ok-claims.ensures.cells ∙ c.in_ok-cells.ensures.cells.len in
    left_cover slab.options slab.last (length claims.cells) (length c.args.parts.now) c.args.parts.now claims (given_by c.in_ok-seats.field-0.seats.items) c.in_ok-dones.dones.items c.in_ok-seats.field-0.left.items count (back.left c.if-failed.false) c.in_ok-dones.ensures.dones

pub join_up-requires : goal.join_up-requires
join_up-requires g c =
    let slab = c.args.slab.now in
    let parts = c.args.parts.now in
    let docs = c.args.docs.now in
    let claims = c.in_ok-claims.claims in
    let back = c.in_ok-seats.ensures.back in
    let cells : AreCells c.args.level parts docs claims.cells = subst (λ (cs : List CellWork). AreCells c.args.level parts docs cs) (sym c.in_ok-claims.ensures.cells) c.in_ok-cells.ensures.cells in
    let made = all_made slab.options c.args.level slab.last (length claims.cells) parts docs claims (given_by c.in_ok-seats.field-0.seats.items) c.in_ok-dones.dones.items c.in_ok-seats.field-0.left.items c.in_ok-table.table.items
    cells.len c.requires.can.len cells (back.left c.if-failed.false) c.in_ok-dones.ensures.dones c.in_ok-table.ensures.placed in
    record { done = subst (λ (ds : List CellDone). AreAllMade slab.options c.args.level slab.last parts docs ds c.in_ok-table.table.items) (sym c.deref.ensures.value) made }
