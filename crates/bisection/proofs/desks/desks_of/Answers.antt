use Rattle.std.proofs.Common.{[], ◌∷◌, length-append, ◌≡◌, ◌+◌, List, length, ap, ◌∙◌, arith}
use Rattle.cell_claims.specs.Claims.{Seated}
use Rattle.bisection.specs.declared.desk.Desk.{Desk}
use Rattle.bisection.proofs.Shares.{seated_next}
use Rattle.bisection.proofs.desks.desks_of.Goals as goal

pub loop-seat-preserved : goal.loop-seat-preserved
loop-seat-preserved c =
    let i = c.loop-seat.invariant in
    let a = c.in_ok-push.ensures in
    let slab = c.args.slab.now in
    let counted : length c.loop-seat.seats.items ≡ length c.pop.new.self.items + 1 = ap (λ (xs : List Seated). length xs) c.in-Some.ensures.items ∙ length-append c.pop.new.self.items (c.in-Some.seat ∷ []) in
    let pushed : length c.push.new.self.items ≡ length c.loop-seat.desks.items + 1 = ap (λ (xs : List Desk). length xs) a.items ∙ length-append c.loop-seat.desks.items _ in
    let sum = i.0 in
    (omega arith, seated_next slab.options slab.last c.args.parts.now c.args.claims.now c.loop-seat.seats.items c.pop.new.self.items c.loop-seat.desks.items c.push.new.self.items _ i.1 c.in-Some.ensures.items c.new.ensures.items a.items)
