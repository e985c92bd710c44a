use Rattle.bisection.proofs.Shares.{coming_next}
use Rattle.bisection.proofs.desks.back_of.Goals as goal

pub loop-desk-preserved : goal.loop-desk-preserved
loop-desk-preserved c =
    let slab = c.args.slab.now in
    coming_next slab.options slab.last c.args.parts.now c.args.claims.now c.loop-desk.desks.items c.pop.new.self.items c.in-Some.desk c.loop-desk.seats.items c.push.new.self.items c.loop-desk.any c.either-any.result c.loop-desk.all.items c.append.new.self.items
    c.loop-desk.invariant c.in-Some.ensures.items c.in_ok-push.ensures.items c.in_ok-append.ensures.items c.either-any.ensures
