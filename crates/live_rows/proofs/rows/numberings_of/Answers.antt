use Rattle.live_rows.proofs.Numberings.{begins_one, begins_still}
use Rattle.live_rows.proofs.rows.numberings_of.Goals as goal

pub loop-seed-init : goal.loop-seed-init
loop-seed-init c =
    begins_one c.args.documents c.new-numberings.result.items c.push.new.self.items c.in_ok-identity.field-0
    c.new-numberings.ensures.items c.in_ok-push.ensures.items
    (record { ordered = c.in_ok-identity.ensures.sound; leaves = c.in_ok-identity.ensures.ok })

pub loop-seed-preserved : goal.loop-seed-preserved
loop-seed-preserved c =
    begins_still c.args.documents c.loop-seed.numberings.items c.push-in-loop-seed.new.self.items
    c.in_ok-order_of.field-0 c.in_ok-push-2.ensures.items c.loop-seed.invariant
