use Rattle.std.proofs.Common.{ℕ, List, subst, sym}
use Rattle.live_index.specs.Listed.{BeginsWithIdentityOf}
use Rattle.live_index.proofs.Plans.{begins_one, begins_still}
use Rattle.live_index.proofs.tests.numberings_of.Goals as goal

pub loop-order-init : goal.loop-order-init
loop-order-init c =
    subst (λ (l : List (List ℕ)). BeginsWithIdentityOf c.args.documents l) (sym c.in_ok-push.ensures.items)
    (begins_one c.args.documents c.new-numberings.result.items c.in_ok-identity.field-0
    c.new-numberings.ensures.items
    (record { ordered = c.in_ok-identity.ensures.sound; leaves = c.in_ok-identity.ensures.ok }))

pub loop-order-preserved : goal.loop-order-preserved
loop-order-preserved c =
    subst (λ (l : List (List ℕ)). BeginsWithIdentityOf c.args.documents l) (sym c.in_ok-push-2.ensures.items)
    (begins_still c.args.documents c.loop-order.numberings.items c.in_ok-from_order.field-0 c.loop-order.invariant)
