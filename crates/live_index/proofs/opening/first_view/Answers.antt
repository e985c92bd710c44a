use Rattle.std.proofs.Common.{ℕ, subst}
use Rattle.std.specs.Arc.{arc_value}
use Rattle.rgb_base.specs.Order.{Renumbers}
use Rattle.live_index.proofs.Views.{is_first_view}
use Rattle.live_index.proofs.opening.first_view.Goals as goal

pub returns-clause-view : goal.returns-clause-view
returns-clause-view g c =
    let order = c.in_ok-numbering.numbering in
    let leaves = subst (λ (n : ℕ). Renumbers order n (λ old. old)) c.documents.ensures.same c.in_ok-numbering.ensures.ok in
    is_first_view g.K.Plan.versions g.K.Plan.planned c.args.base.now c.args.plan order
    c.in_ok-store.store (arc_value c.in_ok-new.field-0) c.new_numbers_tell_the_order.ensures.law
    c.requires.identity c.in_ok-numbering.ensures.sound leaves c.in_ok-store.ensures.ok c.in_ok-new.ensures.ok
