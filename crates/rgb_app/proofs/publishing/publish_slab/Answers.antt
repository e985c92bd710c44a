use Rattle.std.proofs.Common.{◌≡◌, ◌+◌, ℕ, List, length, if◌then◌else◌, sym, ap, subst, ◌∙◌, arith}
use Rattle.live_index.specs.History.{IsPlanned}
use Rattle.rgb_app.specs.Reordering.{IsForwardBy}
use Rattle.rgb_app.specs.Planned.{planned_versions, is_planned}
use Rattle.rgb_app.proofs.Slabs.{slab_len, slab_planned, if_some_at}
use Rattle.rgb_app.proofs.publishing.publish_slab.Goals as goal

pub publish_next-requires-clause-len : goal.publish_next-requires-clause-len
publish_next-requires-clause-len g c κs within =
    let base = c.args.publisher.now.base in
    let options = c.args.options in
    let forward : IsForwardBy options base c.advance.new.self.forward = subst (IsForwardBy options base) (sym c.advance.ensures.forward) c.requires.abreast.forward in
    ap length c.numbering.ensures.same
    ∙ slab_len c.each_document_once.ensures.law options base c.advance.new.self forward (c.advance.ensures.options ∙ c.requires.abreast.recursion) c.advance.ensures.sound

pub publish_next-requires-clause-planned : goal.publish_next-requires-clause-planned
publish_next-requires-clause-planned g c κs within =
    let history = c.args.publisher.now in
    let base = history.base in
    let options = c.args.options in
    let old = c.args.bisector.now in
    let new = c.advance.new.self in
    let abreast = c.requires.abreast in
    let forward : IsForwardBy options base new.forward = subst (IsForwardBy options base) (sym c.advance.ensures.forward) abreast.forward in
    let more = if_some_at c.in_ok-advance.field-0 c.in-Some.field-0 _ c.in-Some.is c.in_ok-advance.ensures.some in
    let done : new.done ≡ old.done + 1 = more.2 ∙ more.1 in
    let len : history.length ≡ new.done + (if options.by_name then 1 else 0) = omega (arith, abreast.length, done) in
    subst (λ (order : List ℕ). IsPlanned planned_versions is_planned base history.plan history.length order) (sym c.numbering.ensures.same)
    (slab_planned options history new abreast.plan forward (c.advance.ensures.options ∙ abreast.recursion) c.advance.ensures.sound (omega (arith, abreast.length)) len)
