use Rattle.std.proofs.Common.{◌≡◌, List, ℕ, length, subst, ◌∙◌}
use Rattle.rgb_base.specs.Parts.{IndexParts}
use Rattle.bisection.specs.Progress.{slabs_of}
use Rattle.rgb_app.specs.Reordering.{options_of, IsForwardBy, IsNumberingBy}
use Rattle.rgb_app.proofs.Slabs.{finished, slab_len, pair_is, first_is, not_true}
use Rattle.rgb_app.proofs.publishing.publish_slabs.Goals as goal

pub returns-clause-numbering : goal.returns-clause-numbering
returns-clause-numbering g c =
    let options = c.args.options in
    let base = c.args.publisher.now.base in
    let recursion = c.publish_slab.new.bisector in
    let abreast = c.in_ok-publish_slab.ensures.ok in
    let same : c.publish_slab.new.publisher.base ≡ base = c.publish_slab.ensures.same.base ∙ c.slabs.invariant.same.base in
    let forward : IsForwardBy options base recursion.forward = subst (λ (index : IndexParts). IsForwardBy options index recursion.forward) same abreast.forward in
    let all : recursion.done ≡ slabs_of (options_of options) = c.in_ok-publish_slab.ensures.none (not_true c.in_ok-publish_slab.field-0 c.if-branch.false) in
    pair_is c.whole.result (IsNumberingBy options base) recursion.numbering recursion.trace c.whole.ensures.numbering c.whole.ensures.trace
    (finished options base recursion c.requires.options forward abreast.recursion abreast.sound all)

pub returns-clause-len : goal.returns-clause-len
returns-clause-len g c =
    let options = c.args.options in
    let base = c.args.publisher.now.base in
    let recursion = c.publish_slab.new.bisector in
    let abreast = c.in_ok-publish_slab.ensures.ok in
    let same : c.publish_slab.new.publisher.base ≡ base = c.publish_slab.ensures.same.base ∙ c.slabs.invariant.same.base in
    let forward : IsForwardBy options base recursion.forward = subst (λ (index : IndexParts). IsForwardBy options index recursion.forward) same abreast.forward in
    first_is c.whole.result (λ (order : List ℕ). length order ≡ length base.documents) recursion.numbering c.whole.ensures.numbering
    (slab_len c.each_document_once.ensures.law options base recursion forward abreast.recursion abreast.sound)
