use Rattle.std.proofs.Common.{◌≡◌, ◌<◌, ℕ, List, ◌++◌, None, length, get_or, refl, ap, ◌∙◌, arith}
use Rattle.bisection.specs.declared.cell.Part.{Part}
use Rattle.cell_claims.specs.declared.trace.KeptRound.{KeptRound}
use Rattle.bisection.specs.Desks.{output}
use Rattle.bisection.specs.Cells.{output_of}
use Rattle.bisection.proofs.Joined.{joined_none, joined_next, get_or_same}
use Rattle.bisection.proofs.desks.join_up.Goals as goal

pub loop-place-init : goal.loop-place-init
loop-place-init c = joined_none c.args.slab.now.options c.args.level c.args.slab.now.last c.args.parts.now c.args.docs.now c.in_ok-order.order.items (output_of c.args.made.now) c.args.table.now.items c.in_ok-order.ensures.items

pub loop-place-preserved : goal.loop-place-preserved
loop-place-preserved c =
    let slab = c.args.slab.now in
    let parts = c.args.parts.now in
    let place = c.loop-place.place in
    let low : place < length parts = omega (arith, c.loop-place-test.true) in
    let bare : Part = record { len = 0; rows = None } in
    let part : Part = get_or parts place bare in
    let order : c.extend_from_slice.new.self.items ≡ c.loop-place.order.items ++ c.index-dones-place.result.docs = c.in_ok-extend_from_slice.ensures.items ∙ ap (λ (xs : List ℕ). c.loop-place.order.items ++ xs) c.as_slice.ensures.same in
    let trace : c.extend_from_slice-in-loop-place.new.self.items ≡ c.loop-place.made.trace.items ++ c.index-dones-place.result.kept = c.in_ok-extend_from_slice-2.ensures.items ∙ ap (λ (xs : List KeptRound). c.loop-place.made.trace.items ++ xs) c.as_slice-in-loop-place.ensures.same in
    joined_next slab.options c.args.level slab.last place parts c.args.docs.now c.loop-place.order.items c.extend_from_slice.new.self.items c.args.dones.now (output_of c.args.made.now) (output_of c.loop-place.made) (output c.append.new.self.items c.extend_from_slice-in-loop-place.new.self.items)
    c.args.table.now.items c.loop-place.table.items _ part c.index-dones-place.result c.index_mut.result.now c.append.new.other c.requires.done c.loop-place.invariant low (get_or_same parts place bare part low) c.index-dones-place.is c.index_mut.ensures.value order c.in_ok-append.ensures.items trace refl
