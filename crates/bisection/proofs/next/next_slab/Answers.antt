use Rattle.std.proofs.Common.{◌≡◌, ◌+◌, List, ℕ, ◌++◌, length, take, drop, sym, subst, ap, ◌∙◌, arith, AllPairs}
use Rattle.std.specs.List.Sorted.{IsPermutation}
use Rattle.cell_claims.specs.declared.trace.KeptRound.{KeptRound}
use Rattle.bisection.specs.Cells.{AreApart, IsStanding, output_of}
use Rattle.bisection.proofs.Places.{put_whole}
use Rattle.bisection.proofs.Standing.{standing_len, standing_order, standing_ready, standing_total, next_apart, next_standing}
use Rattle.bisection.proofs.next.next_slab.Goals as goal

pub run-requires-clause-len : goal.run-requires-clause-len
run-requires-clause-len g c κs within =
    ap length c.in_ok-before.ensures
    ∙ standing_len c.requires.laws c.args.forward.now c.args.slab.now.options c.args.done c.args.numbering.now c.args.parts.now c.args.trace.now c.requires.sound c.requires.standing

pub run-requires-clause-ready : goal.run-requires-clause-ready
run-requires-clause-ready g c κs within some =
    standing_ready c.requires.laws c.args.forward.now c.args.slab.now.options c.args.done c.args.numbering.now c.args.parts.now c.args.trace.now c.requires.sound c.requires.standing c.level_after-level.result c.level_after-level.ensures.same some

pub run-requires-clause-total : goal.run-requires-clause-total
run-requires-clause-total g c κs within some =
    ap length c.in_ok-before.ensures
    ∙ standing_total c.requires.laws c.args.forward.now c.args.slab.now.options c.args.done c.args.numbering.now c.args.parts.now c.args.trace.now c.requires.sound c.requires.standing c.level_after-level.result c.level_after-level.ensures.same some

pub put_in_order-requires : goal.put_in_order-requires
put_in_order-requires g c =
    let apart = next_apart c.requires.laws c.args.forward.now c.args.slab.now.options c.args.done c.args.numbering.now c.args.parts.now c.args.trace.now c.requires.sound c.requires.standing c.level_after-level.result c.args.slab.now.last
    c.in_ok-before.before.items c.in_ok-order.order.items _ (output_of c.run.new.made) c.requires.options c.requires.more c.level_after-level.ensures.same c.requires.last c.in_ok-before.ensures c.in_ok-from_slice.ensures.items c.new.ensures.items c.in_ok-order.ensures.ok in
    subst (λ (t : List KeptRound). AllPairs AreApart t) (sym c.deref_mut.ensures.value) apart

pub numbering_of-requires : goal.numbering_of-requires
numbering_of-requires g c =
    let sorted = c.put_in_order.new.trace in
    let same : IsPermutation c.run.new.made.trace.items sorted = subst (λ (t : List KeptRound). IsPermutation t sorted) c.deref_mut.ensures.value c.put_in_order.ensures.same in
    let standing = next_standing c.requires.laws c.args.forward.now c.args.slab.now.options c.args.done c.args.numbering.now c.args.parts.now c.args.trace.now c.requires.sound c.requires.standing c.level_after-level.result c.args.slab.now.last
    c.in_ok-before.before.items c.in_ok-order.order.items _ (output_of c.run.new.made) c.requires.options c.requires.more c.level_after-level.ensures.same c.requires.last c.in_ok-before.ensures c.in_ok-from_slice.ensures.items c.new.ensures.items c.in_ok-order.ensures.ok sorted same c.put_in_order.ensures.ordered in
    standing_order c.requires.laws c.args.forward.now c.args.slab.now.options (c.args.done + 1) c.in_ok-order.order.items c.run.new.made.parts.items sorted c.requires.sound standing

pub returns : goal.returns
returns g c =
    let sorted = c.put_in_order.new.trace in
    let options = c.args.slab.now.options in
    let forward = c.args.forward.now in
    let parts = c.run.new.made.parts.items in
    let same : IsPermutation c.run.new.made.trace.items sorted = subst (λ (t : List KeptRound). IsPermutation t sorted) c.deref_mut.ensures.value c.put_in_order.ensures.same in
    let standing = next_standing c.requires.laws forward options c.args.done c.args.numbering.now c.args.parts.now c.args.trace.now c.requires.sound c.requires.standing c.level_after-level.result c.args.slab.now.last
    c.in_ok-before.before.items c.in_ok-order.order.items _ (output_of c.run.new.made) c.requires.options c.requires.more c.level_after-level.ensures.same c.requires.last c.in_ok-before.ensures c.in_ok-from_slice.ensures.items c.new.ensures.items c.in_ok-order.ensures.ok sorted same c.put_in_order.ensures.ordered in
    let rounds : take c.run.new.made.trace.len (sorted ++ drop (length sorted) c.run.new.made.trace.items) ≡ sorted =
    put_whole c.run.new.made.trace.len sorted c.run.new.made.trace.items (omega (arith, c.put_in_order.auto.trace, c.deref_mut.ensures.len, c.run.new.made.trace.ok.0)) (omega (arith, c.run.new.made.trace.ok.0)) in
    let numbered : IsStanding forward options (c.args.done + 1) c.in_ok-numbering.numbering parts sorted = subst (λ (xs : List ℕ). IsStanding forward options (c.args.done + 1) xs parts sorted) (sym c.in_ok-numbering.ensures) standing in
    record { ok = subst (λ (t : List KeptRound). IsStanding forward options (c.args.done + 1) c.in_ok-numbering.numbering parts t) (sym rounds) numbered }
