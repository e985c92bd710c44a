use Rattle.std.proofs.Common.{◌≡◌, ◌^◌, ℤ, ◌+ℤ◌, to_z, of_z, get_or, refl, ap, ◌∙◌, arith, []}
use mir.Syntax.{w128}
use Rattle.std.proofs.lemmas.Int.{ints}
use Rattle.degrees.specs.Cost.{degree}
use Rattle.degrees.specs.Counts.{cost_of}
use Rattle.exchange.specs.Tries.{docs_of}
use Rattle.exchange.proofs.Bounds.{fits_wide, read_back_wide}
use Rattle.exchange.specs.Tries.{no_entry}
use Rattle.exchange.proofs.Many.{front_of, none_across, now_terms, now_ready, now_counted, now_moved, now_costs, saved_more}
use Rattle.exchange.proofs.tries.move_all.Goals as goal

pub loop-entry-init : goal.loop-entry-init
loop-entry-init c = record {
  moved = none_across c.args.from (degree c.args.ground.now.forward.now []) c.args.degrees.now (λ t. refl);
  saved = omega (arith, ints);
}

pub narrow_gain-requires-clause-terms : goal.narrow_gain-requires-clause-terms
narrow_gain-requires-clause-terms c =
    let is = front_of c.args.ground.now.forward.now c.args.from c.args.entries.now c.args.degrees.now c.loop-entry.degrees c.loop-entry.entry-index c.args.ground.now.logs.now c.is_sound.ensures.sound c.is_sound-2.ensures.sound c.requires.terms c.requires.counted c.requires.ready c.loop-entry.invariant.moved c.loop-entry-test.true c.requires.below in
    now_terms c.args.ground.now.forward.now c.args.from (docs_of c.args.entries.now) c.args.degrees.now c.loop-entry.degrees c.loop-entry.entry-index (get_or c.args.entries.now c.loop-entry.entry-index no_entry).doc c.args.ground.now.logs.now is

pub narrow_gain-requires-clause-below : goal.narrow_gain-requires-clause-below
narrow_gain-requires-clause-below c =
    let is = front_of c.args.ground.now.forward.now c.args.from c.args.entries.now c.args.degrees.now c.loop-entry.degrees c.loop-entry.entry-index c.args.ground.now.logs.now c.is_sound.ensures.sound c.is_sound-2.ensures.sound c.requires.terms c.requires.counted c.requires.ready c.loop-entry.invariant.moved c.loop-entry-test.true c.requires.below in
    is.below

pub narrow_gain-requires-clause-counted : goal.narrow_gain-requires-clause-counted
narrow_gain-requires-clause-counted c =
    let is = front_of c.args.ground.now.forward.now c.args.from c.args.entries.now c.args.degrees.now c.loop-entry.degrees c.loop-entry.entry-index c.args.ground.now.logs.now c.is_sound.ensures.sound c.is_sound-2.ensures.sound c.requires.terms c.requires.counted c.requires.ready c.loop-entry.invariant.moved c.loop-entry-test.true c.requires.below in
    now_counted c.args.ground.now.forward.now c.args.from (docs_of c.args.entries.now) c.args.degrees.now c.loop-entry.degrees c.loop-entry.entry-index (get_or c.args.entries.now c.loop-entry.entry-index no_entry).doc c.args.ground.now.logs.now is

pub narrow_gain-requires-clause-ready : goal.narrow_gain-requires-clause-ready
narrow_gain-requires-clause-ready c =
    let is = front_of c.args.ground.now.forward.now c.args.from c.args.entries.now c.args.degrees.now c.loop-entry.degrees c.loop-entry.entry-index c.args.ground.now.logs.now c.is_sound.ensures.sound c.is_sound-2.ensures.sound c.requires.terms c.requires.counted c.requires.ready c.loop-entry.invariant.moved c.loop-entry-test.true c.requires.below in
    now_ready c.args.ground.now.forward.now c.args.from (docs_of c.args.entries.now) c.args.degrees.now c.loop-entry.degrees c.loop-entry.entry-index (get_or c.args.entries.now c.loop-entry.entry-index no_entry).doc c.args.ground.now.logs.now is

pub overflow_add-saved : goal.overflow_add-saved
overflow_add-saved c =
    let is = front_of c.args.ground.now.forward.now c.args.from c.args.entries.now c.args.degrees.now c.loop-entry.degrees c.loop-entry.entry-index c.args.ground.now.logs.now c.is_sound.ensures.sound c.is_sound-2.ensures.sound c.requires.terms c.requires.counted c.requires.ready c.loop-entry.invariant.moved c.loop-entry-test.true c.requires.below in
    let ready = now_ready c.args.ground.now.forward.now c.args.from (docs_of c.args.entries.now) c.args.degrees.now c.loop-entry.degrees c.loop-entry.entry-index (get_or c.args.entries.now c.loop-entry.entry-index no_entry).doc c.args.ground.now.logs.now is in
    let g = c.narrow_gain.result in
    let wide : to_z w128 (of_z w128 c.from-saved.result) ≡ g = omega (arith, ints, c.from-saved.ensures, c.narrow_gain.ensures.small.low, c.narrow_gain.ensures.small.high) in
    let step = saved_more c.log_is_small.ensures.small c.args.ground.now.logs.now c.args.degrees.now c.loop-entry.degrees c.is_sound-2.ensures.sound c.requires.ready c.is_sound-in-loop-entry.ensures.sound ready (to_z w128 c.loop-entry.saved-bits) g (to_z w128 c.loop-entry.saved-bits +ℤ to_z w128 (of_z w128 c.from-saved.result)) c.loop-entry.invariant.saved c.narrow_gain.ensures.small (ap (λ (z : ℤ). to_z w128 c.loop-entry.saved-bits +ℤ z) wide) in
    fits_wide (2 ^ 92) (to_z w128 c.loop-entry.saved-bits +ℤ to_z w128 (of_z w128 c.from-saved.result)) (omega arith) step

pub move_across-requires-clause-terms : goal.move_across-requires-clause-terms
move_across-requires-clause-terms c =
    let is = front_of c.args.ground.now.forward.now c.args.from c.args.entries.now c.args.degrees.now c.loop-entry.degrees c.loop-entry.entry-index c.args.ground.now.logs.now c.is_sound.ensures.sound c.is_sound-2.ensures.sound c.requires.terms c.requires.counted c.requires.ready c.loop-entry.invariant.moved c.loop-entry-test.true c.requires.below in
    now_terms c.args.ground.now.forward.now c.args.from (docs_of c.args.entries.now) c.args.degrees.now c.loop-entry.degrees c.loop-entry.entry-index (get_or c.args.entries.now c.loop-entry.entry-index no_entry).doc c.args.ground.now.logs.now is

pub move_across-requires-clause-below : goal.move_across-requires-clause-below
move_across-requires-clause-below c =
    let is = front_of c.args.ground.now.forward.now c.args.from c.args.entries.now c.args.degrees.now c.loop-entry.degrees c.loop-entry.entry-index c.args.ground.now.logs.now c.is_sound.ensures.sound c.is_sound-2.ensures.sound c.requires.terms c.requires.counted c.requires.ready c.loop-entry.invariant.moved c.loop-entry-test.true c.requires.below in
    is.below

pub move_across-requires-clause-counted : goal.move_across-requires-clause-counted
move_across-requires-clause-counted c =
    let is = front_of c.args.ground.now.forward.now c.args.from c.args.entries.now c.args.degrees.now c.loop-entry.degrees c.loop-entry.entry-index c.args.ground.now.logs.now c.is_sound.ensures.sound c.is_sound-2.ensures.sound c.requires.terms c.requires.counted c.requires.ready c.loop-entry.invariant.moved c.loop-entry-test.true c.requires.below in
    now_counted c.args.ground.now.forward.now c.args.from (docs_of c.args.entries.now) c.args.degrees.now c.loop-entry.degrees c.loop-entry.entry-index (get_or c.args.entries.now c.loop-entry.entry-index no_entry).doc c.args.ground.now.logs.now is

pub loop-entry-preserved : goal.loop-entry-preserved
loop-entry-preserved c =
    let forward = c.args.ground.now.forward.now in
    let side = c.args.from in
    let docs = docs_of c.args.entries.now in
    let table = c.args.degrees.now in
    let now = c.loop-entry.degrees in
    let i = c.loop-entry.entry-index in
    let doc = (get_or c.args.entries.now c.loop-entry.entry-index no_entry).doc in
    let top = c.args.ground.now.logs.now in
    let is = front_of forward side c.args.entries.now table now i top c.is_sound.ensures.sound c.is_sound-2.ensures.sound c.requires.terms c.requires.counted c.requires.ready c.loop-entry.invariant.moved c.loop-entry-test.true c.requires.below in
    let ready = now_ready forward side docs table now i doc top is in
    let g = c.narrow_gain.result in
    let wide : to_z w128 (of_z w128 c.from-saved.result) ≡ g = omega (arith, ints, c.from-saved.ensures, c.narrow_gain.ensures.small.low, c.narrow_gain.ensures.small.high) in
    let saved = to_z w128 c.loop-entry.saved-bits in
    let z = saved +ℤ to_z w128 (of_z w128 c.from-saved.result) in
    let z_is : z ≡ saved +ℤ g = ap (λ (y : ℤ). saved +ℤ y) wide in
    let step = saved_more c.log_is_small.ensures.small top table now c.is_sound-2.ensures.sound c.requires.ready c.is_sound-in-loop-entry.ensures.sound ready saved g z c.loop-entry.invariant.saved c.narrow_gain.ensures.small z_is in
    let back = read_back_wide (2 ^ 92) z (omega arith) step in
    let costs = now_costs forward side docs table now i doc top is in
    let new = ap cost_of c.move_across.ensures.moved in
    record {
      moved = c.move_across.ensures.moved ∙ now_moved forward side docs table now i doc top is;
      saved = omega (arith, ints, back, z_is, c.narrow_gain.ensures.same, c.loop-entry.invariant.saved, costs, new);
    }
