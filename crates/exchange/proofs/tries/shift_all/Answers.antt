use Rattle.std.proofs.Common.{get_or, refl, ◌∙◌, []}
use Rattle.degrees.specs.Cost.{degree}
use Rattle.exchange.specs.Tries.{docs_of}
use Rattle.exchange.specs.Tries.{no_entry}
use Rattle.exchange.proofs.Many.{front_of, none_across, now_terms, now_counted, now_moved}
use Rattle.exchange.proofs.tries.shift_all.Goals as goal

pub loop-entry-init : goal.loop-entry-init
loop-entry-init c = record {
  moved = none_across c.args.from (degree c.args.ground.now.forward.now []) c.args.degrees.now (λ t. refl);
}

pub move_across-requires-clause-terms : goal.move_across-requires-clause-terms
move_across-requires-clause-terms c =
    let is = front_of c.args.ground.now.forward.now c.args.from c.args.entries.now c.args.degrees.now c.loop-entry.degrees c.loop-entry.entry-index c.args.ground.now.logs.now c.is_sound.ensures.sound c.is_sound-2.ensures.sound c.requires.terms c.requires.counted c.requires.ready c.loop-entry.invariant.moved c.loop-entry-test.true c.requires.below in
    now_terms c.args.ground.now.forward.now c.args.from (docs_of c.args.entries.now) c.args.degrees.now c.loop-entry.degrees c.loop-entry.entry-index (get_or c.args.entries.now c.loop-entry.entry-index no_entry).doc c.args.ground.now.logs.now is

pub move_across-requires-clause-below : goal.move_across-requires-clause-below
move_across-requires-clause-below c =
    let is = front_of c.args.ground.now.forward.now c.args.from c.args.entries.now c.args.degrees.now c.loop-entry.degrees c.loop-entry.entry-index c.args.ground.now.logs.now c.is_sound.ensures.sound c.is_sound-2.ensures.sound c.requires.terms c.requires.counted c.requires.ready c.loop-entry.invariant.moved c.loop-entry-test.true c.requires.below in
    is.below

pub move_across-requires-clause-counted : goal.move_across-requires-clause-counted
move_across-requires-clause-counted c =
    let is = front_of c.args.ground.now.forward.now c.args.from c.args.entries.now c.args.degrees.now c.loop-entry.degrees c.loop-entry.entry-index c.args.ground.now.logs.now c.is_sound.ensures.sound c.is_sound-2.ensures.sound c.requires.terms c.requires.counted c.requires.ready c.loop-entry.invariant.moved c.loop-entry-test.true c.requires.below in
    now_counted c.args.ground.now.forward.now c.args.from (docs_of c.args.entries.now) c.args.degrees.now c.loop-entry.degrees c.loop-entry.entry-index (get_or c.args.entries.now c.loop-entry.entry-index no_entry).doc c.args.ground.now.logs.now is

pub loop-entry-preserved : goal.loop-entry-preserved
loop-entry-preserved c =
    let forward = c.args.ground.now.forward.now in
    let side = c.args.from in
    let table = c.args.degrees.now in
    let now = c.loop-entry.degrees in
    let i = c.loop-entry.entry-index in
    let doc = (get_or c.args.entries.now c.loop-entry.entry-index no_entry).doc in
    let top = c.args.ground.now.logs.now in
    let is = front_of forward side c.args.entries.now table now i top c.is_sound.ensures.sound c.is_sound-2.ensures.sound c.requires.terms c.requires.counted c.requires.ready c.loop-entry.invariant.moved c.loop-entry-test.true c.requires.below in
    record {
      moved = c.move_across.ensures.moved ∙ now_moved forward side (docs_of c.args.entries.now) table now i doc top is;
    }
