use Rattle.std.proofs.Common.{map, slice_index, ap, ◌∙◌}
use Rattle.bool_query.specs.View.{tree_of}
use Rattle.live_index.proofs.Answering.{ids_below, answer_under}
use Rattle.live_index.proofs.answer.answer_from.Goals as goal

pub originals_of-requires : goal.originals_of-requires
originals_of-requires c =
    let v = c.args.view.now in
    rw c.as_slice.ensures.same (ids_below c.args.base.now v.numbering v.store c.args.dictionary.now (tree_of c.args.query.now) c.in_ok-ids.ids
    (record {
      undo = c.numbers_undo_the_order.ensures.law;
      renumbered = c.answers_are_renumbered.ensures.law;
      meant_below = c.answers_are_renumbered.ensures.below;
      stored = c.store_answers_as_the_index.ensures.law;
      sound = c.is_sound.ensures.sound;
      ordered = c.requires.order;
    }) c.documents-documents.ensures.sound c.requires.stored c.requires.terms c.in_ok-ids.ensures.ok)

pub returns-clause-ok : goal.returns-clause-ok
returns-clause-ok c =
    let v = c.args.view.now in
    answer_under c.args.base.now v.numbering v.store c.args.dictionary.now (tree_of c.args.query.now) c.in_ok-ids.ids
    (record {
      undo = c.numbers_undo_the_order.ensures.law;
      renumbered = c.answers_are_renumbered.ensures.law;
      meant_below = c.answers_are_renumbered.ensures.below;
      stored = c.store_answers_as_the_index.ensures.law;
      sound = c.is_sound.ensures.sound;
      ordered = c.requires.order;
    }) c.documents-documents.ensures.sound c.requires.stored c.requires.terms c.in_ok-ids.ensures.ok
    c.in_ok-originals.originals
    (c.in_ok-originals.ensures ∙ ap (map (slice_index v.numbering)) c.as_slice.ensures.same)
