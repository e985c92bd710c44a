use Rattle.rgb_app.proofs.Reorderings.{AreOne, AreThere}
use Rattle.rgb_app.proofs.Planning.{planned_once, first_is_identity}
use Rattle.rgb_app.proofs.laws.versions_are_planned.Goals as goal

pub returns : goal.returns
returns c =
    let ones : AreOne = record {
      forward = c.forward_is_one.ensures.law;
      start = c.start_by_name_is_one.ensures.law;
      numbering = c.bisection_is_one.ensures.numbering;
      documents = c.each_document_once.ensures.law;
      renumbering = c.renumbering_is_one.ensures.one;
    } in
    let theirs : AreThere = record {
      start = c.numbering_of_is_there.ensures.start;
      numbering = c.numbering_of_is_there.ensures.law;
      documents = c.each_document_once.ensures.law;
      renumbered = c.renumbering_is_one.ensures.there;
    } in
    record {
      one = planned_once ones theirs;
      first = first_is_identity c.numbers_undo_the_order.ensures.law;
    }
