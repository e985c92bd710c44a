use Rattle.rgb_app.proofs.Reorderings.{AreOne, AreThere}
use Rattle.rgb_app.proofs.Answerings.{AnswerLaws}
use Rattle.rgb_app.proofs.LiveOnes.{LiveLaws}
use Rattle.rgb_app.proofs.Outcomes.{QueryLaws, one_outcome, alike_outcomes, live_work_is_one, some_outcome}
use Rattle.rgb_app.proofs.laws.exactly_one_outcome.Goals as goal

pub returns : goal.returns
returns c =
    let ones : AreOne = record {
      forward = c.forward_is_one.ensures.law;
      start = c.start_by_name_is_one.ensures.law;
      numbering = c.bisection_is_one.ensures.numbering;
      documents = c.each_document_once.ensures.law;
      renumbering = c.renumbering_is_one.ensures.one;
    } in
    let theirs : AreThere = record {
      start = c.numbering_of_is_there.ensures.start;
      numbering = c.numbering_of_is_there.ensures.law;
      documents = c.each_document_once.ensures.law;
      renumbered = c.renumbering_is_one.ensures.there;
    } in
    let answers : AnswerLaws = record {
      one = c.answer_is_one.ensures.law;
      stored = c.store_answers_as_the_index.ensures.law;
      below = c.answers_are_renumbered.ensures.below;
    } in
    let told : QueryLaws = record {
      queries = c.queries_are_one.ensures.queries;
      fault = c.queries_are_one.ensures.fault;
      never_both = c.queries_are_one.ensures.never_both;
      answers = answers;
    } in
    let lives : LiveLaws = record {
      ones = ones;
      undo = c.numbers_undo_the_order.ensures.law;
      below = c.answers_are_renumbered.ensures.below;
      answer = c.answer_is_one.ensures.law;
    } in
    record {
      alike = alike_outcomes c.file_is_one_index.ensures.one c.refusal_is_one.ensures.one c.never_both.ensures.never_both ones told;
      versions = live_work_is_one c.file_is_one_index.ensures.one c.file_is_one_index.ensures.sound ones told lives;
      one = one_outcome c.file_is_one_index.ensures.one c.refusal_is_one.ensures.one c.never_both.ensures.never_both ones told;
      some = some_outcome c.every_file_is_read.ensures.read c.file_is_one_index.ensures.sound c.generated_is_index.ensures.law theirs c.every_file_has_verdict.ensures.some answers lives;
    }
