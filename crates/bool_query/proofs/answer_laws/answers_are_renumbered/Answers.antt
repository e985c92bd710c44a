use Rattle.bool_query.proofs.AnswerLaws.{renumbered, below}
use Rattle.bool_query.proofs.answer_laws.answers_are_renumbered.Goals as goal

pub returns : goal.returns
returns c = record { law = renumbered c.numbers_undo_the_order.ensures.law; below = below }
