use Rattle.bool_query.proofs.AnswerLaws.{stored}
use Rattle.bool_query.proofs.answer_laws.store_answers_as_the_index.Goals as goal

pub returns : goal.returns
returns c = record { law = stored }
