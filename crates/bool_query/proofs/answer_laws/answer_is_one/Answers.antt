use Rattle.bool_query.proofs.AnswerLaws.{one}
use Rattle.bool_query.proofs.answer_laws.answer_is_one.Goals as goal

pub returns : goal.returns
returns c = record { law = one }
