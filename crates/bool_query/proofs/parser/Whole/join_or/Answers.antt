use Rattle.bool_query.proofs.Steps.{holds_or}
use Rattle.bool_query.proofs.OpenTokens.{same_level}
use Rattle.bool_query.proofs.parser.Whole.join_or.Goals as goal

pub returns-clause-ok : goal.returns-clause-ok
returns-clause-ok c = λ at tokens whole.
    same_level c.in_ok-or.ensures.alls c.in_ok-or.ensures.nots (holds_or whole.holds whole.settled at)
