use Rattle.bool_query.proofs.Steps.{holds_and}
use Rattle.bool_query.proofs.OpenTokens.{same_level}
use Rattle.bool_query.proofs.parser.Whole.join_and.Goals as goal

pub returns-clause-ok : goal.returns-clause-ok
returns-clause-ok c = λ at tokens whole.
    same_level c.in_ok-and.ensures.alls c.in_ok-and.ensures.nots (holds_and whole.holds whole.settled at)
