use Rattle.std.proofs.Common.{sym, subst}
use Rattle.bool_query.specs.Fault.{IsAnswer}
use Rattle.bool_query.specs.Parser.{IsBehind}
use Rattle.bool_query.proofs.OpenTokens.{if_ok}
use Rattle.bool_query.proofs.Reading.{ended, if_err}
use Rattle.bool_query.proofs.parsing.finish.Goals as goal

pub returns-in-Waits-clause-fault : goal.returns-in-Waits-clause-fault
returns-in-Waits-clause-fault c = λ text tokens ends are behind.
    let waits = subst (λ s. IsBehind s tokens) c.in-Waits.is behind in
    subst (IsAnswer text) (sym c.fault.ensures) (ended ends are waits)

pub returns-clause-ok : goal.returns-clause-ok
returns-clause-ok c = if_ok c.finish.result c.finish.ensures.ok (λ query means text tokens are behind.
    means text tokens are (subst (λ s. IsBehind s tokens) c.in-Holds.is behind))

pub returns-clause-fault : goal.returns-clause-fault
returns-clause-fault c = if_err c.finish.result c.finish.ensures.fault (λ error fails text tokens ends are behind.
    fails c.args.end text tokens ends are (subst (λ s. IsBehind s tokens) c.in-Holds.is behind))
