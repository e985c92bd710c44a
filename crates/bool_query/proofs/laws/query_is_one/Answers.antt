use Rattle.bool_query.proofs.Outcomes.{one_query, one_fault, never_both}
use Rattle.bool_query.proofs.laws.query_is_one.Goals as goal

pub returns-clause-query : goal.returns-clause-query
returns-clause-query c = one_query

pub returns-clause-fault : goal.returns-clause-fault
returns-clause-fault c = one_fault

pub returns-clause-never_both : goal.returns-clause-never_both
returns-clause-never_both c = never_both
