use Rattle.query_file.proofs.Verdicts.{queries_are_one, first_fault_is_one, accepted_has_no_fault}
use Rattle.query_file.proofs.laws.queries_are_one.Goals as goal

pub returns : goal.returns
returns c = record {
  queries = queries_are_one c.query_is_one.ensures.query;
  fault = first_fault_is_one c.query_is_one.ensures.never_both c.query_is_one.ensures.fault;
  never_both = accepted_has_no_fault c.query_is_one.ensures.never_both;
}
