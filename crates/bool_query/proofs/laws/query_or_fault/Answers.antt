use Rattle.bool_query.proofs.Existence.{query_or_fault}
use Rattle.bool_query.proofs.laws.query_or_fault.Goals as goal

pub returns : goal.returns
returns c = record { some = query_or_fault }
