use Rattle.bisection.proofs.LawOrder.{rounds_stand_in_order}
use Rattle.bisection.proofs.laws.rounds_stand_in_order.Goals as goal

pub returns : goal.returns
returns c = record { law = rounds_stand_in_order c.halves_keep_documents.ensures.law c.kept_rounds_are_a_chain.ensures.law }
