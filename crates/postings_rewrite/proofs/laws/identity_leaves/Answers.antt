use Rattle.postings_rewrite.proofs.Orders.{left}
use Rattle.postings_rewrite.proofs.laws.identity_leaves.Goals as goal

pub returns : goal.returns
returns c = record { law = left c.numbers_undo_the_order.ensures.law }
