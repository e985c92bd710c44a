use Rattle.postings_rewrite.proofs.Orders.{twice}
use Rattle.postings_rewrite.proofs.laws.twice_is_once.Goals as goal

pub returns : goal.returns
returns c = record { law = twice c.numbers_undo_the_order.ensures.law }
