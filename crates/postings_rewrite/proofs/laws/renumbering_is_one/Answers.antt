use Rattle.postings_rewrite.proofs.Orders.{one_index}
use Rattle.postings_rewrite.proofs.Sorting.{there}
use Rattle.postings_rewrite.proofs.laws.renumbering_is_one.Goals as goal

pub returns : goal.returns
returns c = record { there = there c.numbers_undo_the_order.ensures.law; one = one_index }
