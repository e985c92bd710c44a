use Rattle.rgb_base.proofs.Tables.{new_of-order, new_of-below, order-new_of, order-below}
use Rattle.rgb_base.proofs.laws.numbers_undo_the_order.Goals as goal

pub returns : goal.returns
returns c = record {
  law = λ order ordered.
      (λ old within. (new_of-below order old ordered within, order-new_of order old ordered within), λ new within. (order-below order new ordered within, new_of-order order new ordered within));
}
