use Rattle.rgb_base.proofs.Orders.{told}
use Rattle.rgb_base.proofs.laws.new_numbers_tell_the_order.Goals as goal

pub returns : goal.returns
returns c = record { law = told }
