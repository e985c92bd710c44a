use Rattle.rgb_base.proofs.Orders.{twice, both_ways}
use Rattle.rgb_base.proofs.laws.inverse_of_inverse.Goals as goal

pub returns-clause-law : goal.returns-clause-law
returns-clause-law c = twice

pub returns-clause-both_ways : goal.returns-clause-both_ways
returns-clause-both_ways c = both_ways
