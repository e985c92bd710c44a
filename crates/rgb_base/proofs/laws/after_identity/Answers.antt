use Rattle.rgb_base.proofs.Orders.{after_same, same_after}
use Rattle.rgb_base.proofs.laws.after_identity.Goals as goal

pub returns-clause-law : goal.returns-clause-law
returns-clause-law c = after_same

pub returns-clause-other_way : goal.returns-clause-other_way
returns-clause-other_way c = same_after
