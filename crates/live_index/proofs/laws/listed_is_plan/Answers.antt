use Rattle.live_index.proofs.Plans as plans
use Rattle.live_index.proofs.laws.listed_is_plan.Goals as goal

pub returns : goal.returns
returns c = record { law = plans.listed_is_plan; begins = plans.listed_begins }
