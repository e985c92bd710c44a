use Rattle.fixed_log.proofs.Growths.{growth_is_small}
use Rattle.fixed_log.proofs.laws.growth_is_small.Goals as goal

pub returns : goal.returns
returns c = record { small = growth_is_small }
