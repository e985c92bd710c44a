use Rattle.fixed_log.proofs.LogLaws.{log_of_power}
use Rattle.fixed_log.proofs.laws.log_of_power.Goals as goal

pub returns : goal.returns
returns c = record { power = log_of_power }
