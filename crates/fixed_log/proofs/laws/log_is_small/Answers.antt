use Rattle.fixed_log.proofs.LogLaws.{log_is_small}
use Rattle.fixed_log.proofs.laws.log_is_small.Goals as goal

pub returns : goal.returns
returns c = record { small = log_is_small }
