use Rattle.fixed_log.proofs.LogLaws.{exponent_is_greatest, log_is_log}
use Rattle.fixed_log.proofs.laws.log_is_log.Goals as goal

pub returns-clause-exponent : goal.returns-clause-exponent
returns-clause-exponent c = exponent_is_greatest

pub returns-clause-power : goal.returns-clause-power
returns-clause-power c = log_is_log
