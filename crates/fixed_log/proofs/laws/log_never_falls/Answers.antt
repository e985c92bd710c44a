use Rattle.fixed_log.proofs.LogLaws.{log_never_falls}
use Rattle.fixed_log.proofs.laws.log_never_falls.Goals as goal

pub returns : goal.returns
returns c = record { never_falls = log_never_falls }
