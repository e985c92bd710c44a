use Rattle.gap_report.proofs.Logs.{floor_log_is_greatest}
use Rattle.gap_report.proofs.laws.floor_log_is_greatest.Goals as goal

pub returns : goal.returns
returns c = record { greatest = floor_log_is_greatest }
