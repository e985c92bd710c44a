use Rattle.query_file.proofs.Verdicts.{every_file_has_verdict}
use Rattle.query_file.proofs.laws.every_file_has_verdict.Goals as goal

pub returns : goal.returns
returns c = record { some = every_file_has_verdict c.query_or_fault.ensures.some }
