use Rattle.rgb_host.proofs.Pieces.{created_then_appended}
use Rattle.rgb_host.proofs.laws.created_then_appended.Goals as goal

pub returns : goal.returns
returns c = record { whole = created_then_appended }
