use Rattle.forward_index.proofs.StartThere.{start_is_there}
use Rattle.forward_index.proofs.laws.start_by_name_is_there.Goals as goal

pub returns : goal.returns
returns c = record { law = start_is_there }
