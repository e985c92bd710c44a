use Rattle.forward_index.proofs.StartOne.{start_one}
use Rattle.forward_index.proofs.laws.start_by_name_is_one.Goals as goal

pub returns : goal.returns
returns c = record { law = start_one }
