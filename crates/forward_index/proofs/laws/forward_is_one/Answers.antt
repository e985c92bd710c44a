use Rattle.forward_index.proofs.One.{forward_one, cell_one}
use Rattle.forward_index.proofs.laws.forward_is_one.Goals as goal

pub returns : goal.returns
returns c = record { law = forward_one; cell = cell_one }
