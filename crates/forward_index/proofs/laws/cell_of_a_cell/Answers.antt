use Rattle.forward_index.proofs.Twice.{cell_of_a_cell}
use Rattle.forward_index.proofs.laws.cell_of_a_cell.Goals as goal

pub returns : goal.returns
returns c = record { law = cell_of_a_cell }
