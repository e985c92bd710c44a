use Rattle.degrees.proofs.Cells.{cost_of_loaded}
use Rattle.degrees.proofs.laws.cost_of_loaded.Goals as goal

pub returns : goal.returns
returns c = record { law = cost_of_loaded }
