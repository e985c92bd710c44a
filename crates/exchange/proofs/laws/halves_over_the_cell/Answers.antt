use Rattle.exchange.proofs.CellHalvings.{halves_over_the_cell}
use Rattle.exchange.proofs.laws.halves_over_the_cell.Goals as goal

pub returns : goal.returns
returns c = record { law = halves_over_the_cell c.cost_over_the_cell.ensures.law c.cost_over_the_cell.ensures.degrees }
