use Rattle.degrees.proofs.Cells.{cost_over_the_cell, degrees_over_the_cell}
use Rattle.degrees.proofs.laws.cost_over_the_cell.Goals as goal

pub returns-clause-law : goal.returns-clause-law
returns-clause-law c = cost_over_the_cell

pub returns-clause-degrees : goal.returns-clause-degrees
returns-clause-degrees c = degrees_over_the_cell
