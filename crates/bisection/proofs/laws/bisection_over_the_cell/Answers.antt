use Rattle.bisection.proofs.LawCell.{bisection_over_the_cell}
use Rattle.bisection.proofs.laws.bisection_over_the_cell.Goals as goal

pub returns : goal.returns
returns c = record { law = bisection_over_the_cell c.halves_keep_documents.ensures.law c.halves_over_the_cell.ensures.law }
