use Rattle.ciff_format.proofs.Fields.{sums_grow, sum_grows, gaps_grow}
use Rattle.ciff_format.proofs.laws.gaps_grow.Goals as goal

pub returns : goal.returns
returns c = record { sums = sums_grow; sum = sum_grows; good = gaps_grow }
