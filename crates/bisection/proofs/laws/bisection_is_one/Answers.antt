use Rattle.bisection.proofs.LawOne.{bisection_is_one, numbering_is_one}
use Rattle.bisection.proofs.laws.bisection_is_one.Goals as goal

pub returns : goal.returns
returns c = record { law = bisection_is_one c.halving_is_one.ensures.halves; numbering = numbering_is_one c.halving_is_one.ensures.halves }
