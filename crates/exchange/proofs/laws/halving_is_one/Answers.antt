use Rattle.exchange.proofs.OneHalving.{halving_is_one, halves_are_one}
use Rattle.exchange.proofs.laws.halving_is_one.Goals as goal

pub returns : goal.returns
returns c = record { law = halving_is_one; halves = halves_are_one }
