use Rattle.exchange.proofs.TherePairs.{pairs_are_there}
use Rattle.exchange.proofs.ThereRound.{round_is_there}
use Rattle.exchange.proofs.ThereHalving.{halves_are_there}
use Rattle.exchange.proofs.laws.halves_are_there.Goals as goal

pub returns : goal.returns
returns c = record { pairs = pairs_are_there; round = round_is_there; law = halves_are_there }
