use Rattle.exchange.proofs.OneRound.{pairs_are_one, kept_round_is_one}
use Rattle.exchange.proofs.laws.round_is_one.Goals as goal

pub returns : goal.returns
returns c = record { pairs = pairs_are_one; law = kept_round_is_one }
