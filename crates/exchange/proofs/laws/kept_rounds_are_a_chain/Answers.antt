use Rattle.exchange.proofs.Chain.{kept_rounds_are_a_chain}
use Rattle.exchange.proofs.laws.kept_rounds_are_a_chain.Goals as goal

pub returns : goal.returns
returns c = record { law = kept_rounds_are_a_chain }
