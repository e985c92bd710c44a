use Rattle.exchange.proofs.KeptHalves.{halves_keep_documents}
use Rattle.exchange.proofs.laws.halves_keep_documents.Goals as goal

pub returns : goal.returns
returns c = record { law = halves_keep_documents }
