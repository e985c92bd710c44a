use Rattle.ciff_wire.proofs.Messages.{canonical_spells, canonical_is_message}
use Rattle.ciff_wire.proofs.laws.canonical_is_message.Goals as goal

pub returns-clause-field : goal.returns-clause-field
returns-clause-field c = canonical_spells

pub returns-clause-message : goal.returns-clause-message
returns-clause-message c = canonical_is_message
