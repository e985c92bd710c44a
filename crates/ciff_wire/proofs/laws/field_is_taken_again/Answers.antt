use Rattle.ciff_wire.proofs.Messages.{field_is_taken_again, field_is_no_fault}
use Rattle.ciff_wire.proofs.laws.field_is_taken_again.Goals as goal

pub returns-clause-again : goal.returns-clause-again
returns-clause-again c = field_is_taken_again

pub returns-clause-no_fault : goal.returns-clause-no_fault
returns-clause-no_fault c = field_is_no_fault
