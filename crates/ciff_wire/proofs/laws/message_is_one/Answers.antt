use Rattle.ciff_wire.proofs.Messages.{one_message, first_is_taken, first_is_put, fault_is_no_message}
use Rattle.ciff_wire.proofs.Faults.{one_fault}
use Rattle.ciff_wire.proofs.laws.message_is_one.Goals as goal

pub returns-clause-one : goal.returns-clause-one
returns-clause-one c = one_message

pub returns-clause-taken : goal.returns-clause-taken
returns-clause-taken c = first_is_taken

pub returns-clause-put : goal.returns-clause-put
returns-clause-put c = first_is_put

pub returns-clause-fault : goal.returns-clause-fault
returns-clause-fault c = fault_is_no_message

pub returns-clause-one_fault : goal.returns-clause-one_fault
returns-clause-one_fault c = one_fault
