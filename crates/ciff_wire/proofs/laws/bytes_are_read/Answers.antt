use Rattle.ciff_wire.proofs.Readings.{read_always, front_always, message_or_fault, faulty_is_no_message}
use Rattle.ciff_wire.proofs.laws.bytes_are_read.Goals as goal

pub returns-clause-read : goal.returns-clause-read
returns-clause-read c = read_always

pub returns-clause-front : goal.returns-clause-front
returns-clause-front c = front_always

pub returns-clause-message : goal.returns-clause-message
returns-clause-message c = message_or_fault

pub returns-clause-never_both : goal.returns-clause-never_both
returns-clause-never_both c = faulty_is_no_message
