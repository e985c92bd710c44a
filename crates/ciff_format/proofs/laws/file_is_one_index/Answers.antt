use Rattle.ciff_format.proofs.Indexes.{accepted_is_index}
use Rattle.ciff_format.proofs.Verdicts.{file_is_one_index}
use Rattle.ciff_format.proofs.laws.file_is_one_index.Goals as goal

pub returns-clause-one : goal.returns-clause-one
returns-clause-one c = file_is_one_index (record { read_is_one = c.spelling_is_read_again.ensures.one; one_message = c.message_is_one.ensures.one })

pub returns-clause-sound : goal.returns-clause-sound
returns-clause-sound c = accepted_is_index (record { read_is_one = c.spelling_is_read_again.ensures.one; one_message = c.message_is_one.ensures.one })
