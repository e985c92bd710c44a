use Rattle.ciff_wire.proofs.Spellings.{none_is_front, spelling_is_read_again, read_is_one}
use Rattle.ciff_wire.proofs.laws.spelling_is_read_again.Goals as goal

pub returns-clause-front : goal.returns-clause-front
returns-clause-front c = none_is_front

pub returns-clause-again : goal.returns-clause-again
returns-clause-again c = spelling_is_read_again

pub returns-clause-one : goal.returns-clause-one
returns-clause-one c = read_is_one
