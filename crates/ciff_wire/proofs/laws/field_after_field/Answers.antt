use Rattle.ciff_wire.proofs.Readings.{field_is_added, front_is_first}
use Rattle.ciff_wire.proofs.laws.field_after_field.Goals as goal

pub returns-clause-added : goal.returns-clause-added
returns-clause-added c = field_is_added

pub returns-clause-first : goal.returns-clause-first
returns-clause-first c = front_is_first
