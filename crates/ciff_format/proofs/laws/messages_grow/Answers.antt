use Rattle.ciff_format.proofs.Growth.{header_is_good, list_is_added, record_is_added}
use Rattle.ciff_format.proofs.laws.messages_grow.Goals as goal

pub returns-clause-header : goal.returns-clause-header
returns-clause-header c = header_is_good

pub returns-clause-list : goal.returns-clause-list
returns-clause-list c = list_is_added

pub returns-clause-record : goal.returns-clause-record
returns-clause-record c = record_is_added
