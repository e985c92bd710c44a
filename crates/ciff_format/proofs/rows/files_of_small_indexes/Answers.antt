use Rattle.std.proofs.Common.{refl}
use Rattle.ciff_wire.specs.Varint.{groups, varint}
use Rattle.ciff_wire.specs.Canonical.{message_of}
use Rattle.ciff_format.specs.Canonical.{header_fields, posting_fields, gap_fields, postings_fields, list_fields, record_fields, framed, records_from, bytes_of}
use Rattle.rgb_base.specs.Gaps.{gaps_from}
use Rattle.ciff_format.proofs.rows.files_of_small_indexes.Goals as goal

pub returns-clause-nothing : goal.returns-clause-nothing
unfolding groups varint message_of header_fields posting_fields gap_fields gaps_from postings_fields list_fields record_fields framed records_from bytes_of
returns-clause-nothing c = refl

pub returns-clause-two_documents : goal.returns-clause-two_documents
unfolding groups varint message_of header_fields posting_fields gap_fields gaps_from postings_fields list_fields record_fields framed records_from bytes_of
returns-clause-two_documents c = refl

pub returns-clause-one_list : goal.returns-clause-one_list
unfolding groups varint message_of header_fields posting_fields gap_fields gaps_from postings_fields list_fields record_fields framed records_from bytes_of
returns-clause-one_list c = refl

pub returns-clause-one_posting : goal.returns-clause-one_posting
unfolding groups varint message_of header_fields posting_fields gap_fields gaps_from postings_fields list_fields record_fields framed records_from bytes_of
returns-clause-one_posting c = refl

pub returns-clause-negative : goal.returns-clause-negative
unfolding groups varint message_of header_fields posting_fields gap_fields gaps_from postings_fields list_fields record_fields framed records_from bytes_of
returns-clause-negative c = refl

pub returns-clause-six : goal.returns-clause-six
unfolding groups varint message_of header_fields posting_fields gap_fields gaps_from postings_fields list_fields record_fields framed records_from bytes_of
returns-clause-six c = refl

pub returns-clause-long : goal.returns-clause-long
unfolding groups varint message_of header_fields posting_fields gap_fields gaps_from postings_fields list_fields record_fields framed records_from bytes_of
returns-clause-long c = refl

pub returns-clause-far : goal.returns-clause-far
unfolding groups varint message_of header_fields posting_fields gap_fields gaps_from postings_fields list_fields record_fields framed records_from bytes_of
returns-clause-far c = refl
