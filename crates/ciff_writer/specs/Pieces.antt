-- The pieces of a canonical file, each a message behind its length.
use Rattle.std.specs.Prelude.{ℕ, List, flat_map}
use Rattle.ciff_wire.specs.Canonical.{message_of}
use Rattle.ciff_format.specs.Canonical.{header_fields, list_fields, record_fields, framed}
use Rattle.rgb_base.specs.declared.parts.TermList.{TermList}
use Rattle.rgb_base.specs.declared.parts.DocRecord.{DocRecord}
use Rattle.rgb_base.specs.Parts.{IndexParts}

-- the header's message
abbrev pub header_bytes : IndexParts → List ℕ
header_bytes index = message_of (header_fields index)

-- a list's message
abbrev pub list_bytes : TermList → List ℕ
list_bytes list = message_of (list_fields list)

-- the message of a document of this number
abbrev pub record_bytes : ℕ → DocRecord → List ℕ
record_bytes doc document = message_of (record_fields doc document)

-- the lists' messages, each behind its length
abbrev pub lists_bytes : List TermList → List ℕ
lists_bytes lists = flat_map (λ list. framed (list_bytes list)) lists
