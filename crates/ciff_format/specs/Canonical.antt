-- The canonical file of an index (Common Index File Format, over Protocol Buffers).
-- A file is the header's message, those of the lists in order, and those of the records by rising
-- document number. Each message has its length before it as a varint. The fields of a message stand
-- by rising number; a number that is 0, an average whose bits are all 0 and an empty text are left
-- out.
use Rattle.std.specs.Prelude.{ℕ, ◌+◌, ◌==◌, ℤ, pos, List, [], ◌∷◌, ◌++◌, length, map, flat_map, if◌then◌else◌}
use Rattle.ciff_wire.specs.Varint.{varint}
use Rattle.ciff_wire.specs.Field.{Entry, as_eight, as_bytes}
use Rattle.ciff_wire.specs.Canonical.{message_of, number_field}
use Rattle.rgb_base.specs.declared.parts.Posting.{Posting}
use Rattle.rgb_base.specs.declared.parts.TermList.{TermList}
use Rattle.rgb_base.specs.declared.parts.DocRecord.{DocRecord}
use Rattle.rgb_base.specs.Gaps.{gaps_from}
use Rattle.rgb_base.specs.Parts.{IndexParts}

-- ---- fields

-- a field of bytes, which is there even where it is empty
abbrev pub bytes_field : ℕ → List ℕ → List Entry
bytes_field n bytes = record { number = n; held = as_bytes bytes } ∷ []

-- a text's field, left out where the text is empty
abbrev pub text_field : ℕ → List ℕ → List Entry
text_field n text = if length text == 0 then [] else bytes_field n text

-- eight bytes, left out where they are all zero
abbrev pub eight_field : ℕ → ℕ → List Entry
eight_field n bits = if bits == 0 then [] else record { number = n; held = as_eight bits } ∷ []

-- groups of fields, one behind another
abbrev pub in_order : List (List Entry) → List Entry
in_order [] = []
in_order (group ∷ []) = group
in_order (group ∷ next ∷ groups) = group ++ in_order (next ∷ groups)

-- ---- messages

-- Header: version 1, num_postings_lists 2, num_docs 3, total_postings_lists 4, total_docs 5,
-- total_terms_in_collection 6, average_doclength 7, description 8
unfoldable pub header_fields : IndexParts → List Entry
header_fields index = in_order (
    number_field 1 index.header.version
    ∷ number_field 2 (pos (length index.lists))
    ∷ number_field 3 (pos (length index.documents))
    ∷ number_field 4 index.header.total_lists
    ∷ number_field 5 index.header.total_docs
    ∷ number_field 6 index.header.total_terms
    ∷ eight_field 7 index.header.average_bits
    ∷ text_field 8 index.header.description
    ∷ []
    )

-- Posting: docid 1, the gap to the document before it in the list, and tf 2
unfoldable pub posting_fields : ℕ → ℤ → List Entry
posting_fields gap tf = in_order (number_field 1 (pos gap) ∷ number_field 2 tf ∷ [])

-- a field for each posting, with its gap
unfoldable pub gap_fields : List ℕ → List Posting → List Entry
gap_fields [] postings = []
gap_fields (gap ∷ gaps) [] = []
gap_fields (gap ∷ gaps) (posting ∷ postings) =
    bytes_field 4 (message_of (posting_fields gap posting.tf)) ++ gap_fields gaps postings

-- the fields of postings behind one of document `before`
unfoldable pub postings_fields : ℕ → List Posting → List Entry
unfolding gaps_from gap_fields
postings_fields before postings =
    gap_fields (gaps_from before (map (λ posting. posting.doc) postings)) postings

-- PostingsList: term 1, df 2, cf 3, postings 4 (repeated)
unfoldable pub list_fields : TermList → List Entry
list_fields list = in_order (
    text_field 1 list.term
    ∷ number_field 2 list.df
    ∷ number_field 3 list.cf
    ∷ postings_fields 0 list.postings
    ∷ []
    )

-- DocRecord: docid 1, collection_docid 2, doclength 3
unfoldable pub record_fields : ℕ → DocRecord → List Entry
record_fields doc document = in_order (
    number_field 1 (pos doc)
    ∷ text_field 2 document.name
    ∷ number_field 3 document.length
    ∷ []
    )

-- ---- the file

-- a message behind its length
unfoldable pub framed : List ℕ → List ℕ
framed message = varint (length message) ++ message

-- the messages of documents, the first of which has this number
unfoldable pub records_from : ℕ → List DocRecord → List ℕ
records_from doc [] = []
records_from doc (document ∷ documents) =
    framed (message_of (record_fields doc document)) ++ records_from (doc + 1) documents

-- the canonical file
unfoldable pub bytes_of : IndexParts → List ℕ
bytes_of index =
    framed (message_of (header_fields index))
    ++ (flat_map (λ list. framed (message_of (list_fields list))) index.lists
    ++ records_from 0 index.documents)
