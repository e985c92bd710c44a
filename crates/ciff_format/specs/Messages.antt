-- A message at a place of a file, and what the header's message, a list's and a record's say.
use Rattle.std.specs.Prelude.{◌≡◌, ℕ, ◌+◌, ◌^◌, ◌<◌, ◌≤◌, ℤ, pos, ◌+ℤ◌, ◌≤ℤ◌, ◌<ℤ◌, List, [], ◌∷◌, length, take, drop, map, All}
use Rattle.std.specs.List.{AllZip}
use Rattle.ciff_wire.specs.Varint.{Reads}
use Rattle.ciff_wire.specs.Field.{Entry}
use Rattle.rgb_base.specs.declared.parts.TermList.{TermList}
use Rattle.rgb_base.specs.declared.parts.DocRecord.{DocRecord}
use Rattle.rgb_base.specs.declared.parts.Header.{Header}
use Rattle.ciff_format.specs.Fields.{header_table, list_table, posting_table, record_table, HasFields, AreTexts, int32_at, int64_at, double_at, text_at, each_at}

-- ---- a message at a place

-- a length is spelt at the place, and a message of that length behind it would end here
pub record LengthAt (bytes : List ℕ) (place next : ℕ) : Type 0 where
  pub size : ℕ
  pub used : ℕ
  pub reads : Reads (drop place bytes) size used
  pub ends : next ≡ place + used + size

-- at the place stands the message's length and behind it the message, which ends by byte 2^41
pub record MessageAt (bytes : List ℕ) (place : ℕ) (message : List ℕ) (next : ℕ) : Type 0 where
  pub used : ℕ
  pub reads : Reads (drop place bytes) (length message) used
  pub stands : take (length message) (drop (place + used) bytes) ≡ message
  pub ends : next ≡ place + used + length message
  pub within : next ≤ length bytes
  pub near : next ≤ 2 ^ 41

-- things stand one behind another from this place to the next
abbrev pub InARow : {A : Type 0} → (ℕ → A → ℕ → Type 0) → ℕ → List A → ℕ → Type 0
InARow Stands place [] next = next ≡ place
InARow Stands place (thing ∷ things) next =
    (behind : ℕ) × Stands place thing behind × InARow Stands behind things next

-- ---- the header

abbrev pub header_of : List Entry → Header
header_of fields = record {
  version = int32_at 1 fields;
  total_lists = int32_at 4 fields;
  total_docs = int32_at 5 fields;
  total_terms = int64_at 6 fields;
  average_bits = double_at 7 fields;
  description = text_at 8 fields;
}

-- neither number of messages is negative
pub record AreCounts (fields : List Entry) : Type 0 where
  pub lists : pos 0 ≤ℤ int32_at 2 fields
  pub documents : pos 0 ≤ℤ int32_at 3 fields

-- a good header's message at the front of the file, and the numbers of lists and documents in it
pub record HeaderAt (bytes : List ℕ) (header : Header) (lists documents next : ℕ) : Type 0 where
  pub message : List ℕ
  pub fields : List Entry
  pub stands : MessageAt bytes 0 message next
  pub read : HasFields header_table message fields
  pub texts : AreTexts header_table fields
  pub header_is : header ≡ header_of fields
  pub lists_are : int32_at 2 fields ≡ pos lists
  pub documents_are : int32_at 3 fields ≡ pos documents

-- ---- a list

-- the fields of each posting's message, in order
abbrev pub PostingRows : Type 0
PostingRows = List (List Entry)

-- the fields of a list's message, and those of each posting in it
pub record HasListFields (bytes : List ℕ) (fields : List Entry) (rows : PostingRows) : Type 0 where
  pub own : HasFields list_table bytes fields
  pub each : AllZip (HasFields posting_table) (each_at 4 fields) rows

abbrev pub gaps_in : PostingRows → List ℤ
gaps_in postings = map (int32_at 1) postings

-- the partial sums: each number is the one before it plus the gap, the first counts from this one
unfoldable pub sums_from : ℤ → List ℤ → List ℤ
sums_from before [] = []
sums_from before (gap ∷ gaps) = (before +ℤ gap) ∷ sums_from (before +ℤ gap) gaps

-- the first gap is at least 0, the later ones at least 1, and the partial sums lie below the number
-- of documents
pub record AreGaps (documents : ℕ) (gaps : List ℤ) : Type 0 where
  pub first : All (λ gap. pos 0 ≤ℤ gap) (take 1 gaps)
  pub later : All (λ gap. pos 1 ≤ℤ gap) (drop 1 gaps)
  pub below : All (λ sum. sum <ℤ pos documents) (sums_from (pos 0) gaps)

abbrev pub documents_of : TermList → List ℤ
documents_of list = map (λ posting. pos posting.doc) list.postings

-- the list that these fields say: its documents are the partial sums of the gaps
pub record IsListOf (fields : List Entry) (postings : PostingRows) (list : TermList) : Type 0 where
  pub term : list.term ≡ text_at 1 fields
  pub df : list.df ≡ int64_at 2 fields
  pub cf : list.cf ≡ int64_at 3 fields
  pub documents : documents_of list ≡ sums_from (pos 0) (gaps_in postings)
  pub frequencies : map (λ posting. posting.tf) list.postings ≡ map (int32_at 2) postings

-- a good list's message in a file of so many documents
pub record ListAt (bytes : List ℕ) (count place : ℕ) (list : TermList) (next : ℕ) : Type 0 where
  pub message : List ℕ
  pub fields : List Entry
  pub postings : PostingRows
  pub stands : MessageAt bytes place message next
  pub read : HasListFields message fields postings
  pub texts : AreTexts list_table fields
  pub gaps : AreGaps count (gaps_in postings)
  pub says : IsListOf fields postings list

-- ---- a record

-- a document's number and its record
pub record Numbered : Type 0 where
  pub number : ℕ
  pub document : DocRecord

abbrev pub document_of : List Entry → DocRecord
document_of fields = record { name = text_at 2 fields; length = int32_at 3 fields }

-- a good record's message in a file of so many documents
pub record RecordAt (bytes : List ℕ) (count place : ℕ) (one : Numbered) (next : ℕ) : Type 0 where
  pub message : List ℕ
  pub fields : List Entry
  pub stands : MessageAt bytes place message next
  pub read : HasFields record_table message fields
  pub texts : AreTexts record_table fields
  pub number_is : int32_at 1 fields ≡ pos one.number
  pub below : one.number < count
  pub document_is : one.document ≡ document_of fields
