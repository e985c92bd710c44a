-- Accepted files (Common Index File Format): the header's message, those of the lists, those of the
-- records in any order, and nothing behind them.
use Rattle.std.specs.Prelude.{◌≡◌, ◌≢◌, ◌⊎◌, ℕ, ◌<◌, ◌≤◌, List, [], ◌∷◌, ◌++◌, length, map, All, AllPairs, slice_get, Some}
use Rattle.rgb_base.specs.declared.parts.TermList.{TermList}
use Rattle.rgb_base.specs.declared.parts.DocRecord.{DocRecord}
use Rattle.rgb_base.specs.declared.parts.Header.{Header}
use Rattle.rgb_base.specs.Parts.{IndexParts, terms_of, AreDifferent, AreSized}
use Rattle.ciff_format.specs.Messages.{InARow, HeaderAt, ListAt, RecordAt, Numbered}

-- what the messages at the front of a file say: the header with the numbers of lists and documents
-- to come, the lists so far, and the records so far
pub record Front : Type 0 where
  pub header : Header
  pub list_count : ℕ
  pub document_count : ℕ
  pub lists : List TermList
  pub records : List Numbered

abbrev pub numbers_of : List Numbered → List ℕ
numbers_of records = map (λ one. one.number) records

-- the front with one more list, or one more record
abbrev pub with_list : Front → TermList → Front
with_list front list = record front { lists = front.lists ++ list ∷ [] }

abbrev pub with_record : Front → Numbered → Front
with_record front one = record front { records = front.records ++ one ∷ [] }

-- the header, the lists and the records so far, the latter as they stand in the file
abbrev pub parts_so_far : Front → IndexParts
parts_so_far front = record {
  header = front.header;
  lists = front.lists;
  documents = map (λ one. one.document) front.records;
}

-- parts with one more document at the end
abbrev pub with_document : IndexParts → DocRecord → IndexParts
with_document parts document = record parts { documents = parts.documents ++ document ∷ [] }

-- all lists are there
abbrev pub HasLists : Front → Type 0
HasLists front = length front.lists ≡ front.list_count

-- a list is expected next, or a record, or nothing more
abbrev pub ExpectsList : Front → Type 0
ExpectsList front = length front.lists < front.list_count

abbrev pub ExpectsRecord : Front → Type 0
ExpectsRecord front = HasLists front × (length front.records < front.document_count)

abbrev pub ExpectsNothing : Front → Type 0
ExpectsNothing front = HasLists front × (length front.records ≡ front.document_count)

-- the rules that messages keep together
pub record KeepsRules (front : Front) : Type 0 where
  pub lists : length front.lists ≤ front.list_count
  pub records : length front.records ≤ front.document_count
  pub order : (front.records ≡ []) ⊎ HasLists front
  pub terms : AreDifferent (terms_of front.lists)
  pub numbers : AllPairs (λ a b. a ≢ b) (numbers_of front.records)
  pub sized : AreSized (parts_so_far front)

-- the bytes up to this place are good messages, and this is what they say
pub record Good (bytes : List ℕ) (place : ℕ) (front : Front) : Type 0 where
  pub lists_begin : ℕ
  pub records_begin : ℕ
  pub header : HeaderAt bytes front.header front.list_count front.document_count lists_begin
  pub lists : InARow (ListAt bytes front.document_count) lists_begin front.lists records_begin
  pub records : InARow (RecordAt bytes front.document_count) records_begin front.records place
  pub rules : KeepsRules front

-- the document of this number has this record
abbrev pub HasRecord : IndexParts → Numbered → Type 0
HasRecord index one = slice_get index.documents one.number ≡ Some one.document

-- the file is accepted as this index: all its bytes are good messages, all lists and records are
-- there, and each document has the record of its number
pub record Accepted (bytes : List ℕ) (index : IndexParts) : Type 0 where
  pub front : Front
  pub good : Good bytes (length bytes) front
  pub whole : ExpectsNothing front
  pub header : index.header ≡ front.header
  pub lists : index.lists ≡ front.lists
  pub count : length index.documents ≡ front.document_count
  pub documents : All (HasRecord index) front.records
