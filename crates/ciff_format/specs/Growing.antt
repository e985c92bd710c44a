-- How a file is read on: field after field in a message, posting after posting in a list, and
-- message after message in the file.
use Rattle.std.specs.Prelude.{◌≡◌, ◌==◌, ◌↔◌, ℕ, ℤ, pos, ◌+ℤ◌, ◌≤ℤ◌, ◌<ℤ◌, List, [], ◌∷◌, ◌++◌, take, Some, None, All, Contains, if◌then◌else◌}
use Rattle.ciff_wire.specs.Field.{Entry, as_bytes, IsMessage}
use Rattle.rgb_base.specs.declared.parts.TermList.{TermList}
use Rattle.rgb_base.specs.declared.parts.Header.{Header}
use Rattle.rgb_base.specs.Parts.{terms_of, AreSized}
use Rattle.ciff_format.specs.Fields.{Known, posting_table, HasItsType, HasFields, HasText, AreTexts, held_at, each_at, bytes_where}
use Rattle.ciff_format.specs.Messages.{HeaderAt, PostingRows, HasListFields, sums_from, AreGaps, ListAt, RecordAt, Numbered}
use Rattle.ciff_format.specs.Accepted.{Front, with_list, with_record, with_document, parts_so_far, numbers_of, ExpectsList, ExpectsRecord, Good}

-- the header alone, with its numbers of lists and documents
abbrev pub front_of : Header → ℕ → ℕ → Front
front_of header lists documents = record {
  header = header;
  list_count = lists;
  document_count = documents;
  lists = [];
  records = [];
}

-- a good list's message is next
pub record NextList (bytes : List ℕ) (at : ℕ) (front : Front) (list : TermList) (next : ℕ)
    : Type 0 where
  pub expected : ExpectsList front
  pub stands : ListAt bytes front.document_count at list next
  pub new_term : ¬ Contains (terms_of front.lists) list.term
  pub sized : AreSized (parts_so_far (with_list front list))

-- a good record's message is next
pub record NextRecord (bytes : List ℕ) (at : ℕ) (front : Front) (one : Numbered) (next : ℕ)
    : Type 0 where
  pub expected : ExpectsRecord front
  pub stands : RecordAt bytes front.document_count at one next
  pub new_number : ¬ Contains (numbers_of front.records) one.number
  pub sized : AreSized (with_document (parts_so_far front) one.document)

abbrev pub HeaderIsGood : Type 0
HeaderIsGood =
    (bytes : List ℕ) (header : Header) (lists documents next : ℕ)
    → HeaderAt bytes header lists documents next
    → AreSized (parts_so_far (front_of header lists documents))
    → Good bytes next (front_of header lists documents)

abbrev pub ListIsAdded : Type 0
ListIsAdded =
    (bytes : List ℕ) (place next : ℕ) (front : Front) (list : TermList)
    → Good bytes place front → NextList bytes place front list next
    → Good bytes next (with_list front list)

abbrev pub RecordIsAdded : Type 0
RecordIsAdded =
    (bytes : List ℕ) (place next : ℕ) (front : Front) (one : Numbered)
    → Good bytes place front → NextRecord bytes place front one next
    → Good bytes next (with_record front one)

-- ---- fields

-- of no fields none holds anything; one more field is what its number holds, and what no other does
abbrev pub NothingHeld : Type 0
NothingHeld = (n : ℕ) → (held_at n [] ≡ None) × (each_at n [] ≡ [])

abbrev pub LaterWins : Type 0
LaterWins =
    (n : ℕ) (fields : List Entry) (entry : Entry)
    → held_at n (fields ++ entry ∷ [])
    ≡ (if entry.number == n then Some entry.held else held_at n fields)

abbrev pub EachIsAdded : Type 0
EachIsAdded =
    (n : ℕ) (fields : List Entry) (entry : Entry)
    → each_at n (fields ++ entry ∷ []) ≡ each_at n fields ++ bytes_where n entry

-- fields have their types, and their texts are good, exactly where those of a front do and the next
abbrev pub TypesGrow : Type 0
TypesGrow =
    (table : List Known) (fields : List Entry) (entry : Entry)
    → All (HasItsType table) (fields ++ entry ∷ [])
    ↔ (All (HasItsType table) fields × HasItsType table entry)

abbrev pub TextsGrow : Type 0
TextsGrow =
    (table : List Known) (fields : List Entry) (entry : Entry)
    → AreTexts table (fields ++ entry ∷ []) ↔ (AreTexts table fields × HasText table entry)

-- a message has no good fields where a front has a field of another wire type
abbrev pub WrongTypeIsBad : Type 0
WrongTypeIsBad =
    (table : List Known) (message : List ℕ) (front fields : List Entry) (at : ℕ)
    → IsMessage (take at message) front → ¬ All (HasItsType table) front
    → ¬ HasFields table message fields

-- a list's message has none where a front ends in a posting that has none
abbrev pub BadPostingIsBad : Type 0
BadPostingIsBad =
    (message posting : List ℕ) (front fields : List Entry) (rows : PostingRows) (at : ℕ)
    → IsMessage (take at message) (front ++ record { number = 4; held = as_bytes posting } ∷ [])
    → ((row : List Entry) → ¬ HasFields posting_table posting row)
    → ¬ HasListFields message fields rows

-- ---- gaps

-- what the gaps lead to from this number
unfoldable pub sum_after : ℤ → List ℤ → ℤ
sum_after before [] = before
sum_after before (gap ∷ gaps) = sum_after (before +ℤ gap) gaps

abbrev pub SumsGrow : Type 0
SumsGrow =
    (before gap : ℤ) (gaps : List ℤ)
    → sums_from before (gaps ++ gap ∷ [])
    ≡ sums_from before gaps ++ (sum_after before gaps +ℤ gap) ∷ []

abbrev pub SumGrows : Type 0
SumGrows =
    (before gap : ℤ) (gaps : List ℤ)
    → sum_after before (gaps ++ gap ∷ []) ≡ sum_after before gaps +ℤ gap

-- the least gap behind these
abbrev pub least_gap : List ℤ → ℤ
least_gap [] = pos 0
least_gap (gap ∷ gaps) = pos 1

-- a good gap behind these
pub record IsGapBehind (documents : ℕ) (gaps : List ℤ) (gap : ℤ) : Type 0 where
  pub least : least_gap gaps ≤ℤ gap
  pub below : (sum_after (pos 0) gaps +ℤ gap) <ℤ pos documents

-- gaps are good exactly where those of a front are and the next
abbrev pub GapsGrow : Type 0
GapsGrow =
    (documents : ℕ) (gaps : List ℤ) (gap : ℤ)
    → AreGaps documents (gaps ++ gap ∷ [])
    ↔ (AreGaps documents gaps × IsGapBehind documents gaps gap)
