-- Records in any order, put into an index that takes them by rising number: what comes too early
-- waits.
use Rattle.std.specs.Prelude.{◌≡◌, ◌≢◌, ◌⊎◌, ℕ, ◌+◌, ◌^◌, ◌<◌, ◌≤◌, List, [], length, pos, Option, Some, IsSome, slice_get, Contains, All}
use Rattle.std.specs.Ordering.{nat_cmp}
use Rattle.std.specs.BTreeMap.{get}
use Rattle.ciff_wire.specs.Field.{Entry}
use Rattle.rgb_base.specs.declared.parts.DocRecord.{DocRecord}
use Rattle.rgb_base.specs.declared.parts.TermList.{TermList}
use Rattle.rgb_base.specs.Parts.{AreSized, terms_of, posting_count, text_size}
use Rattle.rgb_base.specs.Building.{Building, parts_of}
use Rattle.rgb_host.specs.Seen.{Seen}
use Rattle.ciff_reader.specs.Window.{Held}
use Rattle.ciff_reader.specs.Steps.{AtGood}
use Rattle.ciff_format.specs.Fields.{HasFields, AreTexts, record_table, int32_at}
use Rattle.ciff_format.specs.Messages.{Numbered, document_of}
use Rattle.ciff_reader.specs.declared.waiting.Waiting.{Waiting}
use Rattle.ciff_format.specs.Accepted.{Front, numbers_of, parts_so_far, with_record, with_document, ExpectsNothing, HasRecord}

-- the record that waits under a number
abbrev pub found : Waiting → ℕ → Option DocRecord
found waiting n = get nat_cmp waiting.records n

-- they are the same but at this number
abbrev pub StaysBut : ℕ → Waiting → Waiting → Type 0
StaysBut number before after = (n : ℕ) → n ≢ number → found after n ≡ found before n

-- the record stands in the index or waits
abbrev pub IsPlaced : Building → Waiting → Numbered → Type 0
IsPlaced building waiting one =
    (slice_get building.records one.number ≡ Some one.document)
    ⊎ (found waiting one.number ≡ Some one.document)

-- the messages say what stands in the index and what waits, and nothing else is there; of the lists
-- only the terms count here, so that those in the index may have no postings
pub record HasRead (front : Front) (building : Building) (waiting : Waiting) : Type 0 where
  pub header : front.header ≡ building.header
  pub documents : front.document_count ≡ building.documents
  pub terms : terms_of front.lists ≡ terms_of building.lists
  pub none_open : building.postings ≡ []
  pub placed : (one : Numbered) → Contains front.records one → IsPlaced building waiting one
  pub standing : (n : ℕ) → n < length building.records → Contains (numbers_of front.records) n
  pub waits : (n : ℕ) → IsSome (found waiting n) → Contains (numbers_of front.records) n

-- what waits comes at this number or later
abbrev pub WaitsFrom : ℕ → Waiting → Type 0
WaitsFrom first waiting = (n : ℕ) → IsSome (found waiting n) → first ≤ n

-- and the number next in the index doesn't wait
pub record HasReadAll (front : Front) (building : Building) (waiting : Waiting) (text : ℕ)
    : Type 0 where
  pub read : HasRead front building waiting
  pub later : WaitsFrom (length building.records + 1) waiting
  pub text_is : text ≡ text_size (parts_so_far front)

-- the record's message, next behind this front
pub record IsNextRecord (message : List ℕ) (front : Front) (one : Numbered) : Type 0 where
  pub fields : List Entry
  pub read : HasFields record_table message fields
  pub texts : AreTexts record_table fields
  pub number_is : int32_at 1 fields ≡ pos one.number
  pub below : one.number < front.document_count
  pub document_is : one.document ≡ document_of fields
  pub new_number : ¬ Contains (numbers_of front.records) one.number
  pub sized : AreSized (with_document (parts_so_far front) one.document)

-- one more record is read, next behind the front where its postings aren't too many
pub record HasOneMoreRecord (message : List ℕ) (front : Front) (building : Building)
    (waiting : Waiting) (text : ℕ) : Type 0 where
  pub one : Numbered
  pub new_number : ¬ Contains (numbers_of front.records) one.number
  pub below : one.number < front.document_count
  pub next : posting_count front.lists < 2 ^ 32 → IsNextRecord message front one
  pub read : HasReadAll (with_record front one) building waiting text

-- ---- the file

-- with these lists in place of its own
abbrev pub with_lists : List TermList → Building → Building
with_lists lists building = record building { lists = lists }

-- one more record is taken off the window, and is good in each file in which the front is
pub record TakesRecord (host : Seen) (name : List ℕ) (before after : Held) (front : Front)
    (building : Building) (waiting : Waiting) (text : ℕ) : Type 0 where
  pub one : Numbered
  pub read : HasReadAll (with_record front one) building waiting text
  pub new_number : ¬ Contains (numbers_of front.records) one.number
  pub below : one.number < front.document_count
  pub at : (file : List ℕ) → AtGood host name before front file
      → AtGood host name after (with_record front one) file

-- all records stand in the index
pub record EndsGood (host : Seen) (name : List ℕ) (window : Held) (building : Building)
    (file : List ℕ) : Type 0 where
  pub front : Front
  pub at : AtGood host name window front file
  pub whole : ExpectsNothing front
  pub header : building.header ≡ front.header
  pub lists : building.lists ≡ front.lists
  pub count : length building.records ≡ front.document_count
  pub documents : All (HasRecord (parts_of building)) front.records
