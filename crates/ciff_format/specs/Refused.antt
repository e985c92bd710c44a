-- Refused files: the place at which the length of the first bad message starts, and the least of
-- its causes.
use Rattle.std.specs.Prelude.{◌≡◌, ◌⊎◌, ℕ, ◌^◌, ◌<◌, ◌≤◌, ℤ, pos, ◌≤ℤ◌, ◌<ℤ◌, List, [], length, drop, map, Contains}
use Rattle.ciff_wire.specs.Varint.{EndsEarly, RunsOn}
use Rattle.ciff_wire.specs.Field.{Entry}
use Rattle.rgb_base.specs.declared.parts.TermList.{TermList}
use Rattle.rgb_base.specs.Parts.{terms_of, AreSized}
use Rattle.ciff_format.specs.declared.cause.Cause.{Cause}
use Rattle.ciff_format.specs.declared.cause.Cause.TheVariants.{CutShort, BadLength, BadField, BadText, BadCount, BadGap, SameTerm, BadDoc, Trailing, TooMuch}
use Rattle.ciff_format.specs.Fields.{header_table, list_table, record_table, HasFields, AreTexts, int32_at, text_at}
use Rattle.ciff_format.specs.Messages.{LengthAt, MessageAt, header_of, AreCounts, PostingRows, HasListFields, gaps_in, AreGaps, IsListOf, document_of}
use Rattle.ciff_format.specs.Accepted.{Front, with_list, with_document, parts_so_far, ExpectsList, ExpectsRecord, ExpectsNothing, Good}

-- ---- any message

-- the bytes end before the length does, or before a message that would end at or before byte 2^41
abbrev pub IsCutShort : List ℕ → ℕ → Type 0
IsCutShort bytes place =
    EndsEarly (drop place bytes)
    ⊎ ((next : ℕ) × LengthAt bytes place next × (next ≤ 2 ^ 41) × (length bytes < next))

-- the length runs on, or the message would end after byte 2^41
abbrev pub IsTooLong : List ℕ → ℕ → Type 0
IsTooLong bytes place =
    RunsOn (drop place bytes)
    ⊎ ((next : ℕ) × LengthAt bytes place next × (2 ^ 41 < next))

-- what is wrong where a message is expected: with its place, or else with what it says
abbrev pub IsFaultAt : (List ℕ → Cause → Type 0) → List ℕ → ℕ → Cause → Type 0
IsFaultAt IsWrong bytes place CutShort = IsCutShort bytes place
IsFaultAt IsWrong bytes place BadLength = IsTooLong bytes place
IsFaultAt IsWrong bytes place cause =
    (message : List ℕ) × (next : ℕ) × MessageAt bytes place message next × IsWrong message cause

-- ---- the header

-- what is wrong with a header of these fields, the lesser causes first
abbrev pub HeaderFault : List Entry → Cause → Type 0
HeaderFault fields BadText = ¬ AreTexts header_table fields
HeaderFault fields BadCount = AreTexts header_table fields × ¬ AreCounts fields
HeaderFault fields TooMuch =
    AreTexts header_table fields × AreCounts fields
    × ¬ AreSized (record { header = header_of fields; lists = []; documents = [] })
HeaderFault fields cause = ⊥

abbrev pub IsHeaderFault : List ℕ → Cause → Type 0
IsHeaderFault message BadField = (fields : List Entry) → ¬ HasFields header_table message fields
IsHeaderFault message cause =
    (fields : List Entry) × HasFields header_table message fields × HeaderFault fields cause

-- ---- a list

-- what is wrong with a list of these fields and postings behind this front
abbrev pub ListFault : Front → List Entry → PostingRows → Cause → Type 0
ListFault front fields postings BadText = ¬ AreTexts list_table fields
ListFault front fields postings BadGap =
    AreTexts list_table fields × ¬ AreGaps front.document_count (gaps_in postings)
ListFault front fields postings SameTerm =
    AreTexts list_table fields × AreGaps front.document_count (gaps_in postings)
    × Contains (terms_of front.lists) (text_at 1 fields)
ListFault front fields postings TooMuch =
    AreTexts list_table fields × AreGaps front.document_count (gaps_in postings)
    × ¬ Contains (terms_of front.lists) (text_at 1 fields)
    × ((list : TermList) × IsListOf fields postings list
    × ¬ AreSized (parts_so_far (with_list front list)))
ListFault front fields postings cause = ⊥

abbrev pub IsListFault : Front → List ℕ → Cause → Type 0
IsListFault front message BadField =
    (fields : List Entry) (postings : PostingRows) → ¬ HasListFields message fields postings
IsListFault front message cause =
    (fields : List Entry) × (postings : PostingRows)
    × HasListFields message fields postings × ListFault front fields postings cause

-- ---- a record

-- the number is negative, not below the number of documents, or that of an earlier record
abbrev pub IsBadNumber : Front → ℤ → Type 0
IsBadNumber front number =
    (number <ℤ pos 0)
    ⊎ ((pos front.document_count ≤ℤ number)
    ⊎ Contains (map (λ one. pos one.number) front.records) number)

-- what is wrong with a record of these fields behind this front
abbrev pub RecordFault : Front → List Entry → Cause → Type 0
RecordFault front fields BadText = ¬ AreTexts record_table fields
RecordFault front fields BadDoc =
    AreTexts record_table fields × IsBadNumber front (int32_at 1 fields)
RecordFault front fields TooMuch =
    AreTexts record_table fields × ¬ IsBadNumber front (int32_at 1 fields)
    × ¬ AreSized (with_document (parts_so_far front) (document_of fields))
RecordFault front fields cause = ⊥

abbrev pub IsRecordFault : Front → List ℕ → Cause → Type 0
IsRecordFault front message BadField =
    (fields : List Entry) → ¬ HasFields record_table message fields
IsRecordFault front message cause =
    (fields : List Entry) × HasFields record_table message fields × RecordFault front fields cause

-- ---- the file

-- the file is refused at this place for this cause: all before the place is good, and what is
-- expected there is wrong, or nothing more is expected and a byte stands there
pub data Refused (bytes : List ℕ) (place : ℕ) (cause : Cause) : Type 0 where
  at_header : place ≡ 0 → IsFaultAt IsHeaderFault bytes place cause → Refused bytes place cause
  at_list : (front : Front) → Good bytes place front → ExpectsList front
      → IsFaultAt (IsListFault front) bytes place cause → Refused bytes place cause
  at_record : (front : Front) → Good bytes place front → ExpectsRecord front
      → IsFaultAt (IsRecordFault front) bytes place cause → Refused bytes place cause
  at_end : (front : Front) → Good bytes place front → ExpectsNothing front
      → place < length bytes → cause ≡ Trailing → Refused bytes place cause
