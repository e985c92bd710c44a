-- How a list's message is read into an index that is being built.
use Rattle.std.specs.Prelude.{◌≡◌, ◌⊎◌, ◌↔◌, ℕ, ◌+◌, ◌^◌, ◌≤◌, pos, List, [], ◌∷◌, ◌++◌, length, take, map, Option, Some, None, Contains, IsTrue}
use Rattle.std.specs.List.{AllZip}
use Rattle.ciff_wire.specs.Field.{Entry, SpellsField, as_bytes}
use Rattle.rgb_base.specs.declared.parts.Posting.{Posting}
use Rattle.rgb_base.specs.declared.parts.TermList.{TermList}
use Rattle.rgb_base.specs.Parts.{terms_of, posting_count, AreSized}
use Rattle.rgb_base.specs.Building.{Building, IsBuilding, HasTerm, IsFullOfText, with_list, parts_of}
use Rattle.ciff_format.specs.declared.cause.Cause.{Cause}
use Rattle.ciff_format.specs.declared.cause.Cause.TheVariants.{BadText, BadGap, SameTerm, TooMuch}
use Rattle.ciff_format.specs.Fields.{HasItsType, HasFields, AreTexts, list_table, posting_table, int32_at, int64_at, text_at, each_at}
use Rattle.ciff_format.specs.Messages.{PostingRows, HasListFields, gaps_in, sums_from, AreGaps, IsListOf}
use Rattle.ciff_format.specs.Accepted.{Front}
use Rattle.ciff_format.specs.Growing.{sum_after, least_gap}
use Rattle.ciff_reader.specs.declared.error.Refusal.{Refusal}
use Rattle.ciff_reader.specs.declared.error.Refusal.TheVariants as refusals
use Rattle.ciff_reader.specs.declared.gaps.Gaps.{Gaps}
use Rattle.ciff_reader.specs.declared.list.ListFields.{ListFields}
use Rattle.ciff_reader.specs.declared.posting.PostingFields.{PostingFields}
use Rattle.ciff_reader.specs.Says.{ReadAs, SaysPosting}

-- what the messages before the records say, in a file of so many lists
abbrev pub listing : ℕ → Building → Front
listing lists building = record {
  header = building.header;
  list_count = lists;
  document_count = building.documents;
  lists = building.lists;
  records = [];
}

-- a message is refused for its cause; want of memory is free
abbrev pub IsRefusal : (Cause → Type 0) → Refusal → Type 0
IsRefusal IsWrong (refusals.Cause cause) = IsWrong cause
IsRefusal IsWrong refusals.OutOfMemory = Unit {0}

-- with no posting in the open list
abbrev pub without_postings : Building → Building
without_postings building = record building { postings = [] }

-- nothing but the postings of the open list has changed
abbrev pub ChangesPostings : Building → Building → Type 0
ChangesPostings before after = after ≡ record before { postings = after.postings }

-- ---- gaps

-- the postings are those of the rows
pub record ArePostings (rows : PostingRows) (postings : List Posting) : Type 0 where
  pub documents : map (λ posting. pos posting.doc) postings ≡ sums_from (pos 0) (gaps_in rows)
  pub frequencies : map (λ posting. posting.tf) postings ≡ map (int32_at 2) rows

-- the gaps of the rows are good: the postings stand in the open list, or are too many for it
pub record SaysGoodGaps (rows : PostingRows) (kept : Gaps) (building : Building) : Type 0 where
  pub good : AreGaps building.documents (gaps_in rows)
  pub least : pos kept.least ≡ least_gap (gaps_in rows)
  pub document : pos kept.document ≡ sum_after (pos 0) (gaps_in rows)
  pub few : IsTrue kept.are_few → ArePostings rows building.postings
  pub many : ¬ IsTrue kept.are_few → 2 ^ 32 ≤ posting_count building.lists + length rows

pub record SaysGaps (rows : PostingRows) (kept : Gaps) (building : Building) : Type 0 where
  pub good : IsTrue kept.are_good → SaysGoodGaps rows kept building
  pub bad : ¬ IsTrue kept.are_good → ¬ AreGaps building.documents (gaps_in rows)

-- ---- fields

-- what is kept of a list's own fields
pub record SaysList (fields : List Entry) (kept : ListFields) : Type 0 where
  pub term : IsTrue kept.are_texts → kept.term.now ≡ text_at 1 fields
  pub df : kept.df ≡ int64_at 2 fields
  pub cf : kept.cf ≡ int64_at 3 fields
  pub texts : IsTrue kept.are_texts ↔ AreTexts list_table fields

-- what is kept of its postings, and stands in the open list
pub record SaysPostings (fields : List Entry) (rows : PostingRows) (kept : Gaps)
    (building : Building) : Type 0 where
  pub each : AllZip (HasFields posting_table) (each_at 4 fields) rows
  pub gaps : SaysGaps rows kept building

-- the field has a wrong wire type, or is a posting whose fields can't be read
abbrev pub IsBadField : Entry → Type 0
IsBadField entry =
    (¬ HasItsType list_table entry)
    ⊎ ((posting : List ℕ) × (entry ≡ record { number = 4; held = as_bytes posting })
    × ((row : List Entry) → ¬ HasFields posting_table posting row))

-- one more field, which may be one more posting in the open list
abbrev pub TakesPosting : Entry → Gaps → Building → Option Gaps → Building → Type 0
TakesPosting entry kept building None building' = IsBadField entry
TakesPosting entry kept building (Some kept') building' =
    (fields : List Entry) (rows : PostingRows) → SaysPostings fields rows kept building
    → (rows' : PostingRows) × SaysPostings (fields ++ entry ∷ []) rows' kept' building'

-- a field of a posting stands at the front and takes so many bytes, and this is what it says
pub record StartsWithPosting (bytes : List ℕ) (kept : PostingFields) (used : ℕ) : Type 0 where
  pub posting : List ℕ
  pub within : used ≤ length bytes
  pub spells : SpellsField (take used bytes) (record { number = 4; held = as_bytes posting })
  pub read : ReadAs posting_table SaysPosting posting kept

-- ---- the list

-- the message's fields, and what is kept of them
pub record ReadsList (message : List ℕ) (kept : ListFields) (gaps : Gaps) (building : Building)
    : Type 0 where
  pub fields : List Entry
  pub rows : PostingRows
  pub read : HasFields list_table message fields
  pub says : SaysList fields kept
  pub postings : SaysPostings fields rows gaps building

-- the same of a front of the message that holds no posting
pub record ReadsFront (front : List ℕ) (kept : ListFields) : Type 0 where
  pub fields : List Entry
  pub read : HasFields list_table front fields
  pub says : SaysList fields kept
  pub none : each_at 4 fields ≡ []

-- a good list's message, and the list that it says stands behind the others
pub record AddsList (message : List ℕ) (before after : Building) : Type 0 where
  pub fields : List Entry
  pub rows : PostingRows
  pub list : TermList
  pub read : HasListFields message fields rows
  pub texts : AreTexts list_table fields
  pub gaps : AreGaps before.documents (gaps_in rows)
  pub says : IsListOf fields rows list
  pub new_term : ¬ Contains (terms_of before.lists) list.term
  pub after_is : after ≡ record before { lists = before.lists ++ list ∷ []; postings = [] }
  pub sized : AreSized (parts_of after)

-- ---- closing a list

-- the open list is closed as one of these fields
pub record Closes (kept : ListFields) (gaps : Gaps) (before after : Building) : Type 0 where
  pub texts : IsTrue kept.are_texts
  pub good : IsTrue gaps.are_good
  pub few : IsTrue gaps.are_few
  pub after_is : after ≡ with_list before kept.term.now kept.df kept.cf
  pub sound : IsBuilding after

-- why it isn't, the lesser causes first; want of memory is free
abbrev pub IsCloseFault : ListFields → Gaps → Building → Refusal → Type 0
IsCloseFault kept gaps building (refusals.Cause BadText) = ¬ IsTrue kept.are_texts
IsCloseFault kept gaps building (refusals.Cause BadGap) =
    IsTrue kept.are_texts × ¬ IsTrue gaps.are_good
IsCloseFault kept gaps building (refusals.Cause SameTerm) =
    IsTrue kept.are_texts × IsTrue gaps.are_good × HasTerm building kept.term.now
IsCloseFault kept gaps building (refusals.Cause TooMuch) =
    IsTrue kept.are_texts × IsTrue gaps.are_good × ¬ HasTerm building kept.term.now
    × ((¬ IsTrue gaps.are_few) ⊎ (IsTrue gaps.are_few × IsFullOfText building kept.term.now))
IsCloseFault kept gaps building (refusals.Cause cause) = ⊥
IsCloseFault kept gaps building refusals.OutOfMemory = Unit {0}
