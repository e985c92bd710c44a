-- An index that is built piece by piece: its header, then its lists, each with its postings one by
-- one, then the records of its documents.
use Rattle.std.specs.Prelude.{◌≡◌, ℕ, ℤ, ◌+◌, ◌^◌, ◌<◌, ◌≤◌, List, [], ◌∷◌, ◌++◌, length, All, Contains, FitsSigned}
use Rattle.std.specs.Int.{w32}
use Rattle.rgb_base.specs.declared.parts.Posting.{Posting}
use Rattle.rgb_base.specs.declared.parts.TermList.{TermList}
use Rattle.rgb_base.specs.declared.parts.DocRecord.{DocRecord}
use Rattle.rgb_base.specs.declared.parts.Header.{Header}
use Rattle.rgb_base.specs.declared.error.BuildError.{BuildError}
use Rattle.rgb_base.specs.declared.error.BuildError.TheVariants.{Counts, Order, Same, Size, OutOfMemory}
use Rattle.rgb_base.specs.Parts.{IndexParts, terms_of, posting_count, text_size, IsPostings, AreOrdered, AreDifferent, FitsHeader, FitsList, FitsRecord}

-- what there is so far: the header, how many documents there are to be, the lists that are closed,
-- the postings of the list that is open, and the records from document 0 on
pub record Building : Type 0 where
  pub header : Header
  pub documents : ℕ
  pub lists : List TermList
  pub postings : List Posting
  pub records : List DocRecord

-- ---- the pieces

-- the header alone
abbrev pub begun : Header → ℕ → Building
begun header documents = record {
  header = header;
  documents = documents;
  lists = [];
  postings = [];
  records = [];
}

-- one more posting in the open list
abbrev pub with_posting : Building → Posting → Building
with_posting building posting =
    record building { postings = building.postings ++ posting ∷ [] }

-- more postings in the open list
abbrev pub with_postings : Building → List Posting → Building
with_postings building postings =
    record building { postings = building.postings ++ postings }

-- the list that the open postings make with this term
abbrev pub closed : Building → List ℕ → ℤ → ℤ → TermList
closed building term df cf = record {
  term = term;
  df = df;
  cf = cf;
  postings = building.postings;
}

-- that list stands behind the others, and the next one is open
abbrev pub with_list : Building → List ℕ → ℤ → ℤ → Building
with_list building term df cf =
    record building { lists = building.lists ++ closed building term df cf ∷ []; postings = [] }

-- the record of the next document
abbrev pub with_record : Building → List ℕ → ℤ → Building
with_record building name size = record building {
  records = building.records ++ record { name = name; length = size } ∷ [];
}

-- the closed lists and the records so far, as parts
abbrev pub parts_of : Building → IndexParts
parts_of building = record {
  header = building.header;
  lists = building.lists;
  documents = building.records;
}

-- ---- what each of them keeps

-- what there is so far is the front of an index
pub record IsBuilding (building : Building) : Type 0 where
  pub few_documents : building.documents < 2 ^ 31
  pub few_lists : length building.lists < 2 ^ 31
  pub few_records : length building.records ≤ building.documents
  pub ordered : AreOrdered building.documents building.lists
  pub open_list : IsPostings building.documents building.postings
  pub different : AreDifferent (terms_of building.lists)
  pub few_postings : posting_count building.lists + length building.postings < 2 ^ 32
  pub little_text : text_size (parts_of building) ≤ 2 ^ 40
  pub header_fits : FitsHeader building.header
  pub lists_fit : All FitsList building.lists
  pub open_fits : All (λ posting. FitsSigned w32 posting.tf) building.postings
  pub records_fit : All FitsRecord building.records

-- nothing is left to come: no list is open, and each document has its record
pub record IsWhole (building : Building) : Type 0 where
  pub none_open : building.postings ≡ []
  pub recorded : length building.records ≡ building.documents

-- ---- what is refused, the earlier causes first

-- the document lies above those of the open list and below the number of documents
pub record IsNextDocument (building : Building) (doc : ℕ) : Type 0 where
  pub above : All (λ posting. posting.doc < doc) building.postings
  pub below : doc < building.documents

-- a list has this term already
abbrev pub HasTerm : Building → List ℕ → Type 0
HasTerm building term = Contains (terms_of building.lists) term

-- with one posting more there would be too many
abbrev pub IsFullOfPostings : Building → Type 0
IsFullOfPostings building =
    2 ^ 32 ≤ posting_count building.lists + (length building.postings + 1)

-- the postings lie above those of the open list, each above the one before it, and below the number
-- of documents
abbrev pub AreNextPostings : Building → List Posting → Type 0
AreNextPostings building postings =
    IsPostings building.documents (building.postings ++ postings)

-- with so many postings more there would be too many
abbrev pub IsFullFor : Building → ℕ → Type 0
IsFullFor building count =
    2 ^ 32 ≤ posting_count building.lists + (length building.postings + count)

-- with this text there would be too many bytes of text
abbrev pub IsFullOfText : Building → List ℕ → Type 0
IsFullOfText building text = 2 ^ 40 < text_size (parts_of building) + length text

-- want of memory is free in each of these
abbrev pub IsBeginningFault : Header → ℕ → BuildError → Type 0
IsBeginningFault header documents Counts = 2 ^ 31 ≤ documents
IsBeginningFault header documents Size =
    (documents < 2 ^ 31) × (2 ^ 40 < length header.description)
IsBeginningFault header documents OutOfMemory = Unit {0}
IsBeginningFault header documents cause = ⊥

abbrev pub IsPostingFault : Building → Posting → BuildError → Type 0
IsPostingFault building posting Order = ¬ IsNextDocument building posting.doc
IsPostingFault building posting Size =
    IsNextDocument building posting.doc × IsFullOfPostings building
IsPostingFault building posting OutOfMemory =
    IsNextDocument building posting.doc × ¬ IsFullOfPostings building
IsPostingFault building posting cause = ⊥

abbrev pub ArePostingsFault : Building → List Posting → BuildError → Type 0
ArePostingsFault building postings Order = ¬ AreNextPostings building postings
ArePostingsFault building postings Size =
    AreNextPostings building postings × IsFullFor building (length postings)
ArePostingsFault building postings OutOfMemory =
    AreNextPostings building postings × ¬ IsFullFor building (length postings)
ArePostingsFault building postings cause = ⊥

abbrev pub IsListFault : Building → List ℕ → BuildError → Type 0
IsListFault building term Counts = 2 ^ 31 ≤ length building.lists + 1
IsListFault building term Same =
    (length building.lists + 1 < 2 ^ 31) × HasTerm building term
IsListFault building term Size =
    (length building.lists + 1 < 2 ^ 31) × ¬ HasTerm building term × IsFullOfText building term
IsListFault building term OutOfMemory =
    (length building.lists + 1 < 2 ^ 31) × ¬ HasTerm building term × ¬ IsFullOfText building term
IsListFault building term cause = ⊥

abbrev pub IsRecordFault : Building → List ℕ → BuildError → Type 0
IsRecordFault building name Counts = building.documents ≤ length building.records
IsRecordFault building name Size =
    (length building.records < building.documents) × IsFullOfText building name
IsRecordFault building name OutOfMemory =
    (length building.records < building.documents) × ¬ IsFullOfText building name
IsRecordFault building name cause = ⊥
