-- An index as contracts see it, and what makes its parts an index.
-- A document is a number from 0 on, and its record stands at that place of `documents`.
use Rattle.std.specs.Prelude.{◌≢◌, ℕ, ◌+◌, ◌^◌, ◌<◌, ◌≤◌, List, map, length, All, AllPairs, sum_by, FitsSigned, IsUtf8}
use Rattle.std.specs.Int.{w32, w64}
use Rattle.std.specs.List.Sorted.{IsStrictlyIncreasing}
use Rattle.rgb_base.specs.declared.parts.Posting.{Posting}
use Rattle.rgb_base.specs.declared.parts.TermList.{TermList}
use Rattle.rgb_base.specs.declared.parts.DocRecord.{DocRecord}
use Rattle.rgb_base.specs.declared.parts.Header.{Header}

-- a header, the lists in order, and the record of each document
pub record IndexParts : Type 0 where
  pub header : Header
  pub lists : List TermList
  pub documents : List DocRecord

-- the terms of the lists, in order
abbrev pub terms_of : List TermList → List (List ℕ)
terms_of lists = map (λ list. list.term) lists

-- how many postings the lists have together
abbrev pub posting_count : List TermList → ℕ
posting_count lists = sum_by (λ list. length list.postings) lists

-- how many bytes of text there are: the description, the terms and the names
abbrev pub text_size : IndexParts → ℕ
text_size parts =
    length parts.header.description
    + sum_by (λ list. length list.term) parts.lists
    + sum_by (λ document. length document.name) parts.documents

-- the postings' documents strictly rise and lie below the number of documents
pub record IsPostings (documents : ℕ) (postings : List Posting) : Type 0 where
  pub rising : IsStrictlyIncreasing (map (λ posting. posting.doc) postings)
  pub below : All (λ posting. posting.doc < documents) postings

-- the postings of each list are such
abbrev pub AreOrdered : ℕ → List TermList → Type 0
AreOrdered documents lists = All (λ list. IsPostings documents list.postings) lists

-- no text stands twice
abbrev pub AreDifferent : List (List ℕ) → Type 0
AreDifferent texts = AllPairs (λ a b. a ≢ b) texts

-- neither the lists nor the documents are too many
pub record AreCounted (parts : IndexParts) : Type 0 where
  pub lists : length parts.lists < 2 ^ 31
  pub documents : length parts.documents < 2 ^ 31

-- neither the postings nor the bytes of text are too many
pub record AreSized (parts : IndexParts) : Type 0 where
  pub postings : posting_count parts.lists < 2 ^ 32
  pub text : text_size parts ≤ 2 ^ 40

-- each value lies in the range of its type, and each text is UTF-8
pub record FitsHeader (header : Header) : Type 0 where
  pub version : FitsSigned w32 header.version
  pub total_lists : FitsSigned w32 header.total_lists
  pub total_docs : FitsSigned w32 header.total_docs
  pub total_terms : FitsSigned w64 header.total_terms
  pub average_bits : header.average_bits < 2 ^ 64
  pub description : ∥ IsUtf8 header.description ∥₁

pub record FitsList (list : TermList) : Type 0 where
  pub term : ∥ IsUtf8 list.term ∥₁
  pub df : FitsSigned w64 list.df
  pub cf : FitsSigned w64 list.cf
  pub postings : All (λ posting. FitsSigned w32 posting.tf) list.postings

pub record FitsRecord (document : DocRecord) : Type 0 where
  pub name : ∥ IsUtf8 document.name ∥₁
  pub length : FitsSigned w32 document.length

-- the parts are an index
pub record IsIndex (parts : IndexParts) : Type 0 where
  pub counted : AreCounted parts
  pub ordered : AreOrdered (length parts.documents) parts.lists
  pub different : AreDifferent (terms_of parts.lists)
  pub sized : AreSized parts
  pub header : FitsHeader parts.header
  pub lists : All FitsList parts.lists
  pub documents : All FitsRecord parts.documents
