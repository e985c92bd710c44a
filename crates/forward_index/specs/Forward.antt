-- The forward index: for each place of a start order of the documents, the terms of the document
-- that stands there. A term is the place of its list in the index.
use Rattle.std.specs.Prelude.{◌≡◌, ◌↔◌, ℕ, ◌^◌, ◌<◌, ◌≤◌, List, [], length, slice_get, slice_index, slice_index_or, All, Any, Contains, IfSome, sum_by}
use Rattle.std.specs.List.Sorted.{IsStrictlyIncreasing}
use Rattle.rgb_base.specs.declared.parts.TermList.{TermList}
use Rattle.rgb_base.specs.Parts.{IndexParts}
use Rattle.rgb_base.specs.Order.{IsOrder}

-- how many terms there are, the terms of the document at each place, and that document
pub record ForwardIndex : Type 0 where
  pub terms : ℕ
  pub rows : List (List ℕ)
  pub documents : List ℕ

-- the terms of the document at a place
abbrev pub row_at : List (List ℕ) → ℕ → List ℕ
row_at rows place = slice_index_or rows place []

-- the terms of a row strictly rise, and are terms
pub record IsRow (terms : ℕ) (row : List ℕ) : Type 0 where
  pub rising : IsStrictlyIncreasing row
  pub below : All (λ term. term < terms) row

-- a row for each place, at which each document stands once
pub record IsForward (forward : ForwardIndex) : Type 0 where
  pub few_terms : forward.terms < 2 ^ 31
  pub rows : All (IsRow forward.terms) forward.rows
  pub few : sum_by (λ row. length row) forward.rows < 2 ^ 32
  pub len : length forward.documents ≡ length forward.rows
  pub ordered : IsOrder forward.documents

-- ---- the forward index of an index

-- the list has at least so many postings, and one of the document
pub record Holds (min_df document : ℕ) (list : TermList) : Type 0 where
  pub enough : min_df ≤ length list.postings
  pub there : Any (λ posting. posting.doc ≡ document) list.postings

-- the row has the terms that are common enough and stand in the document, and no others
abbrev pub HasTermsOf : IndexParts → ℕ → ℕ → List ℕ → Type 0
HasTermsOf index min_df document row =
    (term : ℕ) → term < length index.lists
    → Contains row term ↔ IfSome (slice_get index.lists term) (Holds min_df document)

-- the forward index over a start order, which lists the document at each place
pub record IsForwardOf (index : IndexParts) (min_df : ℕ) (start : List ℕ) (forward : ForwardIndex)
    : Type 0 where
  pub terms : forward.terms ≡ length index.lists
  pub documents : forward.documents ≡ start
  pub rows : (place : ℕ) → place < length start
      → HasTermsOf index min_df (slice_index start place) (row_at forward.rows place)
