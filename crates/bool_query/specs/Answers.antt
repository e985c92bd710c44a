-- Which documents answer a query.
use Rattle.std.specs.Prelude.{◌≡◌, ◌↔◌, ℕ, List, length, map, slice_get, Some, Contains}
use Rattle.std.specs.List.Sorted.{IsStrictlyIncreasing}
use Rattle.rgb_base.specs.declared.parts.TermList.{TermList}
use Rattle.rgb_base.specs.Parts.{IndexParts}
use Rattle.postings_rewrite.specs.Stores.{StoredLists, list_at}
use Rattle.bool_query.specs.Tree.{Tree}
use Rattle.bool_query.specs.Meaning.{IsMeant}

-- the document has the term: a list of the store has that document, and its place among the terms
-- this term
pub record HasTerm (terms : List (List ℕ)) (store : StoredLists) (term : List ℕ) (doc : ℕ) : Type 0 where
  pub list : ℕ
  pub named : slice_get terms list ≡ Some term
  pub listed : Contains (list_at store list) doc

-- the same in an index: a list with that term has a posting of that document
pub record HasPosting (index : IndexParts) (term : List ℕ) (doc : ℕ) : Type 0 where
  pub place : ℕ
  pub list : TermList
  pub stands : slice_get index.lists place ≡ Some list
  pub named : list.term ≡ term
  pub posted : Contains (map (λ posting. posting.doc) list.postings) doc

-- the numbers strictly rise, and are those of which this holds and no others
pub record AreExactly (Holds : ℕ → Type 0) (ids : List ℕ) : Type 0 where
  pub rising : IsStrictlyIncreasing ids
  pub each : (doc : ℕ) → Contains ids doc ↔ Holds doc

-- what the tree means over a store whose lists have these terms
abbrev pub IsMeantInStore : List (List ℕ) → StoredLists → Tree → ℕ → Type 0
IsMeantInStore terms store tree doc = IsMeant (HasTerm terms store) store.documents tree doc

-- what it means over an index
abbrev pub IsMeantInIndex : IndexParts → Tree → ℕ → Type 0
IsMeantInIndex index tree doc = IsMeant (HasPosting index) (length index.documents) tree doc

-- the numbers are the documents that the tree means over the store
abbrev pub IsAnswerTo : List (List ℕ) → StoredLists → Tree → List ℕ → Type 0
IsAnswerTo terms store tree ids = AreExactly (IsMeantInStore terms store tree) ids
