-- A store of postings as one value, and the first entry of a list that a search comes to.
use Rattle.std.specs.Prelude.{◌≡◌, ℕ, ◌<◌, ◌≤◌, List, [], length, map, slice_index, slice_index_or, All}
use Rattle.std.specs.List.Sorted.{IsStrictlyIncreasing}
use Rattle.rgb_base.specs.Parts.{IndexParts}
use Rattle.postings_rewrite.specs.Renumbering.{IsRenumbered}

-- the documents of each list, and how many documents there are
pub record StoredLists : Type 0 where
  pub lists : List (List ℕ)
  pub documents : ℕ

-- the numbers strictly rise and lie below the number of documents
pub record AreDocuments (documents : ℕ) (list : List ℕ) : Type 0 where
  pub rising : IsStrictlyIncreasing list
  pub below : All (λ doc. doc < documents) list

-- so do those of each list
abbrev pub IsStore : StoredLists → Type 0
IsStore store = All (AreDocuments store.documents) store.lists

-- the documents of a list
abbrev pub list_at : StoredLists → ℕ → List ℕ
list_at store list = slice_index_or store.lists list []

-- ---- what is stored of an index

-- the documents of each of its lists, and the number of its documents
abbrev pub stored_of : IndexParts → StoredLists
stored_of index = record {
  lists = map (λ list. map (λ posting. posting.doc) list.postings) index.lists;
  documents = length index.documents;
}

-- the same of the index renumbered by an order
pub record IsStoredRenumbered (index : IndexParts) (order : List ℕ) (store : StoredLists)
    : Type 0 where
  pub new : IndexParts
  pub renumbered : IsRenumbered index order new
  pub same : store ≡ stored_of new

-- ---- searching a list

-- entry m is the first one from entry n on that is at least the target, or the end where none is
pub record IsFirstFrom (list : List ℕ) (n target m : ℕ) : Type 0 where
  pub forward : n ≤ m
  pub within : m ≤ length list
  pub passed : (k : ℕ) → n ≤ k → k < m → slice_index list k < target
  pub reached : m < length list → target ≤ slice_index list m
