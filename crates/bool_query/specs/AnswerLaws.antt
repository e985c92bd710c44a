-- What holds of the documents that queries mean, each the contract of a call of its own.
use Rattle.std.specs.Prelude.{◌≡◌, ◌↔◌, ℕ, ◌<◌, List, length, slice_index}
use Rattle.rgb_base.specs.Parts.{IndexParts, IsIndex, terms_of}
use Rattle.postings_rewrite.specs.Laws.{IsOrderOf}
use Rattle.postings_rewrite.specs.Renumbering.{IsRenumbered}
use Rattle.postings_rewrite.specs.Stores.{StoredLists, stored_of}
use Rattle.bool_query.specs.Tree.{Tree}
use Rattle.bool_query.specs.Answers.{IsMeantInIndex, IsMeantInStore, IsAnswerTo}

-- over an index renumbered by an order, a document is meant where its old number is meant over the
-- index
abbrev pub AnswersAreRenumbered : Type 0
AnswersAreRenumbered =
    (index new : IndexParts) (order : List ℕ) → IsIndex index → IsOrderOf index order
    → IsRenumbered index order new → (tree : Tree) (number : ℕ) → number < length index.documents
    → IsMeantInIndex new tree number ↔ IsMeantInIndex index tree (slice_index order number)

-- a document that is meant is one of the index
abbrev pub MeantIsBelow : Type 0
MeantIsBelow =
    (index : IndexParts) → IsIndex index → (tree : Tree) (doc : ℕ) → IsMeantInIndex index tree doc
    → doc < length index.documents

-- two answers to one query are one
abbrev pub AnswerIsOne : Type 0
AnswerIsOne =
    (terms : List (List ℕ)) (store : StoredLists) (tree : Tree) (a b : List ℕ)
    → IsAnswerTo terms store tree a → IsAnswerTo terms store tree b → a ≡ b

-- over what is stored of an index, with its terms, a tree means what it means over the index
abbrev pub StoreAnswersAsTheIndex : Type 0
StoreAnswersAsTheIndex =
    (index : IndexParts) (tree : Tree) (doc : ℕ)
    → IsMeantInStore (terms_of index.lists) (stored_of index) tree doc ↔ IsMeantInIndex index tree doc
