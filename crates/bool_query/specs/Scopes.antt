-- Documents that are looked at while a query is worked out, and places in lists that are passed on the
-- way, as functions of this crate hand them to one another.
use Rattle.std.specs.Prelude.{◌≡◌, ◌↔◌, ℕ, ◌<◌, ◌≤◌, Bool, IsTrue, List, length, slice_index, Option, MatchOption, IfSome, Contains}
use Rattle.std.proofs.Common.{Vec, Global}
use Rattle.postings_rewrite.specs.declared.store.Place.{Place}
use Rattle.postings_rewrite.specs.Stores.{AreDocuments}
use Rattle.bool_query.specs.Answers.{AreExactly}

-- the documents of a scope: the numbers that it has, or all documents where it has none
abbrev pub InScope : ℕ → Option (Vec ℕ Global) → ℕ → Type 0
InScope documents scope doc = MatchOption scope (doc < documents) (λ ids. Contains ids.items doc)

-- the numbers of a scope rise and lie below the number of documents
abbrev pub IsScope : ℕ → Option (Vec ℕ Global) → Type 0
IsScope documents scope = IfSome scope (λ ids. AreDocuments documents ids.items)

-- the numbers that are among the list, or those that aren't
abbrev pub AreSifted : List ℕ → List ℕ → Bool → List ℕ → Type 0
AreSifted ids list listed sifted =
    AreExactly (λ doc. Contains ids doc × (Contains list doc ↔ IsTrue listed)) sifted

-- before entry n of the list all are below this document
pub record IsPassed (list : List ℕ) (doc n : ℕ) : Type 0 where
  pub within : n ≤ length list
  pub below : (k : ℕ) → k < n → slice_index list k < doc

-- the place stands before such an entry
pub record StandsBehind (Stands : Place → ℕ → Type 0) (list : List ℕ) (doc : ℕ) (place : Place)
    : Type 0 where
  pub entry : ℕ
  pub stands : Stands place entry
  pub passed : IsPassed list doc entry
