-- Places in the lists of a store. What a place stands before is the store's to say: `Stands` is
-- what the store says of places and entries of one list.
use Rattle.std.specs.Prelude.{◌≡◌, ℕ, ◌≤◌, List, length, slice_get, Option}
use Rattle.postings_rewrite.specs.declared.store.Place.{Place}
use Rattle.postings_rewrite.specs.Stores.{IsFirstFrom}

-- the place before entry 0 of every list
abbrev pub start : Place
start = record { entry = 0; bytes = 0; before = 0 }

-- the place stands before an entry of the list, or at its end
pub record StandsIn (Stands : Place → ℕ → Type 0) (list : List ℕ) (place : Place) : Type 0 where
  pub entry : ℕ
  pub within : entry ≤ length list
  pub stands : Stands place entry

-- from entry n on, the place stands before the first entry that is at least the target, or at the
-- end where none is; the answer is that entry, or nothing at the end
pub record IsNext
    (Stands : Place → ℕ → Type 0) (list : List ℕ) (n target : ℕ) (place : Place)
    (answer : Option ℕ) : Type 0 where
  pub entry : ℕ
  pub first : IsFirstFrom list n target entry
  pub stands : Stands place entry
  pub given : answer ≡ slice_get list entry
