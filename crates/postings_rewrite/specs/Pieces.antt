-- The parts of a table, as functions of this crate hand it to one another.
use Rattle.std.specs.Prelude.{◌≡◌, ℕ, zero, suc, ◌-◌, ◌^◌, ◌<◌, ◌≤◌, List, [], ◌∷◌, length, map, take, drop, slice_index}
use Rattle.rgb_base.specs.declared.parts.Posting.{Posting}
use Rattle.rgb_base.specs.Parts.{IndexParts}
use Rattle.rgb_base.specs.Table.{AreEnds}
use Rattle.postings_rewrite.specs.Stores.{StoredLists, IsStore, IsStoredRenumbered}

-- the parts of a table that end at these places, the first of which begins at this one
abbrev pub pieces : ℕ → List ℕ → List ℕ → List (List ℕ)
pieces from [] table = []
pieces from (end ∷ ends) table = take (end - from) (drop from table) ∷ pieces end ends table

-- the ends don't fall, and lie within the table
abbrev pub AreCuts : ℕ → List ℕ → ℕ → Type 0
AreCuts from [] limit = from ≤ limit
AreCuts from (end ∷ ends) limit = (from ≤ end) × AreCuts end ends limit

-- where part k begins
abbrev pub start_from : ℕ → List ℕ → ℕ → ℕ
start_from from ends zero = from
start_from from ends (suc k) = slice_index ends k

-- what is stored of the postings of a table whose lists end at these places
abbrev pub stored_in : ℕ → List ℕ → List Posting → StoredLists
stored_in documents ends table = record {
  lists = pieces 0 ends (map (λ posting. posting.doc) table);
  documents = documents;
}

-- neither lists nor postings are too many, the lists lie within the table, and they make a store
pub record IsStorable (documents : ℕ) (ends : List ℕ) (table : List Posting) : Type 0 where
  pub few : length ends < 2 ^ 31
  pub small : length table < 2 ^ 32
  pub cuts : AreCuts 0 ends (length table)
  pub sound : IsStore (stored_in documents ends table)

-- the parts of the table that end where the index's lists do are its lists renumbered
pub record AreListsRenumbered
    (index : IndexParts) (order : List ℕ) (ends : List ℕ) (table : List Posting) : Type 0 where
  pub storable : IsStorable (length index.documents) ends table
  pub stored : IsStoredRenumbered index order (stored_in (length index.documents) ends table)
