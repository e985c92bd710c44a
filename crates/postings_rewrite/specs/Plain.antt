-- How a plain store lies in memory: the lists side by side in one table, with the place at which
-- each ends.
use Rattle.std.specs.Prelude.{◌≡◌, ℕ, zero, suc, ◌-◌, ◌^◌, ◌<◌, ◌≤◌, List, [], ◌∷◌, length, map, take, drop, slice_index}
use Rattle.rgb_base.specs.declared.parts.Posting.{Posting}
use Rattle.postings_rewrite.specs.declared.plain.PlainStore.TheInside as plain
use Rattle.postings_rewrite.specs.declared.store.Place.{Place}
use Rattle.postings_rewrite.specs.Stores.{StoredLists, IsStore}
use Rattle.postings_rewrite.specs.Pieces.{pieces, AreCuts}

abbrev pub plain_in : plain.Inside → StoredLists
plain_in tables = record {
  lists = pieces 0 tables.ends.items tables.entries.items;
  documents = tables.documents;
}

pub record IsPlain (tables : plain.Inside) : Type 0 where
  pub few : length tables.ends.items < 2 ^ 31
  pub small : length tables.entries.items < 2 ^ 32
  pub cuts : AreCuts 0 tables.ends.items (length tables.entries.items)
  pub sound : IsStore (plain_in tables)

-- a place keeps the number of the entry that it stands before
abbrev pub stands_plain : StoredLists → ℕ → Place → ℕ → Type 0
stands_plain store list place n = place.entry ≡ n
