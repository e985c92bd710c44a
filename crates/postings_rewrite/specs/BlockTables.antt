-- The tables of a block store, and the lists that stand in them.
use Rattle.std.specs.Prelude.{◌≡◌, ◌⊎◌, ℕ, ◌+◌, ◌-◌, ◌%◌, ◌^◌, ◌<◌, ◌≤◌, List, [], ◌∷◌, ◌++◌, length, map, drop, slice_index, slice_index_or, slice_range}
use Rattle.ciff_wire.specs.Varint.{varint}
use Rattle.postings_rewrite.specs.declared.block_tables.Tables.{Tables}
use Rattle.postings_rewrite.specs.declared.region.Region.TheInside as region
use Rattle.postings_rewrite.specs.declared.blocks.BlockStore.TheInside as blocks
use Rattle.postings_rewrite.specs.declared.store.Place.{Place}
use Rattle.postings_rewrite.specs.Stores.{StoredLists, AreDocuments, IsStore, list_at}
use Rattle.postings_rewrite.specs.Blocks.{gaps, skips, before_of, bytes_of, skip_count, skip_head, numbers_in, list_in, IsBefore}

-- the list stands in the bytes from this one on, and its skip entries in their tables
pub record IsWritten (tables : Tables) (start : ℕ) (list : List ℕ) : Type 0 where
  pub first : ℕ
  pub rest : List ℕ
  pub few : length list < 2 ^ 32
  pub inside : start ≤ length tables.bytes.items
  pub spelt : drop start tables.bytes.items
      ≡ varint (length list) ++ (skip_head (length list) first ++ (gaps 0 list ++ rest))
  pub fits : first < 2 ^ 32
  pub before_end : first + skip_count (length list) ≤ length tables.befores.items
  pub bytes_end : first + skip_count (length list) ≤ length tables.offsets.items
  pub befores : slice_range tables.befores.items first (first + skip_count (length list))
      ≡ skips before_of list (skip_count (length list))
  pub offsets : slice_range tables.offsets.items first (first + skip_count (length list))
      ≡ skips bytes_of list (skip_count (length list))

-- these lists stand in the tables, and no others
pub record AreTables (tables : Tables) (lists : List (List ℕ)) : Type 0 where
  pub len : length tables.starts.items ≡ length lists
  pub even : length tables.offsets.items ≡ length tables.befores.items
  pub written : (k : ℕ) → k < length lists
      → IsWritten tables (slice_index tables.starts.items k) (slice_index_or lists k [])

-- the list was appended to the tables
pub record IsAppended (old : Tables) (list : List ℕ) (new : Tables) : Type 0 where
  pub few : length list < 2 ^ 32
  pub fits : length old.befores.items < 2 ^ 32
  pub starts : new.starts.items ≡ old.starts.items ++ length old.bytes.items ∷ []
  pub bytes : new.bytes.items ≡ old.bytes.items
      ++ (varint (length list) ++ (skip_head (length list) (length old.befores.items) ++ gaps 0 list))
  pub befores : new.befores.items ≡ old.befores.items
      ++ skips before_of list (skip_count (length list))
  pub offsets : new.offsets.items ≡ old.offsets.items
      ++ skips bytes_of list (skip_count (length list))

-- where a block but the first begins at the entry the number was appended, and nothing elsewhere
pub record IsSkipped (entry number : ℕ) (old new : List ℕ) : Type 0 where
  pub put : 0 < entry → entry % 128 ≡ 0 → new ≡ old ++ number ∷ []
  pub kept : (entry ≡ 0) ⊎ (0 < entry % 128) → new ≡ old

abbrev pub blocks_in : blocks.Inside → StoredLists
blocks_in store = record {
  lists = map (λ start. list_in (drop start store.tables.bytes.items)) store.tables.starts.items;
  documents = store.documents;
}

pub record IsBlocks (store : blocks.Inside) : Type 0 where
  pub few : length store.tables.starts.items < 2 ^ 31
  pub small : length store.tables.bytes.items < 2 ^ 32
  pub numbered : store.documents < 2 ^ 32
  pub sound : IsStore (blocks_in store)
  pub written : (k : ℕ) → k < length store.tables.starts.items
      → IsWritten store.tables (slice_index store.tables.starts.items k)
      (list_at (blocks_in store) k)

-- a place stands before an entry of a list exactly where it is the place before that entry
abbrev pub stands_blocks : StoredLists → ℕ → Place → ℕ → Type 0
stands_blocks store list place n = IsBefore (list_at store list) place n

-- ---- a list as it is read

abbrev pub read_in : region.Inside → List ℕ
read_in region = numbers_in region.len 0 region.gaps.now

-- the gaps and the skip entries are those of this list
pub record IsRegionOf (region : region.Inside) (list : List ℕ) : Type 0 where
  pub rest : List ℕ
  pub spelt : region.gaps.now ≡ gaps 0 list ++ rest
  pub small : length region.gaps.now < 2 ^ 32
  pub few : region.len < 2 ^ 32
  pub sound : AreDocuments (2 ^ 32 - 1) list
  pub len : length list ≡ region.len
  pub befores : region.befores.now ≡ skips before_of list (skip_count region.len)
  pub offsets : region.offsets.now ≡ skips bytes_of list (skip_count region.len)

abbrev pub IsRegion : region.Inside → Type 0
IsRegion region = IsRegionOf region (read_in region)
