-- A list of a block store as it stands in the tables, and as it is read.
use Rattle.std.proofs.Common.{◌≡◌, ℕ, zero, suc, ◌+◌, ◌-◌, ◌*◌, ◌/◌, ◌^◌, ◌<◌, ◌≤◌, List, [], ◌∷◌, ◌++◌, length, get_or, take, drop, refl, sym, ap, subst, ◌∙◌, inl, inr, All, arith, length-append}
use Rattle.std.specs.Prelude.{slice_range}
use Rattle.std.proofs.lemmas.Bool.{cases_lt}
use Rattle.std.proofs.lemmas.List.{length-map, get_or_read, length-drop}
use Rattle.ciff_wire.specs.Varint.{varint}
use Rattle.postings_rewrite.specs.declared.block_tables.Tables.{Tables}
use Rattle.postings_rewrite.specs.declared.region.Region.TheInside as region
use Rattle.postings_rewrite.specs.declared.store.Place.{Place}
use Rattle.postings_rewrite.specs.Stores.{StoredLists, AreDocuments, IsStore, list_at}
use Rattle.postings_rewrite.specs.Blocks.{gaps, skips, skip_count, before_of, bytes_of, IsHead, numbers_in, list_in, skip_head}
use Rattle.postings_rewrite.specs.declared.blocks.BlockStore.TheInside as blocks
use Rattle.postings_rewrite.specs.BlockTables.{IsWritten, IsRegionOf, read_in, blocks_in, IsBlocks}
use Rattle.postings_rewrite.proofs.Fronts.{numbers-gaps}
use Rattle.postings_rewrite.proofs.Gapped.{documents_rise}

pub head_there : (tables : Tables) (start : ℕ) (list bytes : List ℕ) (is : IsWritten tables start list) → bytes ≡ drop start tables.bytes.items → IsHead bytes (length list) is.first (gaps 0 list ++ is.rest)
head_there tables start list bytes is same = record { few = is.few; fits = is.fits; spelt = same ∙ is.spelt }

-- the skip entries, where a list of one block has whatever number for its first one
pub record AreSkips (part : Place → ℕ) (list table : List ℕ) (first count : ℕ) : Type 0 where
  pub inside : first + count ≤ length table
  pub same : slice_range table first (first + count) ≡ skips part list count

pub skips_there : (part : Place → ℕ) (list table : List ℕ) (first given count : ℕ) → count ≡ skip_count (length list) → AreSkips part list table first (skip_count (length list)) → (128 < length list → given ≡ first) → (length list ≤ 128 → given ≡ 0)
    → AreSkips part list table given count
unfolding skips
skips_there part list table first given count number are more none =
    elim (cases_lt 128 (length list)) [
      | inl many ↦
          let here : AreSkips part list table given (skip_count (length list)) = subst (λ (n : ℕ). AreSkips part list table n (skip_count (length list))) (sym (more many)) are in
          subst (AreSkips part list table given) (sym number) here
      | inr one ↦
          let zero_count : count ≡ 0 = omega (arith, number, one) in
          let empty : AreSkips part list table 0 0 = record { inside = omega arith; same = refl } in
          let here : AreSkips part list table given 0 = subst (λ (n : ℕ). AreSkips part list table n 0) (sym (none one)) empty in
          subst (AreSkips part list table given) (sym zero_count) here
    ]

pub documents_fit : (list : List ℕ) (documents : ℕ) → documents < 2 ^ 32 → AreDocuments documents list → AreDocuments (2 ^ 32 - 1) list
documents_fit list documents small sound = record { rising = sound.rising; below = λ k d within. omega (arith, sound.below k d within) }

-- a region spells its list
pub region_read : (r : region.Inside) (list : List ℕ) → IsRegionOf r list → read_in r ≡ list
region_read r list is =
    ap (λ (n : ℕ). numbers_in n 0 r.gaps.now) (sym is.len) ∙ (ap (numbers_in (length list) 0) is.spelt ∙ numbers-gaps list (2 ^ 32 - 1) 0 is.rest (omega arith) (documents_rise list (2 ^ 32 - 1) is.sound))

-- ---- a list of a store, as its region is opened

pub written_there : (inside : blocks.Inside) (store : StoredLists) (list start : ℕ) → IsBlocks inside → blocks_in inside ≡ store → list < length store.lists
    → start ≡ get_or inside.tables.starts.items list start → IsWritten inside.tables start (list_at store list)
written_there inside store list start is same within found =
    let starts = inside.tables.starts.items in
    let rows = ap (λ (v : StoredLists). length v.lists) same in
    let inside_starts : list < length starts = omega (arith, within, rows, length-map starts (λ start. list_in (drop start inside.tables.bytes.items))) in
    let there : start ≡ get_or starts list 0 = get_or_read starts list start inside_starts found 0 in
    subst (λ (n : ℕ). IsWritten inside.tables n (list_at store list)) (sym there)
    (subst (λ (v : StoredLists). IsWritten inside.tables (get_or starts list 0) (list_at v list)) same (is.written list inside_starts))

-- what the front of its bytes tells
pub record IsOpened (inside : blocks.Inside) (list : List ℕ) (len first count : ℕ) (gaps_now : List ℕ) : Type 0 where
  pub rest : List ℕ
  pub len_is : len ≡ length list
  pub few : len < 2 ^ 32
  pub spelt : gaps_now ≡ gaps 0 list ++ rest
  pub size : length gaps_now < 2 ^ 32
  pub sound : AreDocuments (2 ^ 32 - 1) list
  pub count_is : count ≡ skip_count len
  pub befores : AreSkips before_of list inside.tables.befores.items first count
  pub offsets : AreSkips bytes_of list inside.tables.offsets.items first count

pub opened : (inside : blocks.Inside) (store : StoredLists) (list start len first count : ℕ) (bytes gaps_now : List ℕ) → IsBlocks inside → blocks_in inside ≡ store → list < length store.lists
    → start ≡ get_or inside.tables.starts.items list start → bytes ≡ drop start inside.tables.bytes.items
    → ((l f : ℕ) (rest : List ℕ) → IsHead bytes l f rest → len ≡ l)
    → ((l f : ℕ) (rest : List ℕ) → IsHead bytes l f rest → 128 < l → first ≡ f)
    → ((l f : ℕ) (rest : List ℕ) → IsHead bytes l f rest → l ≤ 128 → first ≡ 0)
    → ((l f : ℕ) (rest : List ℕ) → IsHead bytes l f rest → gaps_now ≡ rest)
    → count ≡ skip_count len
    → IsOpened inside (list_at store list) len first count gaps_now
opened inside store list start len first count bytes gaps_now is same within found front tells_len tells_first tells_none tells_gaps counted =
    let numbers = list_at store list in
    let written = written_there inside store list start is same within found in
    let head : IsHead bytes (length numbers) written.first (gaps 0 numbers ++ written.rest) = head_there inside.tables start numbers bytes written front in
    let len_is : len ≡ length numbers = tells_len (length numbers) written.first (gaps 0 numbers ++ written.rest) head in
    let spelt : gaps_now ≡ gaps 0 numbers ++ written.rest = tells_gaps (length numbers) written.first (gaps 0 numbers ++ written.rest) head in
    let count_is : count ≡ skip_count (length numbers) = counted ∙ ap skip_count len_is in
    let many : 128 < length numbers → first ≡ written.first = tells_first (length numbers) written.first (gaps 0 numbers ++ written.rest) head in
    let none : length numbers ≤ 128 → first ≡ 0 = tells_none (length numbers) written.first (gaps 0 numbers ++ written.rest) head in
    let behind : length bytes ≡ length (varint (length numbers)) + (length (skip_head (length numbers) written.first) + length gaps_now) =
    ap length head.spelt ∙ (length-append (varint (length numbers)) (skip_head (length numbers) written.first ++ (gaps 0 numbers ++ written.rest))
    ∙ ap (λ (n : ℕ). length (varint (length numbers)) + n) (length-append (skip_head (length numbers) written.first) (gaps 0 numbers ++ written.rest) ∙ ap (λ (g : List ℕ). length (skip_head (length numbers) written.first) + length g) (sym spelt))) in
    let sound : IsStore store = subst IsStore same is.sound in
    let documents : inside.documents ≡ store.documents = ap (λ (v : StoredLists). v.documents) same in
    record {
      rest = written.rest;
      len_is = len_is;
      few = omega (arith, len_is, written.few);
      spelt = spelt;
      size = omega (arith, behind, ap length front, length-drop start inside.tables.bytes.items, is.small);
      sound = documents_fit numbers store.documents (omega (arith, documents, is.numbered)) (sound list [] within);
      count_is = counted;
      befores = skips_there before_of numbers inside.tables.befores.items written.first first count count_is (record { inside = written.before_end; same = written.befores }) many none;
      offsets = skips_there bytes_of numbers inside.tables.offsets.items written.first first count count_is (record { inside = written.bytes_end; same = written.offsets }) many none;
    }

pub region_of : (inside : blocks.Inside) (list : List ℕ) (first count : ℕ) (r : region.Inside) → IsOpened inside list r.len first count r.gaps.now
    → r.befores.now ≡ slice_range inside.tables.befores.items first (first + count) → r.offsets.now ≡ slice_range inside.tables.offsets.items first (first + count) → IsRegionOf r list
region_of inside list first count r is befores offsets = record {
  rest = is.rest;
  spelt = is.spelt;
  small = is.size;
  few = is.few;
  sound = is.sound;
  len = sym is.len_is;
  befores = befores ∙ (is.befores.same ∙ ap (skips before_of list) is.count_is);
  offsets = offsets ∙ (is.offsets.same ∙ ap (skips bytes_of list) is.count_is);
}
