-- What stands in the tables of a block store stays there when a list is appended.
use Rattle.std.proofs.Common.{◌≡◌, ℕ, zero, suc, ◌+◌, ◌-◌, ◌^◌, ◌<◌, ◌≤◌, List, [], ◌∷◌, ◌++◌, length, get_or, take, drop, map, refl, sym, ap, subst, ◌∙◌, inl, inr, arith, length-append, append_assoc}
use Rattle.std.specs.Prelude.{slice_range, slice_index_or}
use Rattle.std.proofs.lemmas.Bool.{cases_lt}
use Rattle.std.proofs.lemmas.List.{append-nil, drop_at, take_all, get_or_at, get_or_append_left, get_or_default, drop-append-le, take-append-le, length-drop, length-map, get_or-map, same_lists}
use Rattle.ciff_wire.specs.Varint.{varint}
use Rattle.postings_rewrite.specs.declared.block_tables.Tables.{Tables}
use Rattle.postings_rewrite.specs.declared.blocks.BlockStore.TheInside as blocks
use Rattle.postings_rewrite.specs.declared.store.Place.{Place}
use Rattle.postings_rewrite.specs.Stores.{StoredLists, AreDocuments, IsStore, list_at}
use Rattle.postings_rewrite.specs.Blocks.{gaps, skips, skip_count, skip_head, before_of, bytes_of, list_in}
use Rattle.postings_rewrite.specs.BlockTables.{IsWritten, AreTables, IsAppended, blocks_in, IsBlocks}
use Rattle.rgb_base.specs.declared.parts.Posting.{Posting}
use Rattle.postings_rewrite.specs.Pieces.{pieces, stored_in, IsStorable}
use Rattle.postings_rewrite.proofs.Pieces.{length-pieces}
use Rattle.postings_rewrite.proofs.Fronts.{list_in-spelt}
use Rattle.postings_rewrite.proofs.Gapped.{length-skips, documents_rise}
use Rattle.postings_rewrite.proofs.Regions.{documents_fit}

slice_kept : (old more : List ℕ) (a b : ℕ) → a ≤ b → b ≤ length old → slice_range (old ++ more) a b ≡ slice_range old a b
slice_kept old more a b order within =
    ap (take (b - a)) (drop-append-le a old more (omega (arith, order, within))) ∙ take-append-le (b - a) (drop a old) more (omega (arith, within, length-drop a old))

slice_added : (old new : List ℕ) (count : ℕ) → length new ≡ count → slice_range (old ++ new) (length old) (length old + count) ≡ new
slice_added old new count size =
    let n : length old + count - length old ≡ count = omega arith in
    ap (λ (k : ℕ). take k (drop (length old) (old ++ new))) n ∙ (ap (take count) (drop_at old new (length old) refl) ∙ take_all count new (omega (arith, size)))

-- a list that stands there
kept : (old new : Tables) (more list : List ℕ) (start : ℕ) → IsAppended old more new → IsWritten old start list → IsWritten new start list
kept old new more list start app is =
    let added = varint (length more) ++ (skip_head (length more) (length old.befores.items) ++ gaps 0 more) in
    let head = skip_head (length list) is.first in
    let skips_before = skips before_of more (skip_count (length more)) in
    let skips_bytes = skips bytes_of more (skip_count (length more)) in
    let bytes_size = ap length app.bytes ∙ length-append old.bytes.items added in
    let befores_size = ap length app.befores ∙ length-append old.befores.items skips_before in
    let offsets_size = ap length app.offsets ∙ length-append old.offsets.items skips_bytes in
    record {
      first = is.first;
      rest = is.rest ++ added;
      few = is.few;
      inside = omega (arith, is.inside, bytes_size);
      spelt = ap (drop start) app.bytes ∙ (drop-append-le start old.bytes.items added is.inside ∙ (ap (λ (b : List ℕ). b ++ added) is.spelt
          ∙ (append_assoc (varint (length list)) (head ++ (gaps 0 list ++ is.rest)) added ∙ ap (λ (b : List ℕ). varint (length list) ++ b)
          (append_assoc head (gaps 0 list ++ is.rest) added ∙ ap (λ (b : List ℕ). head ++ b) (append_assoc (gaps 0 list) is.rest added)))));
      fits = is.fits;
      before_end = omega (arith, is.before_end, befores_size);
      bytes_end = omega (arith, is.bytes_end, offsets_size);
      befores = ap (λ (b : List ℕ). slice_range b is.first (is.first + skip_count (length list))) app.befores ∙ (slice_kept old.befores.items skips_before is.first (is.first + skip_count (length list)) (omega arith) is.before_end ∙ is.befores);
      offsets = ap (λ (b : List ℕ). slice_range b is.first (is.first + skip_count (length list))) app.offsets ∙ (slice_kept old.offsets.items skips_bytes is.first (is.first + skip_count (length list)) (omega arith) is.bytes_end ∙ is.offsets);
    }

-- and the one that was appended; both tables of skip entries had as many
written : (old new : Tables) (list : List ℕ) → length old.offsets.items ≡ length old.befores.items → IsAppended old list new → IsWritten new (length old.bytes.items) list
written old new list even app =
    let first = length old.befores.items in
    let count = skip_count (length list) in
    let added = varint (length list) ++ (skip_head (length list) first ++ gaps 0 list) in
    let skips_before = skips before_of list count in
    let skips_bytes = skips bytes_of list count in
    let size_before = length-skips before_of list count in
    let size_bytes = length-skips bytes_of list count in
    record {
      first = first;
      rest = [];
      few = app.few;
      inside = omega (arith, ap length app.bytes, length-append old.bytes.items added);
      spelt = ap (drop (length old.bytes.items)) app.bytes ∙ (drop_at old.bytes.items added (length old.bytes.items) refl
          ∙ ap (λ (g : List ℕ). varint (length list) ++ (skip_head (length list) first ++ g)) (sym (append-nil (gaps 0 list))));
      fits = app.fits;
      before_end = omega (arith, ap length app.befores, length-append old.befores.items skips_before, size_before);
      bytes_end = omega (arith, ap length app.offsets, length-append old.offsets.items skips_bytes, size_bytes, even);
      befores = ap (λ (b : List ℕ). slice_range b first (first + count)) app.befores ∙ slice_added old.befores.items skips_before count size_before;
      offsets = ap (λ (b : List ℕ). slice_range b first (first + count)) app.offsets ∙ (ap (λ (n : ℕ). slice_range (old.offsets.items ++ skips_bytes) n (n + count)) (sym even) ∙ slice_added old.offsets.items skips_bytes count size_bytes);
    }

pub tables_more : (old new : Tables) (lists : List (List ℕ)) (list : List ℕ) → AreTables old lists → IsAppended old list new → AreTables new (lists ++ list ∷ [])
tables_more old new lists list are app =
    let count = skip_count (length list) in
    record {
      len = omega (arith, ap length app.starts, length-append old.starts.items (length old.bytes.items ∷ []), length-append lists (list ∷ []), are.len);
      even = omega (arith, are.even, ap length app.befores, ap length app.offsets, length-append old.befores.items (skips before_of list count), length-append old.offsets.items (skips bytes_of list count), length-skips before_of list count, length-skips bytes_of list count);
      written = λ k within. elim (cases_lt k (length lists)) [
        | inl less ↦
            let start : get_or new.starts.items k 0 ≡ get_or old.starts.items k 0 = ap (λ (s : List ℕ). get_or s k 0) app.starts ∙ get_or_append_left old.starts.items (length old.bytes.items ∷ []) 0 k (omega (arith, less, are.len)) in
            let at : get_or (lists ++ list ∷ []) k [] ≡ get_or lists k [] = get_or_append_left lists (list ∷ []) [] k less in
            subst (λ (n : ℕ). IsWritten new n (get_or (lists ++ list ∷ []) k [])) (sym start)
            (subst (IsWritten new (get_or old.starts.items k 0)) (sym at) (kept old new list (get_or lists k []) (get_or old.starts.items k 0) app (are.written k less)))
        | inr last ↦
            let here : k ≡ length lists = omega (arith, last, within, length-append lists (list ∷ [])) in
            let start : get_or new.starts.items k 0 ≡ length old.bytes.items = ap (λ (s : List ℕ). get_or s k 0) app.starts ∙ get_or_at old.starts.items (length old.bytes.items) [] 0 k (are.len ∙ sym here) in
            let at : get_or (lists ++ list ∷ []) k [] ≡ list = get_or_at lists list [] [] k (sym here) in
            subst (λ (n : ℕ). IsWritten new n (get_or (lists ++ list ∷ []) k [])) (sym start)
            (subst (IsWritten new (length old.bytes.items)) (sym at) (written old new list are.even app))
      ];
    }

-- ---- the store that tables are

read_written : (tables : Tables) (start : ℕ) (list : List ℕ) → IsWritten tables start list → AreDocuments (2 ^ 32 - 1) list → list_in (drop start tables.bytes.items) ≡ list
read_written tables start list is sound =
    ap list_in is.spelt ∙ list_in-spelt list (2 ^ 32 - 1) is.first is.rest (omega arith) is.fits is.few (documents_rise list (2 ^ 32 - 1) sound)

pub lists_of : (tables : Tables) (documents : ℕ) (lists : List (List ℕ)) → documents < 2 ^ 32 → AreTables tables lists → IsStore (record { lists = lists; documents = documents })
    → map (λ start. list_in (drop start tables.bytes.items)) tables.starts.items ≡ lists
lists_of tables documents lists small are sound =
    let read = λ (start : ℕ). list_in (drop start tables.bytes.items) in
    same_lists (map read tables.starts.items) lists (length-map tables.starts.items read ∙ are.len) (λ k d within.
    let inside : k < length tables.starts.items = omega (arith, within, length-map tables.starts.items read) in
    let there : k < length lists = omega (arith, inside, are.len) in
    let list = get_or lists k [] in
    let fits : AreDocuments (2 ^ 32 - 1) list = documents_fit list documents small (sound k [] there) in
    get_or-map read tables.starts.items k 0 d inside ∙ (read_written tables (get_or tables.starts.items k 0) list (are.written k there) fits ∙ get_or_default lists k [] d there))

pub storable_wide : (documents : ℕ) (ends : List ℕ) (table : List Posting) → documents < 2 ^ 32 → IsStorable documents ends table → IsStorable (2 ^ 32 - 1) ends table
storable_wide documents ends table small is = record {
  few = is.few;
  small = is.small;
  cuts = is.cuts;
  sound = λ k d within. documents_fit (get_or (stored_in documents ends table).lists k d) documents small (is.sound k d within);
}

abbrev made : Tables → ℕ → blocks.Inside
made tables documents = record { documents = documents; tables = tables }

pub store_of : (tables : Tables) (documents : ℕ) (ends : List ℕ) (table : List Posting) → documents < 2 ^ 32 → AreTables tables (pieces 0 ends (map (λ posting. posting.doc) table)) → IsStorable documents ends table
    → blocks_in (made tables documents) ≡ stored_in documents ends table
store_of tables documents ends table small are is =
    ap (λ (ls : List (List ℕ)). let s : StoredLists = record { lists = ls; documents = documents } in s) (lists_of tables documents (pieces 0 ends (map (λ posting. posting.doc) table)) small are is.sound)

pub blocks_of : (tables : Tables) (documents : ℕ) (ends : List ℕ) (table : List Posting) → documents < 2 ^ 32 → AreTables tables (pieces 0 ends (map (λ posting. posting.doc) table)) → length tables.bytes.items < 2 ^ 32
    → IsStorable documents ends table → IsBlocks (made tables documents)
blocks_of tables documents ends table small are few is =
    let docs = map (λ (posting : Posting). posting.doc) table in
    let same = store_of tables documents ends table small are is in
    record {
      few = omega (arith, are.len, is.few, length-pieces 0 ends docs);
      small = few;
      numbered = small;
      sound = subst IsStore (sym same) is.sound;
      written = λ k within. subst (λ (s : StoredLists). IsWritten tables (get_or tables.starts.items k 0) (list_at s k)) (sym same) (are.written k (omega (arith, within, are.len)));
    }
