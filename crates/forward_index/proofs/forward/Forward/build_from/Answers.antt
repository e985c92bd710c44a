use Rattle.std.proofs.Common.{◌≡◌, ℕ, List, ◌++◌, length, take, drop, sym, ap, subst, ◌∙◌, arith}
use Rattle.std.proofs.lemmas.List.{take_at}
use Rattle.forward_index.specs.Forward.{IsForward, IsForwardOf}
use Rattle.forward_index.specs.Flat.{pieces, AreEnds}
use Rattle.forward_index.specs.Rows.{rows_of, IsReady}
use Rattle.forward_index.proofs.Built.{block_all, few_entries, made, the_forward, forward_sound, forward_of, ends_size, entries_size, are_ends, is_the_forward}
use Rattle.forward_index.proofs.forward.Forward.build_from.Goals as goal

pub from_tables-requires-clause-ends : goal.from_tables-requires-clause-ends
from_tables-requires-clause-ends g c =
    let index = c.args.index.now in
    let start = c.args.start.now in
    let min_df = c.args.min_df in
    let ends = c.fill_rows.new.cursors in
    let entries = c.fill_rows.new.entries in
    let n = length c.deref_mut-3.result.now in
    let n_is : n ≡ length start = omega (arith, c.deref_mut-3.ensures.len, c.in_ok-ends.ensures.len, c.len.ensures.same) in
    let size = ends_size index min_df start c.is_sound.ensures.sound c.is_sound-2.ensures.sound c.requires.len n c.lists-2.result ends entries c.in_ok-documents.documents.items n_is c.lists-2.ensures.same c.in_ok-documents.ensures c.fill_rows.ensures.filled in
    let room = entries_size index min_df start c.is_sound.ensures.sound c.is_sound-2.ensures.sound c.requires.len n c.lists-2.result ends entries c.in_ok-documents.documents.items n_is c.lists-2.ensures.same c.in_ok-documents.ensures c.fill_rows.ensures.filled in
    let held = are_ends index min_df start c.is_sound.ensures.sound c.is_sound-2.ensures.sound c.requires.len n c.lists-2.result ends entries c.in_ok-documents.documents.items n_is c.lists-2.ensures.same c.in_ok-documents.ensures c.fill_rows.ensures.filled in
    let ends_back = take_at ends (drop (length ends) (take c.in_ok-ends.ends.len (c.start_tables.new.counts ++ drop (length c.start_tables.new.counts) c.in_ok-ends.ends.items))) c.in_ok-ends.ends.len (omega (arith, size, c.in_ok-ends.ensures.len, c.len.ensures.same)) in
    let entries_back = take_at entries (drop (length entries) c.in_ok-entries.entries.items) c.in_ok-entries.entries.len (omega (arith, room, c.in_ok-entries.ensures.room)) in
    subst (λ (es : List ℕ). AreEnds 0 es (length (take c.in_ok-entries.entries.len (entries ++ drop (length entries) c.in_ok-entries.entries.items)))) (sym ends_back)
    (subst (λ (xs : List ℕ). AreEnds 0 ends (length xs)) (sym entries_back) held)

pub from_tables-requires-clause-sound : goal.from_tables-requires-clause-sound
from_tables-requires-clause-sound g c =
    let index = c.args.index.now in
    let start = c.args.start.now in
    let min_df = c.args.min_df in
    let ends = c.fill_rows.new.cursors in
    let entries = c.fill_rows.new.entries in
    let documents = c.in_ok-documents.documents.items in
    let n = length c.deref_mut-3.result.now in
    let n_is : n ≡ length start = omega (arith, c.deref_mut-3.ensures.len, c.in_ok-ends.ensures.len, c.len.ensures.same) in
    let size = ends_size index min_df start c.is_sound.ensures.sound c.is_sound-2.ensures.sound c.requires.len n c.lists-2.result ends entries documents n_is c.lists-2.ensures.same c.in_ok-documents.ensures c.fill_rows.ensures.filled in
    let room = entries_size index min_df start c.is_sound.ensures.sound c.is_sound-2.ensures.sound c.requires.len n c.lists-2.result ends entries documents n_is c.lists-2.ensures.same c.in_ok-documents.ensures c.fill_rows.ensures.filled in
    let is = is_the_forward index min_df start c.is_sound.ensures.sound c.is_sound-2.ensures.sound c.requires.len n c.lists-2.result ends entries documents n_is c.lists-2.ensures.same c.in_ok-documents.ensures c.fill_rows.ensures.filled in
    let ends_back = take_at ends (drop (length ends) (take c.in_ok-ends.ends.len (c.start_tables.new.counts ++ drop (length c.start_tables.new.counts) c.in_ok-ends.ends.items))) c.in_ok-ends.ends.len (omega (arith, size, c.in_ok-ends.ensures.len, c.len.ensures.same)) in
    let entries_back = take_at entries (drop (length entries) c.in_ok-entries.entries.items) c.in_ok-entries.entries.len (omega (arith, room, c.in_ok-entries.ensures.room)) in
    let sound : IsForward (made c.lists-2.result (pieces 0 ends entries) documents) = subst IsForward (sym is) (forward_sound index min_df start c.is_sound.ensures.sound c.is_sound-2.ensures.sound c.requires.len) in
    subst (λ (es : List ℕ). IsForward (made c.lists-2.result (pieces 0 es (take c.in_ok-entries.entries.len (entries ++ drop (length entries) c.in_ok-entries.entries.items))) documents)) (sym ends_back)
    (subst (λ (xs : List ℕ). IsForward (made c.lists-2.result (pieces 0 ends xs) documents)) (sym entries_back) sound)

pub returns-clause-ok : goal.returns-clause-ok
returns-clause-ok g c =
    let index = c.args.index.now in
    let start = c.args.start.now in
    let min_df = c.args.min_df in
    let ends = c.fill_rows.new.cursors in
    let entries = c.fill_rows.new.entries in
    let documents = c.in_ok-documents.documents.items in
    let n = length c.deref_mut-3.result.now in
    let n_is : n ≡ length start = omega (arith, c.deref_mut-3.ensures.len, c.in_ok-ends.ensures.len, c.len.ensures.same) in
    let size = ends_size index min_df start c.is_sound.ensures.sound c.is_sound-2.ensures.sound c.requires.len n c.lists-2.result ends entries documents n_is c.lists-2.ensures.same c.in_ok-documents.ensures c.fill_rows.ensures.filled in
    let room = entries_size index min_df start c.is_sound.ensures.sound c.is_sound-2.ensures.sound c.requires.len n c.lists-2.result ends entries documents n_is c.lists-2.ensures.same c.in_ok-documents.ensures c.fill_rows.ensures.filled in
    let is = is_the_forward index min_df start c.is_sound.ensures.sound c.is_sound-2.ensures.sound c.requires.len n c.lists-2.result ends entries documents n_is c.lists-2.ensures.same c.in_ok-documents.ensures c.fill_rows.ensures.filled in
    let ends_back = take_at ends (drop (length ends) (take c.in_ok-ends.ends.len (c.start_tables.new.counts ++ drop (length c.start_tables.new.counts) c.in_ok-ends.ends.items))) c.in_ok-ends.ends.len (omega (arith, size, c.in_ok-ends.ensures.len, c.len.ensures.same)) in
    let entries_back = take_at entries (drop (length entries) c.in_ok-entries.entries.items) c.in_ok-entries.entries.len (omega (arith, room, c.in_ok-entries.ensures.room)) in
    let given : c.from_tables.result ≡ the_forward index min_df start c.is_sound.ensures.sound c.is_sound-2.ensures.sound c.requires.len =
    c.from_tables.ensures.same
    ∙ ap (λ (es : List ℕ). made c.lists-2.result (pieces 0 es (take c.in_ok-entries.entries.len (entries ++ drop (length entries) c.in_ok-entries.entries.items))) documents) ends_back
    ∙ ap (λ (xs : List ℕ). made c.lists-2.result (pieces 0 ends xs) documents) entries_back
    ∙ is in
    subst (IsForwardOf index min_df start) (sym given) (forward_of index min_df start c.is_sound.ensures.sound c.is_sound-2.ensures.sound c.requires.len)

pub fill_rows-requires-clause-ready : goal.fill_rows-requires-clause-ready
fill_rows-requires-clause-ready g c =
    let index = c.args.index.now in
    let start = c.args.start.now in
    let min_df = c.args.min_df in
    let counts = c.start_tables.new.counts in
    let cursors = c.deref_mut-3.result.now in
    let n_is : length cursors ≡ length start = omega (arith, c.deref_mut-3.ensures.len, c.in_ok-ends.ensures.len, c.len.ensures.same) in
    let all = block_all start (length cursors) n_is in
    let len : length counts ≡ c.in_ok-ends.ends.len = omega (arith, c.start_tables.auto.counts, c.deref_mut.ensures.len) in
    let back = take_at counts (drop (length counts) c.in_ok-ends.ends.items) c.in_ok-ends.ends.len len in
    let few = few_entries index min_df start c.is_sound.ensures.sound c.is_sound-2.ensures.sound c.requires.len in
    λ lifetimes outlives.
    subst (λ (documents : List ℕ). IsReady 0 (rows_of min_df index.lists documents) cursors c.deref_mut-4.result.now) (sym all)
    (record {
      starts = c.deref_mut-3.ensures.value ∙ back ∙ c.in_ok-entries.ensures.starts;
      room = omega (arith, c.deref_mut-4.ensures.len, c.in_ok-entries.ensures.room);
      small = omega (arith, few, c.deref_mut-4.ensures.len, c.in_ok-entries.ensures.room);
    })
