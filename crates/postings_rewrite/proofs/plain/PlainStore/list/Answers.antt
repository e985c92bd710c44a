use Rattle.std.proofs.Common.{◌≡◌, ℕ, ◌-◌, ◌<◌, ◌≤◌, List, [], length, drop, sym, ap, subst, ◌∙◌, arith}
use Rattle.std.specs.Prelude.{slice_get, slice_range, Some}
use Rattle.std.proofs.lemmas.List.{length-take}
use Rattle.postings_rewrite.specs.Stores.{StoredLists, AreDocuments, IsStore}
use Rattle.postings_rewrite.specs.Pieces.{start_from}
use Rattle.postings_rewrite.proofs.Pieces.{length-pieces, part_read, part_order, part_within, read_at}
use Rattle.postings_rewrite.proofs.plain.PlainStore.list.Goals as goal

pub list_start-from-requires : goal.list_start-from-requires
list_start-from-requires c =
    let rows = ap (λ (v : StoredLists). length v.lists) c.self.view_is in
    omega (arith, c.requires, rows, length-pieces 0 c.self.inside.ends.items c.self.inside.entries.items, ap length c.deref.ensures.value)

within : (c : goal.After-list_start-from) → c.args.list < length c.self.inside.ends.items
within c =
    let rows = ap (λ (v : StoredLists). length v.lists) c.self.view_is in
    omega (arith, c.requires, rows, length-pieces 0 c.self.inside.ends.items c.self.inside.entries.items)

pub index-end-requires : goal.index-end-requires
index-end-requires c =
    let rows = ap (λ (v : StoredLists). length v.lists) c.self.view_is in
    omega (arith, c.requires, rows, length-pieces 0 c.self.inside.ends.items c.self.inside.entries.items, c.self.inside.ends.ok.0)

pub entries_between-requires : goal.entries_between-requires
entries_between-requires c =
    let ends = c.self.inside.ends.items in
    let rows = ap (λ (v : StoredLists). length v.lists) c.self.view_is in
    let lt : c.args.list < length ends = omega (arith, c.requires, rows, length-pieces 0 ends c.self.inside.entries.items) in
    let start = c.list_start-from.ensures.same ∙ ap (λ (es : List ℕ). start_from 0 es c.args.list) c.deref.ensures.value in
    record {
      order = part_order ends _ c.args.list _ _ c.self.invariant.cuts lt start c.index-end.ensures;
      within = let le = part_within ends _ c.args.list _ c.self.invariant.cuts lt c.index-end.ensures in omega (arith, le, ap length c.deref-2.ensures.value);
    }

read : (c : goal.After-entries_between) → slice_get c.args.self.now.lists c.args.list ≡ Some c.entries_between.result.now
read c =
    let ends = c.self.inside.ends.items in
    let table = c.self.inside.entries.items in
    let rows = ap (λ (v : StoredLists). length v.lists) c.self.view_is in
    let lt : c.args.list < length ends = omega (arith, c.requires, rows, length-pieces 0 ends table) in
    let start = c.list_start-from.ensures.same ∙ ap (λ (es : List ℕ). start_from 0 es c.args.list) c.deref.ensures.value in
    let there = part_read ends table c.args.self.now.lists c.args.list _ _ (ap (λ (v : StoredLists). v.lists) c.self.view_is) lt start c.index-end.ensures in
    let given = c.entries_between.ensures.same ∙ ap (λ (xs : List ℕ). slice_range xs c.list_start-from.result c.index-end.result.now) c.deref-2.ensures.value in
    there ∙ ap Some (sym given)

pub returns-clause-same : goal.returns-clause-same
returns-clause-same c = read c

pub returns-clause-sound : goal.returns-clause-sound
returns-clause-sound c =
    let store = c.args.self.now in
    let sound : IsStore store = subst IsStore c.self.view_is c.self.invariant.sound in
    subst (AreDocuments store.documents) (read_at store.lists c.args.list c.entries_between.result.now c.requires (read c)) (sound c.args.list [] c.requires)

pub returns-clause-few : goal.returns-clause-few
returns-clause-few c =
    let ends = c.self.inside.ends.items in
    let from = c.list_start-from.result in
    let end = c.index-end.result.now in
    let rows = ap (λ (v : StoredLists). length v.lists) c.self.view_is in
    let lt : c.args.list < length ends = omega (arith, c.requires, rows, length-pieces 0 ends c.self.inside.entries.items) in
    let most = part_within ends _ c.args.list _ c.self.invariant.cuts lt c.index-end.ensures in
    omega (arith, ap length c.entries_between.ensures.same, length-take (end - from) (drop from c.deref-2.result.now), most, c.self.invariant.small)
