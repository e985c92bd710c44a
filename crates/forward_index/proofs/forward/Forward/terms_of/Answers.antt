use Rattle.std.proofs.Common.{ℕ, ◌<◌, List, length, sym, ap, ◌∙◌, arith}
use Rattle.std.specs.Prelude.{slice_range, Some}
use Rattle.forward_index.specs.Forward.{ForwardIndex}
use Rattle.forward_index.specs.Flat.{start_from}
use Rattle.forward_index.proofs.Pieces.{length-pieces, row_read, row_order, row_within}
use Rattle.forward_index.proofs.forward.Forward.terms_of.Goals as goal

pub row_start-from-requires : goal.row_start-from-requires
row_start-from-requires c =
    let rows = ap (λ (v : ForwardIndex). length v.rows) c.self.view_is in
    omega (arith, c.requires, rows, length-pieces 0 c.self.inside.ends.items c.self.inside.entries.items, ap length c.deref.ensures.value)

within : (c : goal.After-row_start-from) → c.args.place < length c.self.inside.ends.items
within c =
    let rows = ap (λ (v : ForwardIndex). length v.rows) c.self.view_is in
    omega (arith, c.requires, rows, length-pieces 0 c.self.inside.ends.items c.self.inside.entries.items)

pub index-end-requires : goal.index-end-requires
index-end-requires c =
    let rows = ap (λ (v : ForwardIndex). length v.rows) c.self.view_is in
    omega (arith, c.requires, rows, length-pieces 0 c.self.inside.ends.items c.self.inside.entries.items, c.self.inside.ends.ok.0)

pub entries_between-requires : goal.entries_between-requires
entries_between-requires c =
    let ends = c.self.inside.ends.items in
    let rows = ap (λ (v : ForwardIndex). length v.rows) c.self.view_is in
    let lt : c.args.place < length ends = omega (arith, c.requires, rows, length-pieces 0 ends c.self.inside.entries.items) in
    let start = c.row_start-from.ensures.same ∙ ap (λ (es : List ℕ). start_from 0 es c.args.place) c.deref.ensures.value in
    record {
      order = row_order ends _ c.args.place _ _ c.self.invariant.ends lt start c.index-end.ensures;
      within = let le = row_within ends _ c.args.place _ c.self.invariant.ends lt c.index-end.ensures in omega (arith, le, ap length c.deref-2.ensures.value);
    }

pub returns : goal.returns
returns c =
    let ends = c.self.inside.ends.items in
    let table = c.self.inside.entries.items in
    let rows = ap (λ (v : ForwardIndex). length v.rows) c.self.view_is in
    let lt : c.args.place < length ends = omega (arith, c.requires, rows, length-pieces 0 ends table) in
    let start = c.row_start-from.ensures.same ∙ ap (λ (es : List ℕ). start_from 0 es c.args.place) c.deref.ensures.value in
    let read = row_read ends table c.args.self.now.rows c.args.place _ _ (ap (λ (v : ForwardIndex). v.rows) c.self.view_is) lt start c.index-end.ensures in
    let given = c.entries_between.ensures.same ∙ ap (λ (xs : List ℕ). slice_range xs c.row_start-from.result c.index-end.result.now) c.deref-2.ensures.value in
    record { same = read ∙ ap Some (sym given) }
