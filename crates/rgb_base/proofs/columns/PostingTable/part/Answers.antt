use Rattle.std.proofs.Common.{ℕ, List, length, sym, ap, ◌∙◌, arith}
use Rattle.std.specs.Prelude.{slice_range, Some}
use Rattle.rgb_base.specs.declared.parts.Posting.{Posting}
use Rattle.rgb_base.specs.Flat.{Parted, start_from}
use Rattle.rgb_base.proofs.Cuts.{within_ends, part_read, part_order, part_within}
use Rattle.rgb_base.proofs.columns.PostingTable.part.Goals as goal

pub list_start-from-requires : goal.list_start-from-requires
list_start-from-requires c =
    let within = within_ends c.self.inside.ends.items c.self.inside.table.items c.args.self.now.closed c.args.list (ap (λ (v : Parted). v.closed) c.self.view_is) c.requires in
    omega (arith, within, ap length c.deref.ensures.value)

pub index-end-requires : goal.index-end-requires
index-end-requires c =
    let within = within_ends c.self.inside.ends.items c.self.inside.table.items c.args.self.now.closed c.args.list (ap (λ (v : Parted). v.closed) c.self.view_is) c.requires in
    omega (arith, within, c.self.inside.ends.ok.0)

pub postings_between-requires : goal.postings_between-requires
postings_between-requires c =
    let ends = c.self.inside.ends.items in
    let within = within_ends ends c.self.inside.table.items c.args.self.now.closed c.args.list (ap (λ (v : Parted). v.closed) c.self.view_is) c.requires in
    let start = c.list_start-from.ensures.same ∙ ap (λ (es : List ℕ). start_from 0 es c.args.list) c.deref.ensures.value in
    record {
      order = part_order ends _ c.args.list _ _ c.self.invariant.cuts within start c.index-end.ensures;
      within = let le = part_within ends _ c.args.list _ c.self.invariant.cuts within c.index-end.ensures in omega (arith, le, ap length c.deref-2.ensures.value);
    }

pub returns : goal.returns
returns c =
    let ends = c.self.inside.ends.items in
    let table = c.self.inside.table.items in
    let start = c.list_start-from.ensures.same ∙ ap (λ (es : List ℕ). start_from 0 es c.args.list) c.deref.ensures.value in
    let read = part_read ends table c.args.self.now.closed c.args.list _ _ (ap (λ (v : Parted). v.closed) c.self.view_is) c.requires start c.index-end.ensures in
    let given = c.postings_between.ensures.same ∙ ap (λ (xs : List Posting). slice_range xs c.list_start-from.result c.index-end.result.now) c.deref-2.ensures.value in
    record { same = read ∙ ap Some (sym given) }
