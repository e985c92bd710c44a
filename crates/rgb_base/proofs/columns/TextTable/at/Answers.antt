use Rattle.std.proofs.Common.{ℕ, List, length, sym, ap, subst, ◌∙◌, arith, string_bytes}
use Rattle.std.specs.Prelude.{slice_range, Some}
use Rattle.std.specs.Str.{IsCharBoundary}
use Rattle.rgb_base.specs.Flat.{start_from}
use Rattle.rgb_base.proofs.Cuts.{within_ends, part_read, part_order, start_from-All, end-All}
use Rattle.rgb_base.proofs.columns.TextTable.at.Goals as goal

pub text_start-from-requires : goal.text_start-from-requires
text_start-from-requires c =
    let within = within_ends c.self.inside.ends.items (string_bytes c.self.inside.text) c.args.self.now c.args.place c.self.view_is c.requires in
    omega (arith, within, ap length c.deref.ensures.value)

pub index-end-requires : goal.index-end-requires
index-end-requires c =
    let within = within_ends c.self.inside.ends.items (string_bytes c.self.inside.text) c.args.self.now c.args.place c.self.view_is c.requires in
    omega (arith, within, c.self.inside.ends.ok.0)

pub text_between-requires : goal.text_between-requires
text_between-requires c =
    let ends = c.self.inside.ends.items in
    let bytes = string_bytes c.self.inside.text in
    let within = within_ends ends bytes c.args.self.now c.args.place c.self.view_is c.requires in
    let start = c.text_start-from.ensures.same ∙ ap (λ (es : List ℕ). start_from 0 es c.args.place) c.deref.ensures.value in
    record {
      order = part_order ends _ c.args.place _ _ c.self.invariant.cuts within start c.index-end.ensures;
      start = λ some. subst (λ (bs : List ℕ). IsCharBoundary bs c.text_start-from.result) (sym c.as_str.ensures.value) (start_from-All (IsCharBoundary bytes) ends c.args.place _ c.self.invariant.boundaries within start some);
      stop = subst (λ (bs : List ℕ). IsCharBoundary bs c.index-end.result.now) (sym c.as_str.ensures.value) (end-All (IsCharBoundary bytes) ends c.args.place _ c.self.invariant.boundaries within c.index-end.ensures);
    }

pub returns : goal.returns
returns c =
    let ends = c.self.inside.ends.items in
    let bytes = string_bytes c.self.inside.text in
    let start = c.text_start-from.ensures.same ∙ ap (λ (es : List ℕ). start_from 0 es c.args.place) c.deref.ensures.value in
    let read = part_read ends bytes c.args.self.now c.args.place _ _ c.self.view_is c.requires start c.index-end.ensures in
    let given = c.text_between.ensures.same ∙ ap (λ (xs : List ℕ). slice_range xs c.text_start-from.result c.index-end.result.now) c.as_str.ensures.value in
    record { same = read ∙ ap Some (sym given) }
