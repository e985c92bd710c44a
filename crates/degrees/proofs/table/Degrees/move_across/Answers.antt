use Rattle.std.proofs.Common.{◌≡◌, ℕ, List, length, sym, ap, subst, ◌∙◌, arith}
use Rattle.forward_index.specs.Forward.{IsRow, row_at}
use Rattle.degrees.specs.Counts.{Counted, IsCounted, IsCountedIn, moved_across}
use Rattle.degrees.proofs.Rows.{row_read, row_is}
use Rattle.degrees.proofs.Kept.{table_of, IsCounted-moved, moved_same, counted_half, across_few}
use Rattle.degrees.proofs.table.Degrees.move_across.Goals as goal

row : (c : goal.After-terms_of) → IsRow c.args.forward.now.terms c.terms_of.result.now
row c = row_is c.args.forward.now c.args.doc c.terms_of.result.now c.is_sound.ensures.sound c.requires.below c.terms_of.ensures.same

read : (c : goal.After-terms_of) → row_at c.args.forward.now.rows c.args.doc ≡ c.terms_of.result.now
read c = row_read c.args.forward.now.rows c.args.doc c.terms_of.result.now c.requires.below c.terms_of.ensures.same

counted : (c : goal.After-terms_of) → IsCountedIn c.args.from c.terms_of.result.now (table_of c.self.inside.counts c.self.inside.len_a c.self.inside.len_b c.self.inside.loads)
counted c = subst (IsCountedIn c.args.from c.terms_of.result.now) (sym c.self.view_is) (subst (λ (r : List ℕ). IsCountedIn c.args.from r c.args.self.now) (read c) c.requires.counted)

pub shift_row-requires-clause-rising : goal.shift_row-requires-clause-rising
shift_row-requires-clause-rising c = (row c).rising

pub shift_row-requires-clause-below : goal.shift_row-requires-clause-below
shift_row-requires-clause-below c k d lt = omega (arith, (row c).below k d lt, c.requires.terms, ap (λ (t : Counted). length t.a) c.self.view_is)

pub shift_row-requires-clause-counted : goal.shift_row-requires-clause-counted
shift_row-requires-clause-counted c = counted_half c.args.from c.terms_of.result.now c.self.inside.counts c.self.inside.len_a c.self.inside.len_b c.self.inside.loads (counted c)

pub shift_row-requires-clause-few : goal.shift_row-requires-clause-few
shift_row-requires-clause-few c = across_few c.args.from c.self.inside.counts c.self.inside.len_a c.self.inside.len_b c.self.inside.loads c.self.invariant

same : (c : goal.After-shift_row) → table_of c.shift_row.new.counts c.self.inside.len_a c.self.inside.len_b c.self.inside.loads
    ≡ moved_across c.args.from c.terms_of.result.now (table_of c.self.inside.counts c.self.inside.len_a c.self.inside.len_b c.self.inside.loads)
same c = moved_same c.args.from c.terms_of.result.now c.self.inside.counts c.shift_row.new.counts c.self.inside.len_a c.self.inside.len_b c.self.inside.loads c.shift_row.ensures.half c.shift_row.ensures.other

pub invariant_of-self : goal.invariant_of-self
invariant_of-self c =
    let old = table_of c.self.inside.counts c.self.inside.len_a c.self.inside.len_b c.self.inside.loads in
    let counted : IsCountedIn c.args.from c.terms_of.result.now old =
    subst (IsCountedIn c.args.from c.terms_of.result.now) (sym c.self.view_is) (subst (λ (r : List ℕ). IsCountedIn c.args.from r c.args.self.now)
    (row_read c.args.forward.now.rows c.args.doc c.terms_of.result.now c.requires.below c.terms_of.ensures.same) c.requires.counted) in
    subst IsCounted (sym (same c)) (IsCounted-moved c.args.from c.terms_of.result.now old c.self.invariant counted)

pub returns : goal.returns
returns c = record {
  moved = same c ∙ ap (moved_across c.args.from c.terms_of.result.now) c.self.view_is
      ∙ ap (λ (r : List ℕ). moved_across c.args.from r c.args.self.now) (sym (row_read c.args.forward.now.rows c.args.doc c.terms_of.result.now c.requires.below c.terms_of.ensures.same));
}
