use Rattle.std.proofs.Common.{◌≡◌, ℕ, ◌+◌, List, length, drop, sum_by, sym, ap, subst, ◌∙◌, arith, length-drop}
use Rattle.rgb_base.specs.declared.parts.Posting.{Posting}
use Rattle.rgb_base.specs.Flat.{Parted, AreCuts, pieces, last_end, cut_like}
use Rattle.rgb_base.proofs.Cuts.{table_length, cut_like-pieces}
use Rattle.rgb_base.proofs.columns.PostingTable.with.Goals as goal

-- the other table is as long, and its ends are the same
same_ends : (c : goal.In_ok-ends) → c.in_ok-ends.ends.items ≡ c.self.inside.ends.items
same_ends c = c.in_ok-ends.ensures.items ∙ c.deref.ensures.value

same_size : (c : goal.In_ok-ends) → length c.args.table.items ≡ length c.self.inside.table.items
same_size c =
    let table = c.self.inside.table.items in
    let held : length table ≡ sum_by (λ (part : List Posting). length part) c.args.self.now.closed + length c.args.self.now.pending = subst (λ (v : Parted). length table ≡ sum_by (λ (part : List Posting). length part) v.closed + length v.pending) c.self.view_is (table_length c.self.inside.ends.items table c.self.invariant.cuts) in
    omega (arith, held, c.requires)

pub invariant_of-result : goal.invariant_of-result
invariant_of-result c = record {
  cuts = subst (λ (es : List ℕ). AreCuts 0 es (length c.args.table.items)) (sym (same_ends c)) (subst (AreCuts 0 c.self.inside.ends.items) (sym (same_size c)) c.self.invariant.cuts);
  small = omega (arith, same_size c, c.self.invariant.small);
}

pub returns-clause-closed : goal.returns-clause-closed
returns-clause-closed c =
    let ends = c.self.inside.ends.items in
    ap (λ (es : List ℕ). pieces 0 es c.args.table.items) (same_ends c) ∙ sym (cut_like-pieces 0 ends c.self.inside.table.items c.args.table.items c.self.invariant.cuts)
    ∙ ap (λ (v : Parted). cut_like v.closed c.args.table.items) c.self.view_is

pub returns-clause-pending : goal.returns-clause-pending
returns-clause-pending c =
    let last = last_end 0 c.self.inside.ends.items in
    ap (λ (es : List ℕ). length (drop (last_end 0 es) c.args.table.items)) (same_ends c)
    ∙ omega (arith, length-drop last c.args.table.items, length-drop last c.self.inside.table.items, same_size c) ∙ ap (λ (v : Parted). length v.pending) c.self.view_is
