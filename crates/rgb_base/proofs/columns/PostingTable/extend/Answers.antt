use Rattle.std.proofs.Common.{◌≡◌, ◌+◌, List, [], ◌∷◌, ◌++◌, length, drop, sum_by, ap, subst, ◌∙◌, arith, length-append}
use Rattle.std.proofs.lemmas.List.{drop-append-le}
use Rattle.rgb_base.specs.declared.parts.Posting.{Posting}
use Rattle.rgb_base.specs.Flat.{Parted, pieces, last_end}
use Rattle.rgb_base.proofs.Cuts.{table_length, pieces-grown, AreCuts-grown, last_end-le}
use Rattle.rgb_base.proofs.columns.PostingTable.extend.Goals as goal

pub invariant_of-self-2 : goal.invariant_of-self-2
invariant_of-self-2 c =
    let ends = c.self.inside.ends.items in
    let table = c.self.inside.table.items in
    let longer : length c.extend_from_slice.new.self.items ≡ length table + length c.args.postings.now = ap length c.in_ok-extend_from_slice.ensures.items ∙ length-append table c.args.postings.now in
    let size = table_length ends table c.self.invariant.cuts in
    let held : length table ≡ sum_by (λ (part : List Posting). length part) c.args.self.now.closed + length c.args.self.now.pending = subst (λ (v : Parted). length table ≡ sum_by (λ (part : List Posting). length part) v.closed + length v.pending) c.self.view_is size in
    record {
      cuts = AreCuts-grown 0 ends (length table) (length c.extend_from_slice.new.self.items) c.self.invariant.cuts (omega (arith, longer));
      small = omega (arith, longer, held, c.requires);
    }

pub returns-clause-closed : goal.returns-clause-closed
returns-clause-closed c =
    let ends = c.self.inside.ends.items in
    let table = c.self.inside.table.items in
    ap (pieces 0 ends) c.in_ok-extend_from_slice.ensures.items ∙ pieces-grown 0 ends table c.args.postings.now c.self.invariant.cuts ∙ ap (λ (v : Parted). v.closed) c.self.view_is

pub returns-clause-ok : goal.returns-clause-ok
returns-clause-ok c =
    let last = last_end 0 c.self.inside.ends.items in
    let table = c.self.inside.table.items in
    ap (drop last) c.in_ok-extend_from_slice.ensures.items ∙ drop-append-le last table c.args.postings.now (last_end-le 0 c.self.inside.ends.items (length table) c.self.invariant.cuts)
    ∙ ap (λ (v : Parted). v.pending ++ c.args.postings.now) c.self.view_is
