use Rattle.std.proofs.Common.{◌≡◌, ℕ, List, [], length, drop, refl, sym, ap, ◌∙◌, arith, length-drop}
use Rattle.std.proofs.lemmas.List.{nil_from_length}
use Rattle.rgb_base.specs.declared.parts.Posting.{Posting}
use Rattle.rgb_base.specs.Flat.{last_end}
use Rattle.rgb_base.proofs.Refilled.{AreCuts-splits, last_end-splits}
use Rattle.rgb_base.proofs.columns.PostingTable.of.Goals as goal

pub invariant_of-result : goal.invariant_of-result
invariant_of-result c = record {
  cuts = AreCuts-splits 0 c.args.ends.items (length c.args.table.items) c.requires.splits;
  small = c.requires.small;
}

pub returns-clause-pending : goal.returns-clause-pending
returns-clause-pending c =
    let last = last_end-splits 0 c.args.ends.items (length c.args.table.items) c.requires.splits in
    let none : length (drop (last_end 0 c.args.ends.items) c.args.table.items) ≡ 0 = omega (arith, last, length-drop (last_end 0 c.args.ends.items) c.args.table.items) in
    nil_from_length (drop (last_end 0 c.args.ends.items) c.args.table.items) none
