use Rattle.std.proofs.Common.{◌≡◌, ◌+◌, List, length, sum_by, subst, arith}
use Rattle.rgb_base.specs.declared.parts.Posting.{Posting}
use Rattle.rgb_base.specs.Flat.{Parted}
use Rattle.rgb_base.proofs.Cuts.{table_length}
use Rattle.rgb_base.proofs.columns.PostingTable.len.Goals as goal

pub returns : goal.returns
returns c =
    let table = c.self.inside.table in
    let same = table_length c.self.inside.ends.items table.items c.self.invariant.cuts in
    let held : length table.items ≡ sum_by (λ (part : List Posting). length part) c.args.self.now.closed + length c.args.self.now.pending = subst (λ (v : Parted). length table.items ≡ sum_by (λ (part : List Posting). length part) v.closed + length v.pending) c.self.view_is same in
    record { same = omega (arith, held, c.len.ensures, table.ok.0) }
