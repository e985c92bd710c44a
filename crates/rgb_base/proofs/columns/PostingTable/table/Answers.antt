use Rattle.std.proofs.Common.{◌≡◌, List, ◌++◌, subst, ◌∙◌}
use Rattle.rgb_base.specs.declared.parts.Posting.{Posting}
use Rattle.rgb_base.specs.Flat.{Parted}
use Rattle.rgb_base.proofs.Cuts.{table_whole}
use Rattle.rgb_base.proofs.columns.PostingTable.table.Goals as goal
use Rattle.std.specs.List.{flat_map}

pub returns : goal.returns
returns c =
    let table = c.self.inside.table.items in
    record { same = c.deref.ensures.value ∙ subst (λ (v : Parted). table ≡ flat_map (λ (part : List Posting). part) v.closed ++ v.pending) c.self.view_is (table_whole c.self.inside.ends.items table c.self.invariant.cuts) }
