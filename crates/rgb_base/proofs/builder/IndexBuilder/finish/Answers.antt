use Rattle.std.proofs.Common.{sym, subst}
use Rattle.rgb_base.specs.Building.{IsWhole}
use Rattle.rgb_base.proofs.Built.{IsIndex-whole}
use Rattle.rgb_base.proofs.builder.IndexBuilder.finish.Goals as goal

pub from_tables-requires : goal.from_tables-requires
from_tables-requires c =
    let h = c.self.invariant in
    let whole = subst IsWhole (sym c.self.view_is) c.requires in
    record { sound = IsIndex-whole _ h.building whole; lists = h.lists; records = h.records; none_pending = whole.none_open }
