use Rattle.std.proofs.Common.{subst}
use Rattle.rgb_base.specs.Order.{IsOrder}
use Rattle.rgb_base.proofs.Tables.{IsOrder-from_tables}
use Rattle.rgb_base.proofs.permutation.Permutation.from_order.Goals as goal

pub returns-clause-sound : goal.returns-clause-sound
returns-clause-sound c = subst IsOrder c.deref.ensures.value (IsOrder-from_tables _ _ c.in_ok-places.ensures.ok)
