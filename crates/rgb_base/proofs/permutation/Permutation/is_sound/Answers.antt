use Rattle.std.proofs.Common.{subst}
use Rattle.rgb_base.specs.Order.{IsOrder}
use Rattle.rgb_base.proofs.Tables.{IsOrder-from_tables}
use Rattle.rgb_base.proofs.permutation.Permutation.is_sound.Goals as goal

pub returns : goal.returns
returns c = record { sound = subst IsOrder c.self.view_is (IsOrder-from_tables _ _ c.self.invariant) }
