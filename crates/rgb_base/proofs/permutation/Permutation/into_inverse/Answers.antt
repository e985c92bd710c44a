use Rattle.std.proofs.Common.{List, ℕ, subst}
use Rattle.rgb_base.specs.Order.{IsInverse}
use Rattle.rgb_base.proofs.Tables.{IsInverse-from_tables}
use Rattle.rgb_base.proofs.permutation.Permutation.into_inverse.Goals as goal

pub returns : goal.returns
returns c = record { same = subst (λ (order : List ℕ). IsInverse order c.self.inside.places.items) c.self.view_is (IsInverse-from_tables _ _ c.self.invariant) }
