use Rattle.std.proofs.Common.{◌≡◌, ℕ, List, length, arith, subst, ap}
use Rattle.rgb_base.specs.Order.{new_of}
use Rattle.rgb_base.proofs.Tables.{old-read}
use Rattle.rgb_base.proofs.permutation.Permutation.old_of.Goals as goal

pub returns-clause-undoes : goal.returns-clause-undoes
returns-clause-undoes c =
    subst (λ (order : List ℕ). new_of order c.index.result.now ≡ c.args.new) c.self.view_is (old-read _ _ c.args.new _ c.self.invariant (omega (arith, ap length c.self.view_is)) c.index.ensures)
