use Rattle.std.proofs.Common.{◌≡◌, ℕ, List, slice_get, Some, length, arith, subst, ap}
use Rattle.rgb_base.specs.Order.{new_of}
use Rattle.rgb_base.proofs.Tables.{new_of-read, undone-read}
use Rattle.rgb_base.proofs.permutation.Permutation.new_of.Goals as goal

pub returns-clause-same : goal.returns-clause-same
returns-clause-same c =
    subst (λ (order : List ℕ). c.index.result.now ≡ new_of order c.args.old) c.self.view_is (new_of-read _ _ c.args.old _ c.self.invariant (omega (arith, ap length c.self.view_is)) c.index.ensures)

pub returns-clause-undoes : goal.returns-clause-undoes
returns-clause-undoes c =
    subst (λ (order : List ℕ). slice_get order c.index.result.now ≡ Some c.args.old) c.self.view_is (undone-read _ _ c.args.old _ c.self.invariant (omega (arith, ap length c.self.view_is)) c.index.ensures)
