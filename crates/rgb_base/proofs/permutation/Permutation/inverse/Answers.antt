use Rattle.std.proofs.Common.{◌≡◌, List, ℕ, subst, sym, ◌∙◌}
use Rattle.rgb_base.specs.Order.{IsInverse}
use Rattle.rgb_base.proofs.Tables.{IsInverse-from_tables}
use Rattle.rgb_base.proofs.permutation.Permutation.inverse.Goals as goal

pub returns : goal.returns
returns c =
    let same : c.in_ok-order.order.items ≡ c.self.inside.places.items = c.in_ok-order.ensures.items ∙ c.deref.ensures.value in
    record { ok = subst (IsInverse c.args.self.now) (sym same) (subst (λ (order : List ℕ). IsInverse order c.self.inside.places.items) c.self.view_is (IsInverse-from_tables _ _ c.self.invariant)) }
