use Rattle.std.proofs.Common.{ℕ, List, length, ap, subst, arith}
use Rattle.rgb_base.specs.Order.{Renumbers, new_of}
use Rattle.rgb_base.proofs.Tables.{AreTables-joined, Renumbers-joined, IsOrder-from_tables, looked_same}
use Rattle.rgb_base.proofs.permutation.Permutation.after.Goals as goal

pub invariant_of-result : goal.invariant_of-result
invariant_of-result c =
    AreTables-joined _ _ _ _ _ _ c.first.invariant c.self.invariant (omega (arith, c.requires, ap length c.first.view_is, ap length c.self.view_is))
    (looked_same _ _ _ _ _ c.in_ok-order.ensures c.deref.ensures.value c.deref-2.ensures.value) (looked_same _ _ _ _ _ c.in_ok-places.ensures c.deref-3.ensures.value c.deref-4.ensures.value)

pub returns-clause-ok : goal.returns-clause-ok
returns-clause-ok c =
    let joined : Renumbers c.in_ok-order.order.items (length c.self.inside.order.items) (λ old. new_of c.self.inside.order.items (new_of c.first.inside.order.items old)) =
    Renumbers-joined _ _ _ _ _ _ c.first.invariant c.self.invariant (omega (arith, c.requires, ap length c.first.view_is, ap length c.self.view_is))
    (looked_same _ _ _ _ _ c.in_ok-order.ensures c.deref.ensures.value c.deref-2.ensures.value) (looked_same _ _ _ _ _ c.in_ok-places.ensures c.deref-3.ensures.value c.deref-4.ensures.value) in
    subst (λ (first : List ℕ). Renumbers c.in_ok-order.order.items (length c.args.self.now) (λ old. new_of c.args.self.now (new_of first old))) c.first.view_is
    (subst (λ (second : List ℕ). Renumbers c.in_ok-order.order.items (length second) (λ old. new_of second (new_of c.first.inside.order.items old))) c.self.view_is joined)

pub returns-clause-sound : goal.returns-clause-sound
returns-clause-sound c = IsOrder-from_tables _ _ (invariant_of-result c)
