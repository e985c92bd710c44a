use Rattle.std.proofs.Common.{◌↔◌, ℕ, List, Contains, sym, subst}
use Rattle.bool_query.specs.Scopes.{InScope, AreSifted}
use Rattle.bool_query.proofs.Scoped.{kept_both, in_these}
use Rattle.bool_query.proofs.evaluation.shared.Goals as goal

pub returns-in-Some : goal.returns-in-Some
returns-in-Some c =
    let scope = c.args.scope in
    let found = c.args.found.items in
    kept_both (InScope c.args.documents scope) (Contains found) c.in-Some.ids.items c.deref.result.now c.sift.result.items
    (in_these c.args.documents scope c.in-Some.ids c.in-Some.is)
    (λ doc. subst (λ (l : List ℕ). Contains l doc ↔ Contains found doc) (sym c.deref.ensures.value) (λ h. h, λ h. h)) c.sift.ensures
