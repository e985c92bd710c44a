-- Lists of numberings that begin with the identity.
use Rattle.std.proofs.Common.{◌≡◌, ℕ, List, [], ◌∷◌, ◌++◌, sym, subst, arith}
use Rattle.std.proofs.lemmas.List.{length_push}
use Rattle.live_index.specs.History.{IsIdentity}
use Rattle.live_index.specs.Listed.{BeginsWithIdentityOf}

pub begins_one : (documents : ℕ) (numberings all : List (List ℕ)) (order : List ℕ) → numberings ≡ []
    → all ≡ numberings ++ order ∷ [] → IsIdentity documents order → BeginsWithIdentityOf documents all
begins_one documents numberings all order none is identity =
    subst (λ (l : List (List ℕ)). BeginsWithIdentityOf documents l) (sym is)
    (subst (λ (l : List (List ℕ)). BeginsWithIdentityOf documents (l ++ order ∷ [])) (sym none)
    (record { some = omega arith; identity = identity }))

-- one numbering more behind the first leaves the first where it is
pub begins_still : (documents : ℕ) (numberings all : List (List ℕ)) (order : List ℕ)
    → all ≡ numberings ++ order ∷ [] → BeginsWithIdentityOf documents numberings
    → BeginsWithIdentityOf documents all
begins_still documents (first ∷ numberings) all order is begins =
    subst (λ (l : List (List ℕ)). BeginsWithIdentityOf documents l) (sym is)
    (record { some = omega (arith, length_push (first ∷ numberings) order); identity = begins.identity })
begins_still documents [] all order is begins = absurd (omega (arith, begins.some))
