-- A list of numberings is a plan.
use Rattle.std.proofs.Common.{◌≡◌, ℕ, List, [], ◌∷◌, ◌++◌, get_or, Some, sym, subst, ◌∙◌, arith}
use Rattle.std.proofs.lemmas.List.{length_push}
use Rattle.std.proofs.lemmas.Option.{slice_get-get_or}
use Rattle.live_index.specs.History.{IsIdentity}
use Rattle.live_index.specs.Listed.{ListedIsPlan, ListedBegins, BeginsWithIdentityOf}

some_same : {X : Type 0} (x y : X) → Some x ≡ Some y → x ≡ y
some_same x y e = cc

pub listed_is_plan : ListedIsPlan
listed_is_plan base plan version below =
    let all = plan.numberings.now in
    let here = slice_get-get_or all version [] below in
    record {
      order = get_or all version [];
      is_planned = here;
      only = λ other stands. some_same other (get_or all version []) (sym stands ∙ here);
    }

pub listed_begins : ListedBegins
listed_begins base plan begins =
    let all = plan.numberings.now in
    record {
      order = get_or all 0 [];
      identity = begins.identity;
      is_planned = record { below = begins.some; is_planned = slice_get-get_or all 0 [] begins.some };
    }

-- one numbering more behind the first leaves the first where it is
pub begins_still : (documents : ℕ) (numberings : List (List ℕ)) (order : List ℕ)
    → BeginsWithIdentityOf documents numberings → BeginsWithIdentityOf documents (numberings ++ order ∷ [])
begins_still documents (first ∷ numberings) order begins =
    record { some = omega (arith, length_push (first ∷ numberings) order); identity = begins.identity }
begins_still documents [] order begins = absurd (omega (arith, begins.some))

pub begins_one : (documents : ℕ) (numberings : List (List ℕ)) (order : List ℕ) → numberings ≡ []
    → IsIdentity documents order → BeginsWithIdentityOf documents (numberings ++ order ∷ [])
begins_one documents numberings order none identity =
    subst (λ (l : List (List ℕ)). BeginsWithIdentityOf documents (l ++ order ∷ [])) (sym none)
    (record { some = omega arith; identity = identity })
