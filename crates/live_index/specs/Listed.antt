-- The plan whose versions are the numberings of a list.
use Rattle.std.specs.Prelude.{◌≡◌, ℕ, ◌<◌, List, [], length, slice_get, slice_index_or, Some}
use Rattle.rgb_base.specs.Parts.{IndexParts}
use Rattle.live_index.specs.declared.plan.Listed.{Listed}
use Rattle.live_index.specs.History.{IsIdentity, IsPlan, BeginsWithIdentity}

-- one version for each numbering of the list
abbrev pub listed_versions : Listed → IndexParts → ℕ
listed_versions plan base = length plan.numberings.now

-- the numbering stands at the version's place
abbrev pub is_listed : Listed → IndexParts → ℕ → List ℕ → Type 0
is_listed plan base version order = slice_get plan.numberings.now version ≡ Some order

-- the list has at most one numbering at each place, so it is a plan, over whatever base
abbrev pub ListedIsPlan : Type 0
ListedIsPlan = (base : IndexParts) (plan : Listed) → IsPlan listed_versions is_listed base plan

-- the first numbering of a list leaves each of so many documents where it is
pub record BeginsWithIdentityOf (documents : ℕ) (numberings : List (List ℕ)) : Type 0 where
  pub some : 0 < length numberings
  pub identity : IsIdentity documents (slice_index_or numberings 0 [])

-- so version 0 of that list is planned to do so
abbrev pub ListedBegins : Type 0
ListedBegins = (base : IndexParts) (plan : Listed)
    → BeginsWithIdentityOf (length base.documents) plan.numberings.now
    → BeginsWithIdentity listed_versions is_listed base plan
