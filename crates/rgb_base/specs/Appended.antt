-- What the steps of closing a list leave of a builder's tables.
use Rattle.std.specs.Prelude.{◌≡◌, ℕ, List, [], ◌∷◌, ◌++◌, Contains}
use Rattle.rgb_base.specs.declared.columns.Counts.{Counts}
use Rattle.rgb_base.specs.declared.error.BuildError.{BuildError}
use Rattle.rgb_base.specs.declared.error.BuildError.TheVariants.{Same, OutOfMemory}
use Rattle.rgb_base.specs.Flat.{Parted}

-- a text stands among these, or memory runs out where none of them is it
abbrev pub IsEnterFault : List (List ℕ) → List ℕ → BuildError → Type 0
IsEnterFault texts text Same = Contains texts text
IsEnterFault texts text OutOfMemory = ¬ Contains texts text
IsEnterFault texts text cause = ⊥

pub record AreAppended
    (terms terms' : List (List ℕ)) (counts counts' : List Counts) (parts parts' : Parted)
    (term : List ℕ) (count : Counts) : Type 0 where
  pub one_term : terms' ≡ terms ++ term ∷ []
  pub one_count : counts' ≡ counts ++ count ∷ []
  pub one_part : parts'.closed ≡ parts.closed ++ parts.pending ∷ []
  pub none_pending : parts'.pending ≡ []

pub record AreSame
    (terms terms' : List (List ℕ)) (counts counts' : List Counts) (parts parts' : Parted)
    : Type 0 where
  pub same_terms : terms' ≡ terms
  pub same_counts : counts' ≡ counts
  pub same_closed : parts'.closed ≡ parts.closed
  pub same_pending : parts'.pending ≡ parts.pending
