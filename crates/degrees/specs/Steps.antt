-- The counts of both halves, by term, and what one step makes of them.
use Rattle.std.specs.Prelude.{ℕ, ◌+◌, ◌-◌, List, replicate, slice_index, slice_set}
use Rattle.rgb_base.specs.declared.parts.Side.{Side}
use Rattle.rgb_base.specs.declared.parts.Side.TheVariants.{A, B}
use Rattle.degrees.specs.declared.pair.Pair.{Pair}

pub record Both : Type 0 where
  pub a : List ℕ
  pub b : List ℕ

abbrev pub no_counts : ℕ → Both
no_counts terms = record { a = replicate terms 0; b = replicate terms 0 }

-- the counts of one half, and of the other
abbrev pub half_of : Side → Both → List ℕ
half_of A both = both.a
half_of B both = both.b

abbrev pub other_of : Side → Both → List ℕ
other_of A both = both.b
other_of B both = both.a

-- the same of one term
abbrev pub count_in : Side → Pair → ℕ
count_in A pair = pair.a
count_in B pair = pair.b

abbrev pub count_across : Side → Pair → ℕ
count_across A pair = pair.b
count_across B pair = pair.a

-- one more, or one less, of a term
abbrev pub one_more : List ℕ → ℕ → List ℕ
one_more counts term = slice_set counts term (slice_index counts term + 1)

abbrev pub one_less : List ℕ → ℕ → List ℕ
one_less counts term = slice_set counts term (slice_index counts term - 1)
