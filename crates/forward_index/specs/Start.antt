-- The start order by name: by the bytes of the names, and by the numbers where names are equal.
use Rattle.std.specs.Prelude.{◌≡◌, ◌⊎◌, ℕ, ◌<◌, List, [], length, map, slice_index_or, AllPairs}
use Rattle.std.specs.Cmp.Lexicographic.{slice_cmp}
use Rattle.std.specs.Ordering.{nat_cmp}
use Rattle.std.specs.declared.cmp.Ordering.TheVariants.{Less}
use Rattle.rgb_base.specs.Parts.{IndexParts}
use Rattle.rgb_base.specs.Order.{IsOrder}

abbrev pub name_of : IndexParts → ℕ → List ℕ
name_of index document = slice_index_or (map (λ d. d.name) index.documents) document []

-- the name's bytes are less, or they are equal and the number is less
abbrev pub StandsBefore : IndexParts → ℕ → ℕ → Type 0
StandsBefore index a b =
    (slice_cmp nat_cmp (name_of index a) (name_of index b) ≡ Less)
    ⊎ ((name_of index a ≡ name_of index b) × (a < b))

-- the order lists each document once, each before those that it stands before
pub record IsStartByName (index : IndexParts) (order : List ℕ) : Type 0 where
  pub ordered : IsOrder order
  pub len : length order ≡ length index.documents
  pub before : AllPairs (StandsBefore index) order
