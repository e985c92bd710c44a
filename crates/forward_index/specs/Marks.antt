-- The terms of a cell marked and numbered anew, as the functions of this crate hand them on.
use Rattle.std.specs.Prelude.{◌≡◌, ◌⊎◌, ℕ, ◌≤◌, List, map, flat_map, slice_index, All, Any, Contains}
use Rattle.forward_index.specs.Forward.{row_at}
use Rattle.forward_index.specs.Rows.{ends}

-- each term of the row has a one, and the others what they had
pub record AreMarked (row old new : List ℕ) : Type 0 where
  pub marked : All (λ term. slice_index new term ≡ 1) row
  pub others : (term : ℕ)
      → (slice_index new term ≡ slice_index old term)
      ⊎ (Contains row term × (slice_index new term ≡ 1))

-- the terms that occur at the places have a one, and the others none
pub record AreMarks (rows : List (List ℕ)) (places marks : List ℕ) : Type 0 where
  pub bits : (term : ℕ) → slice_index marks term ≤ 1
  pub occur : (term : ℕ) → slice_index marks term ≡ 1
      → Any (λ place. Contains (row_at rows place) term) places
  pub marked : All (λ place. All (λ term. slice_index marks term ≡ 1) (row_at rows place)) places

-- the rows at the places with these numbers for their terms
abbrev pub renamed_rows : List (List ℕ) → List ℕ → List ℕ → List (List ℕ)
renamed_rows rows numbers places =
    map (λ place. map (slice_index numbers) (row_at rows place)) places

-- they stand side by side, with the place at which each ends
pub record AreWrittenRows
    (rows : List (List ℕ)) (places numbers row_ends entries : List ℕ) : Type 0 where
  pub ends : row_ends ≡ ends 0 (renamed_rows rows numbers places)
  pub filled : entries ≡ flat_map (λ row. row) (renamed_rows rows numbers places)
