-- The forward index of some documents alone, with their terms numbered anew.
use Rattle.std.specs.Prelude.{◌≡◌, ℕ, List, length, map, slice_index, All, Any, Contains}
use Rattle.std.specs.List.{range_with_len}
use Rattle.std.specs.List.Sorted.{IsStrictlyIncreasing}
use Rattle.forward_index.specs.Forward.{ForwardIndex, row_at}

-- The k-th row is that of the k-th of these places. Its terms are the same ones by other numbers:
-- the terms that occur at these places are numbered from 0 on, in their old order.
pub record IsCellOf (whole : ForwardIndex) (places : List ℕ) (cell : ForwardIndex) : Type 0 where
  -- the old number of each term
  pub old_terms : List ℕ
  pub rising : IsStrictlyIncreasing old_terms
  pub occur : All (λ term. Any (λ place. Contains (row_at whole.rows place) term) places) old_terms
  pub terms : cell.terms ≡ length old_terms
  pub rows : map (λ row. map (slice_index old_terms) row) cell.rows ≡ map (row_at whole.rows) places
  pub documents : cell.documents ≡ range_with_len 0 (length places)
