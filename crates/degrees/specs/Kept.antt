-- How a table of degrees lies in memory: the counts of a term side by side, and the terms whose
-- counts aren't both 0.
use Rattle.std.specs.Prelude.{◌≢◌, ℕ, ◌+◌, ◌<◌, ◌≤◌, List, length, map, slice_index, vec_capacity, All, Contains}
use Rattle.std.specs.List.{AllPairs}
use Rattle.degrees.specs.declared.pair.Pair.{Pair}
use Rattle.degrees.specs.declared.counts.Counts.TheInside as counts
use Rattle.degrees.specs.declared.table.Degrees.TheInside as table
use Rattle.degrees.specs.Counts.{Counted}
use Rattle.degrees.specs.Steps.{Both}

-- the counts that pairs hold
abbrev pub both_of : List Pair → Both
both_of pairs = record { a = map (λ pair. pair.a) pairs; b = map (λ pair. pair.b) pairs }

-- the touched terms differ, and are those whose counts aren't both 0
pub record AreTouched (both : Both) (touched : List ℕ) : Type 0 where
  pub below : All (λ term. term < length both.a) touched
  pub different : AllPairs (λ x y. x ≢ y) touched
  pub counted : All (λ term. 0 < slice_index both.a term + slice_index both.b term) touched
  pub each : (term : ℕ) → term < length both.a
      → 0 < slice_index both.a term + slice_index both.b term → Contains touched term

-- there is room for all terms to be touched
pub record IsCounts (inside : counts.Inside) : Type 0 where
  pub touched : AreTouched (both_of inside.pairs.items) inside.touched.items
  pub room : length inside.pairs.items ≤ vec_capacity inside.touched

abbrev pub counted_in : table.Inside → Counted
counted_in inside = record {
  a = inside.counts.a;
  b = inside.counts.b;
  len_a = inside.len_a;
  len_b = inside.len_b;
  loads = inside.loads;
}
