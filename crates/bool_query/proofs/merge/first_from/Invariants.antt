-- All from the first place to this one are below the target.
use Rattle.std.proofs.Common.{ℕ, ◌-◌, ◌<◌, ◌≤◌, length, slice_index}
use Rattle.bool_query.proofs.merge.first_from.Given as goal

abbrev pub invariant-loop-place : goal.invariant-loop-place
invariant-loop-place l = record {
  forward : l.from ≤ l.place;
  within : l.place ≤ length l.numbers;
  passed : (k : ℕ) → l.from ≤ k → k < l.place → slice_index l.numbers k < l.target;
}

abbrev pub decreases-loop-place : goal.decreases-loop-place
decreases-loop-place l = length l.numbers - l.place
