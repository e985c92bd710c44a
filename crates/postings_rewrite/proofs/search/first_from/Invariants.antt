-- All from the first place to the low one are below the target.
use Rattle.std.proofs.Common.{ℕ, ◌+◌, ◌-◌, ◌*◌, ◌<◌, ◌≤◌, length, slice_index}
use Rattle.postings_rewrite.proofs.search.first_from.Given as goal

abbrev pub invariant-loop-step : goal.invariant-loop-step
invariant-loop-step l = record {
  some : 0 < l.step;
  small : l.step ≤ 2 * length l.numbers + 1;
  forward : l.from ≤ l.low;
  within : l.low ≤ length l.numbers;
  passed : (k : ℕ) → l.from ≤ k → k < l.low → slice_index l.numbers k < l.target;
}

abbrev pub decreases-loop-step : goal.decreases-loop-step
decreases-loop-step l = length l.numbers - l.low
