-- All from the first place to the low one are below the target, and the high one is the end or isn't.
use Rattle.std.proofs.Common.{ℕ, ◌-◌, ◌<◌, ◌≤◌, length, slice_index}
use Rattle.postings_rewrite.proofs.search.first_between.Given as goal

abbrev pub invariant-loop-low : goal.invariant-loop-low
invariant-loop-low l = record {
  forward : l.from ≤ l.low;
  order : l.low ≤ l.high;
  within : l.high ≤ length l.numbers;
  passed : (k : ℕ) → l.from ≤ k → k < l.low → slice_index l.numbers k < l.target;
  reached : l.high < length l.numbers → l.target ≤ slice_index l.numbers l.high;
}

abbrev pub decreases-loop-low : goal.decreases-loop-low
decreases-loop-low l = l.high - l.low
