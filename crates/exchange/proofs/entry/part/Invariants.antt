-- Of the entries passed, those in front have a positive sum, and the others none.
use Rattle.std.proofs.Common.{ℕ, ◌<◌, ◌≤◌, pos, ◌+ℤ◌, ◌<ℤ◌, ◌≤ℤ◌, get_or}
use Rattle.std.specs.List.Sorted.{IsPermutation}
use Rattle.exchange.specs.Tries.{no_entry}
use Rattle.exchange.proofs.entry.part.Given as goal

abbrev pub invariant-loop-place : goal.invariant-loop-place
invariant-loop-place l = record {
  same : IsPermutation l.initial.entries l.entries;
  within : l.front ≤ l.place;
  above : (k : ℕ) → k < l.front → pos 0 <ℤ ((get_or l.entries k no_entry).gain +ℤ l.other);
  rest : (k : ℕ) → l.front ≤ k → k < l.place → ((get_or l.entries k no_entry).gain +ℤ l.other) ≤ℤ pos 0;
}
