-- The numbers passed are replaced, and the others are as they were.
use Rattle.std.proofs.Common.{◌≡◌, ℕ, ◌<◌, ◌≤◌, get_or, take, sum}
use Rattle.forward_index.proofs.build.sums_before.Given as goal

abbrev pub invariant-loop-number : goal.invariant-loop-number
invariant-loop-number l = record {
  next : l.next ≡ sum (take l.number-index l.initial.numbers);
  done : (k : ℕ) → k < l.number-index → get_or l.numbers k 0 ≡ sum (take k l.initial.numbers);
  left : (k : ℕ) → l.number-index ≤ k → get_or l.numbers k 0 ≡ get_or l.initial.numbers k 0;
}
