-- No entry passed has a greater gain.
use Rattle.std.proofs.Common.{ℕ, ◌^◌, ◌<◌, ◌≤ℤ◌, get_or}
use Rattle.exchange.specs.Tries.{IsWithin, no_entry}
use Rattle.exchange.proofs.entry.greatest.Given as goal

abbrev pub invariant-loop-entry : goal.invariant-loop-entry
invariant-loop-entry l = record {
  most : (k : ℕ) → k < l.entry-index → (get_or l.entries k no_entry).gain ≤ℤ l.greatest;
  small : IsWithin (2 ^ 56) l.greatest;
}
