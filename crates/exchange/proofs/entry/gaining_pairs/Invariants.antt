-- Each pair passed gains something.
use Rattle.std.proofs.Common.{ℕ, ◌<◌, pos, ◌+ℤ◌, ◌<ℤ◌, get_or}
use Rattle.exchange.specs.Tries.{no_entry}
use Rattle.exchange.proofs.entry.gaining_pairs.Given as goal

abbrev pub invariant-loop-rank : goal.invariant-loop-rank
invariant-loop-rank l = (k : ℕ) → k < l.rank → pos 0 <ℤ ((get_or l.a k no_entry).gain +ℤ (get_or l.b k no_entry).gain)
