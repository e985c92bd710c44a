-- The first keys are those of their entries.
use Rattle.std.proofs.Common.{◌≡◌, ℕ, ◌<◌, get_or}
use Rattle.exchange.specs.Tries.{no_entry}
use Rattle.exchange.specs.Keys.{entry_at}
use Rattle.exchange.proofs.entry.fill_keys.Given as goal

abbrev pub invariant-loop-place : goal.invariant-loop-place
invariant-loop-place l = (k : ℕ) → k < l.place → entry_at l.greatest (get_or l.keys k 0) ≡ get_or l.entries k no_entry
