-- The first entries are those of their keys.
use Rattle.std.proofs.Common.{◌≡◌, ℕ, ◌<◌, get_or}
use Rattle.exchange.specs.Tries.{no_entry}
use Rattle.exchange.specs.Keys.{entry_at}
use Rattle.exchange.proofs.entry.fill_entries.Given as goal

abbrev pub invariant-loop-place : goal.invariant-loop-place
invariant-loop-place l = (k : ℕ) → k < l.place → get_or l.entries k no_entry ≡ entry_at l.greatest (get_or l.keys k 0)
