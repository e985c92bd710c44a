-- The first places are filled.
use Rattle.std.proofs.Common.{◌≡◌, ℕ, ◌<◌, length, take, map, get_or}
use Rattle.exchange.specs.Tries.{entry_of, IsLow}
use Rattle.exchange.specs.Tries.{no_entry}
use Rattle.exchange.proofs.moves.fill.Given as goal

abbrev pub invariant-loop-place : goal.invariant-loop-place
invariant-loop-place l = record {
  len : length l.entries ≡ length l.docs;
  same : take l.place l.entries ≡ map (entry_of l.from l.degrees l.ground.forward.now.rows) (take l.place l.docs);
  low : (k : ℕ) → k < l.place → IsLow (get_or l.entries k no_entry);
}
