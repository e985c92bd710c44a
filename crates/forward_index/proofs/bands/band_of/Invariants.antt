-- The documents at the places passed lie in the band.
use Rattle.std.proofs.Common.{ℕ, ◌+◌, ◌<◌, ◌≤◌, get_or}
use Rattle.forward_index.proofs.bands.band_of.Given as goal

abbrev pub invariant-loop-place : goal.invariant-loop-place
invariant-loop-place l = record {
  least : (k : ℕ) → l.first + k < l.place → l.from ≤ get_or l.start (l.first + k) 0;
  greatest : (k : ℕ) → l.first + k < l.place → get_or l.start (l.first + k) 0 < l.limit;
}
