-- The first places are filled.
use Rattle.std.proofs.Common.{◌≡◌, ℕ, length, take, map}
use Rattle.forward_index.specs.Forward.{row_at}
use Rattle.exchange.specs.Gain.{gain_of}
use Rattle.exchange.proofs.moves.gains_alone.Given as goal

abbrev pub invariant-loop-place : goal.invariant-loop-place
invariant-loop-place l = record {
  len : length l.out ≡ length l.docs;
  same : take l.place l.out ≡ map (λ (doc : ℕ). gain_of l.from l.degrees (row_at l.ground.forward.now.rows doc)) (take l.place l.docs);
}
