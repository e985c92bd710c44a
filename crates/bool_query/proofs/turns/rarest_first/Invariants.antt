-- Each part so far has its turn.
use Rattle.std.proofs.Common.{◌≡◌, ℕ, ◌<◌, length, get_or}
use Rattle.bool_query.specs.declared.turns.Turn.{Turn}
use Rattle.bool_query.proofs.turns.rarest_first.Given as goal

abbrev pub invariant-loop-place : goal.invariant-loop-place
invariant-loop-place g l = record {
  len : length l.turns.items ≡ l.place;
  each : (k : ℕ) (d : Turn) → k < l.place → (get_or l.turns.items k d).place ≡ k;
}
