-- The first steps are filled.
use Rattle.std.proofs.Common.{◌≡◌, ℕ, ◌<◌, length, get_or, pos}
use Rattle.exchange.specs.Tries.{IsStep}
use Rattle.exchange.proofs.moves.fill_steps.Given as goal

abbrev pub invariant-loop-term : goal.invariant-loop-term
invariant-loop-term l = record {
  len : length l.steps ≡ length l.initial.steps;
  filled : (t : ℕ) → t < l.term → IsStep l.from l.degrees t (get_or l.steps t (pos 0));
}
