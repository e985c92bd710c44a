-- The sum is that of the terms passed, and as small as their counts.
use Rattle.std.proofs.Common.{◌≡◌, ℕ, ◌+◌, ◌*◌, take, get_or}
use Rattle.std.specs.List.{sum_by}
use Rattle.degrees.specs.Sums.{total_by}
use Rattle.exchange.specs.Gain.{term_gain_of}
use Rattle.exchange.specs.Tries.{IsWithin}
use Rattle.exchange.proofs.moves.gain_by_steps.Given as goal

abbrev pub invariant-loop-term : goal.invariant-loop-term
invariant-loop-term l = record {
  same : l.sum ≡ total_by (term_gain_of l.fn.from l.degrees) (take l.term-index l.term-items);
  small : IsWithin (sum_by (λ (t : ℕ). get_or l.degrees.a t 0 + get_or l.degrees.b t 0) (take l.term-index l.term-items) * 8388608) l.sum;
}
