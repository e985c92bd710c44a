-- So many rounds of the cell were kept, and the table has the degrees of the halves that they left.
use Rattle.std.proofs.Common.{◌≡◌, ◌+◌, ◌-◌, ◌≤◌, length, vec_len}
use Rattle.std.specs.Prelude.{vec_capacity}
use Rattle.rgb_base.specs.Order.{AreNumbers}
use Rattle.degrees.specs.Counts.{loaded, cost_of}
use Rattle.exchange.specs.Halving.{half_a, half_b, AreMade}
use Rattle.exchange.proofs.halving.make_rounds.Given as goal

abbrev pub invariant-loop-made : goal.invariant-loop-made
invariant-loop-made g l = record {
  made : AreMade l.ground.forward.now l.fn.docs l.made l.docs l.fn.kept.items l.kept.items;
  places : AreNumbers (length l.ground.forward.now.rows) l.docs;
  table : l.degrees ≡ loaded l.ground.forward.now (half_a l.docs) (half_b l.docs) l.fn.degrees.loads;
  before : l.before ≡ cost_of l.degrees;
  room : l.scratch ≡ l.fn.scratch;
  place : vec_len l.kept + (l.rounds - l.made) ≤ vec_capacity l.kept;
}
