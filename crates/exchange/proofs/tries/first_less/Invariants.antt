-- So many pairs are exchanged as half the pairs, a quarter and so on, and no try before costs less.
use Rattle.std.proofs.Common.{◌≡◌, ℕ, ◌/◌, ◌^◌, ◌≤◌}
use Rattle.exchange.specs.Tries.{docs_of, tried, cost_tried, NoneLess}
use Rattle.exchange.proofs.tries.first_less.Given as goal

abbrev pub invariant-loop-exchanged : goal.invariant-loop-exchanged
invariant-loop-exchanged l = record {
  table : l.degrees ≡ tried l.ground.forward.now (docs_of l.a) (docs_of l.b) l.exchanged l.fn.degrees.loads;
  after : l.after ≡ cost_tried l.ground.forward.now (docs_of l.a) (docs_of l.b) l.exchanged;
  fewer : l.exchanged ≤ l.pairs;
  number : (n : ℕ) × (l.exchanged ≡ l.pairs / 2 ^ n) × NoneLess l.ground.forward.now (docs_of l.a) (docs_of l.b) l.pairs l.before n;
}

abbrev pub decreases-loop-exchanged : goal.decreases-loop-exchanged
decreases-loop-exchanged l = l.exchanged
