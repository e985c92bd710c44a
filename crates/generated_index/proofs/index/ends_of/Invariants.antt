-- The ends of the terms passed.
use Rattle.std.proofs.Common.{◌≡◌}
use Rattle.generated_index.specs.Steps.{begins, ends_of, drawn_below}
use Rattle.generated_index.proofs.index.ends_of.Given as goal

abbrev pub invariant-loop-cursor : goal.invariant-loop-cursor
invariant-loop-cursor l = record {
  end : l.end ≡ begins l.number l.documents l.cursor-index;
  ends : l.ends.items ≡ ends_of l.number l.documents (drawn_below l.number l.documents l.cursor-index);
}
