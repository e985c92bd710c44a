-- The postings of so many term draws stand in the table.
use Rattle.std.proofs.Common.{◌≡◌, ◌+◌, ◌*◌}
use Rattle.generated_index.specs.Steps.{AreCursors, AreFilled, begins}
use Rattle.generated_index.proofs.passes.fill_document.Given as goal

abbrev pub invariant-loop-draw : goal.invariant-loop-draw
invariant-loop-draw l = record {
  made : l.draws.made ≡ 21 * l.document + (1 + l._draw);
  same : l.draws.number ≡ l.fn.draws.number;
  cursors : AreCursors l.fn.draws.number l.document l._draw (begins l.fn.draws.number l.documents) l.cursors;
  filled : AreFilled l.fn.draws.number l.document l._draw l.documents l.table;
}
