-- The postings of the documents passed stand in the table.
use Rattle.std.proofs.Common.{◌≡◌, ◌*◌}
use Rattle.generated_index.specs.Steps.{AreCursors, AreFilled, begins}
use Rattle.generated_index.proofs.passes.table_of.Given as goal

abbrev pub invariant-loop-document : goal.invariant-loop-document
invariant-loop-document l = record {
  made : l.draws.made ≡ 21 * l.document;
  same : l.draws.number ≡ l.number;
  cursors : AreCursors l.number l.document 0 (begins l.number l.documents) l.cursors.items;
  filled : AreFilled l.number l.document 0 l.documents l.table.items;
}
