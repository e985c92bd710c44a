-- The terms of the documents passed are counted.
use Rattle.std.proofs.Common.{◌≡◌, ◌*◌}
use Rattle.generated_index.specs.Steps.{AreCursors}
use Rattle.generated_index.proofs.passes.counted.Given as goal

abbrev pub invariant-loop-document : goal.invariant-loop-document
invariant-loop-document l = record {
  made : l.draws.made ≡ 21 * l.document;
  same : l.draws.number ≡ l.number;
  counted : AreCursors l.number l.document 0 (λ _. 0) l.cursors.items;
}
