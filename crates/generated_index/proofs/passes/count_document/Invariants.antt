-- So many term draws are counted.
use Rattle.std.proofs.Common.{◌≡◌, ◌+◌, ◌*◌}
use Rattle.generated_index.specs.Steps.{AreCursors}
use Rattle.generated_index.proofs.passes.count_document.Given as goal

abbrev pub invariant-loop-draw : goal.invariant-loop-draw
invariant-loop-draw l = record {
  made : l.draws.made ≡ 21 * l.document + (1 + l._draw);
  same : l.draws.number ≡ l.fn.draws.number;
  counted : AreCursors l.fn.draws.number l.document l._draw (λ _. 0) l.cursors;
}
