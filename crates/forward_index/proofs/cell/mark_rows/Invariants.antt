-- The rows at the places passed are marked and counted.
use Rattle.std.proofs.Common.{◌≡◌, length, take, sum_by}
use Rattle.forward_index.specs.Forward.{row_at}
use Rattle.forward_index.specs.Marks.{AreMarks}
use Rattle.forward_index.proofs.cell.mark_rows.Given as goal

abbrev pub invariant-loop-place : goal.invariant-loop-place
invariant-loop-place l = record {
  total : l.total ≡ sum_by (λ place. length (row_at l.whole.rows place)) (take l.place-index l.places);
  marks : AreMarks l.whole.rows (take l.place-index l.places) l.marks;
}
