-- The rows at the places passed are written.
use Rattle.std.proofs.Common.{take}
use Rattle.forward_index.specs.Marks.{AreWrittenRows}
use Rattle.forward_index.proofs.cell.write_rows.Given as goal

abbrev pub invariant-loop-place : goal.invariant-loop-place
invariant-loop-place l = AreWrittenRows l.whole.rows (take l.place-index l.places) l.numbers l.ends.items l.entries.items
