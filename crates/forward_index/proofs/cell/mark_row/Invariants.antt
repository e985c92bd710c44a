-- The terms passed are marked.
use Rattle.std.proofs.Common.{take}
use Rattle.forward_index.specs.Marks.{AreMarked}
use Rattle.forward_index.proofs.cell.mark_row.Given as goal

abbrev pub invariant-loop-term : goal.invariant-loop-term
invariant-loop-term l = AreMarked (take l.term-index l.row) l.initial.marks l.marks
