use Rattle.std.proofs.Common.{refl, inl, arith}
use Rattle.forward_index.proofs.Cells.{marked_more}
use Rattle.forward_index.proofs.cell.mark_row.Goals as goal

pub loop-term-init : goal.loop-term-init
loop-term-init c = record { marked = λ k d lt. absurd (omega (arith, lt)); others = λ t. inl refl }

pub loop-term-preserved : goal.loop-term-preserved
loop-term-preserved c = marked_more c.args.row.now c.args.marks.now c.loop-term.marks c.loop-term.term-index c.loop-term-test.true (omega (arith, c.requires.below c.loop-term.term-index 0 c.loop-term-test.true, c.loop-term.auto.marks)) c.loop-term.invariant
