-- The sums are those over the lists passed.
use Rattle.std.specs.Prelude.{slice_range}
use Rattle.gap_report.specs.Tally.{IsTallyOf}
use Rattle.gap_report.proofs.tally.Tally.of_lists.Given as goal

abbrev pub invariant-loop-list : goal.invariant-loop-list
invariant-loop-list l = IsTallyOf l.tally (slice_range l.index.lists l.from l.list)
