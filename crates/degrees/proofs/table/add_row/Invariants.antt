-- The terms passed are counted once more.
use Rattle.std.proofs.Common.{◌≡◌, take}
use Rattle.degrees.specs.Counts.{with_more}
use Rattle.degrees.specs.Steps.{half_of, other_of}
use Rattle.degrees.proofs.table.add_row.Given as goal

abbrev pub invariant-loop-term : goal.invariant-loop-term
invariant-loop-term l = record {
  half : half_of l.side l.counts ≡ with_more (take l.term-index l.row) (half_of l.side l.initial.counts);
  other : other_of l.side l.counts ≡ other_of l.side l.initial.counts;
}
