-- The terms passed are shifted.
use Rattle.std.proofs.Common.{◌≡◌, take}
use Rattle.degrees.specs.Counts.{with_less, with_more}
use Rattle.degrees.specs.Steps.{half_of, other_of}
use Rattle.degrees.proofs.table.shift_row.Given as goal

abbrev pub invariant-loop-term : goal.invariant-loop-term
invariant-loop-term l = record {
  half : half_of l.from l.counts ≡ with_less (take l.term-index l.row) (half_of l.from l.initial.counts);
  other : other_of l.from l.counts ≡ with_more (take l.term-index l.row) (other_of l.from l.initial.counts);
}
