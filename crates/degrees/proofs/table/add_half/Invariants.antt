-- The places passed are counted.
use Rattle.std.proofs.Common.{◌≡◌, take}
use Rattle.degrees.specs.Counts.{degrees_of}
use Rattle.degrees.specs.Steps.{half_of, other_of}
use Rattle.degrees.proofs.table.add_half.Given as goal

abbrev pub invariant-loop-place : goal.invariant-loop-place
invariant-loop-place l = record {
  half : half_of l.side l.counts ≡ degrees_of l.forward (take l.place-index l.half);
  other : other_of l.side l.counts ≡ other_of l.side l.initial.counts;
}
