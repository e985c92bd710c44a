use Rattle.std.proofs.Common.{take, All}
use Rattle.rgb_base.specs.Parts.{AreOrdered, FitsList}
use Rattle.rgb_base.proofs.checks.first_disorder.Given as goal

abbrev pub invariant-loop-place : goal.invariant-loop-place
invariant-loop-place l = record {
  ordered : AreOrdered l.documents (take l.place l.lists);
  fits : All FitsList (take l.place l.lists);
}
