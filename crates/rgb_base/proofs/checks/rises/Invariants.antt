use Rattle.std.proofs.Common.{take, All}
use Rattle.std.specs.Prelude.{FitsSigned}
use Rattle.std.specs.Int.{w32}
use Rattle.rgb_base.proofs.Rising.{RisesTo, IsLeast}
use Rattle.rgb_base.proofs.checks.rises.Given as goal

abbrev pub invariant-loop-posting : goal.invariant-loop-posting
invariant-loop-posting l = record {
  rises : RisesTo l.documents l.postings l.posting-index l.least;
  least : IsLeast l.postings l.posting-index l.least;
  fits : All (λ posting. FitsSigned w32 posting.tf) (take l.posting-index l.postings);
}
