use Rattle.std.proofs.Common.{take, All}
use Rattle.std.specs.Prelude.{FitsSigned}
use Rattle.std.specs.Int.{w32}
use Rattle.rgb_base.proofs.index.values_fit.Given as goal

abbrev pub invariant-loop-posting : goal.invariant-loop-posting
invariant-loop-posting l = All (λ posting. FitsSigned w32 posting.tf) (take l.posting-index l.table)
