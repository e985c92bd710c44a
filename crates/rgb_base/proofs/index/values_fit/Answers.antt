use Rattle.std.proofs.Common.{arith}
use Rattle.std.proofs.Common.{rules}
use Rattle.std.specs.Prelude.{FitsSigned}
use Rattle.std.specs.Int.{w32}
use Rattle.std.proofs.lemmas.List.Elements.{All-more}
use Rattle.rgb_base.proofs.Lists.{All-whole}
use Rattle.rgb_base.proofs.Rising.{no_posting}
use Rattle.rgb_base.proofs.index.values_fit.Goals as goal

pub loop-posting-preserved : goal.loop-posting-preserved
loop-posting-preserved c = All-more (λ posting. FitsSigned w32 posting.tf) _ _ no_posting c.loop-posting-test.true c.loop-posting.invariant (search rules)

pub returns : goal.returns
returns c = All-whole (λ posting. FitsSigned w32 posting.tf) _ _ (omega arith) c.loop-posting.invariant
