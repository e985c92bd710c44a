use Rattle.std.proofs.Common.{rules}
use Rattle.generated_index.specs.Generated.{state_after}
use Rattle.generated_index.proofs.draws.Draws.of.Goals as goal

pub invariant_of-result : goal.invariant_of-result
unfolding state_after
invariant_of-result c = search rules
