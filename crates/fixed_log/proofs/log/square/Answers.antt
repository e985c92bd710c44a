use Rattle.std.proofs.Common.{rules}
use Rattle.fixed_log.specs.Log.{square}
use Rattle.fixed_log.proofs.log.square.Goals as goal

pub returns : goal.returns
unfolding square
returns c = search rules
