use Rattle.std.proofs.Common.{◌+◌, ◌*◌}
use Rattle.exchange.proofs.moves.+sharing.Given as goal

abbrev pub decreases-gains_shared : goal.decreases-gains_shared
decreases-gains_shared g l = 2 * l.workers

abbrev pub decreases-join_mut+arg2 : goal.decreases-join_mut+arg2
decreases-join_mut+arg2 g l = 2 * l.helpers + 1

abbrev pub decreases-join_mut+arg3 : goal.decreases-join_mut+arg3
decreases-join_mut+arg3 g l = 2 * l.others + 1
