use Rattle.std.proofs.Common.{◌+◌, ◌*◌}
use Rattle.exchange.proofs.moves.+filling.Given as goal

abbrev pub decreases-fill_shared : goal.decreases-fill_shared
decreases-fill_shared g l = 2 * l.workers

abbrev pub decreases-join_mut+arg2 : goal.decreases-join_mut+arg2
decreases-join_mut+arg2 g l = 2 * l.helpers + 1

abbrev pub decreases-join_mut+arg3 : goal.decreases-join_mut+arg3
decreases-join_mut+arg3 g l = 2 * l.others + 1
