use Rattle.std.proofs.Common.{◌+◌, ◌*◌}
use Rattle.forward_index.proofs.fill.+filling.Given as goal

abbrev pub decreases-fill_rows : goal.decreases-fill_rows
decreases-fill_rows g l = 2 * l.workers

abbrev pub decreases-join_mut+arg2 : goal.decreases-join_mut+arg2
decreases-join_mut+arg2 g l = 2 * l.helpers + 1

abbrev pub decreases-join_mut+arg3 : goal.decreases-join_mut+arg3
decreases-join_mut+arg3 g l = 2 * l.others + 1
