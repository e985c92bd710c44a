use Rattle.std.proofs.Common.{◌+◌, ◌*◌}
use Rattle.postings_rewrite.proofs.renumbering.+halves.Given as goal

abbrev pub decreases-renumber_lists : goal.decreases-renumber_lists
decreases-renumber_lists g l = 2 * l.workers

abbrev pub decreases-join_mut+arg2 : goal.decreases-join_mut+arg2
decreases-join_mut+arg2 g l = 2 * l.helpers + 1

abbrev pub decreases-join_mut+arg3 : goal.decreases-join_mut+arg3
decreases-join_mut+arg3 g l = 2 * l.others + 1
