use Rattle.std.proofs.Common.{◌+◌, ◌-◌, ◌*◌}
use Rattle.bisection.proofs.descend.+descent.Given as goal

abbrev pub decreases-descend : goal.decreases-descend
decreases-descend g l = 4 * (l.slab.now.last - l.level)

abbrev pub decreases-go_on : goal.decreases-go_on
decreases-go_on g l = 4 * (l.slab.now.last - l.level) - 1

abbrev pub decreases-both : goal.decreases-both
decreases-both g l = 4 * (l.slab.now.last - l.level) - 2

abbrev pub decreases-both-join_mut+arg2 : goal.decreases-both-join_mut+arg2
decreases-both-join_mut+arg2 g l = 4 * (l.slab.now.last - l.below) + 1

abbrev pub decreases-both-join_mut+arg3 : goal.decreases-both-join_mut+arg3
decreases-both-join_mut+arg3 g l = 4 * (l.slab.now.last - l.below) + 1
