use Rattle.std.proofs.Common.{◌+◌, ◌*◌}
use Rattle.gap_report.proofs.costs.+halves.Given as goal

abbrev pub decreases-tally_of : goal.decreases-tally_of
decreases-tally_of g l = 2 * l.workers

abbrev pub decreases-join+arg2 : goal.decreases-join+arg2
decreases-join+arg2 g l = 2 * l.helpers + 1

abbrev pub decreases-join+arg3 : goal.decreases-join+arg3
decreases-join+arg3 g l = 2 * l.others + 1
