-- Both counts of each term passed are together below the number.
use Rattle.std.proofs.Common.{ℕ, ◌+◌, ◌<◌, get_or}
use Rattle.exchange_rows.proofs.gains.is_ready.Given as goal

abbrev pub invariant-loop-term : goal.invariant-loop-term
invariant-loop-term l = (k : ℕ) → k < l.term → get_or l.table.a k 0 + get_or l.table.b k 0 < l.top
