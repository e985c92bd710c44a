-- The terms passed have a count.
use Rattle.std.proofs.Common.{take}
use Rattle.degrees.specs.Counts.{IsCountedIn}
use Rattle.exchange_rows.proofs.gains.is_counted.Given as goal

abbrev pub invariant-loop-term : goal.invariant-loop-term
invariant-loop-term l = IsCountedIn l.side (take l.term-index l.row) l.table
