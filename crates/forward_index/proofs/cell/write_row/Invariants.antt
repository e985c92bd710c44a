-- The terms passed are written.
use Rattle.std.proofs.Common.{◌≡◌, ◌++◌, get_or, take, map}
use Rattle.forward_index.proofs.cell.write_row.Given as goal

abbrev pub invariant-loop-term : goal.invariant-loop-term
invariant-loop-term l = l.entries.items ≡ l.initial.entries.items ++ map (λ term. get_or l.numbers term 0) (take l.term-index l.row)
