-- The documents at the numbers passed.
use Rattle.std.proofs.Common.{◌≡◌, take}
use Rattle.bisection.proofs.next.order_of.Given as goal

abbrev pub invariant-loop-number : goal.invariant-loop-number
invariant-loop-number l = l.order.items ≡ take l.number l.numbering
