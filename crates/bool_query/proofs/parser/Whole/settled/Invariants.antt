use Rattle.std.proofs.Common.{List, length}
use Rattle.bool_query.specs.Token.{Token}
use Rattle.bool_query.specs.Parser.{IsHolding}
use Rattle.bool_query.proofs.parser.Whole.settled.Given as goal

abbrev pub invariant-loop-alloc : goal.invariant-loop-alloc
invariant-loop-alloc l = (tokens : List Token) → IsHolding l.fn.self tokens → IsHolding l.whole tokens

abbrev pub decreases-loop-alloc : goal.decreases-loop-alloc
decreases-loop-alloc l = length l.whole.outer.items
