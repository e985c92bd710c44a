-- The documents passed were moved.
use Rattle.std.proofs.Common.{◌≡◌, take}
use Rattle.degrees.specs.Cost.{degree}
use Rattle.exchange.specs.Tries.{docs_of, all_across}
use Rattle.exchange.proofs.tries.shift_all.Given as goal

abbrev pub invariant-loop-entry : goal.invariant-loop-entry
invariant-loop-entry l = record {
  moved : l.degrees ≡ all_across l.from (degree l.ground.forward.now (take l.entry-index (docs_of l.entries))) l.initial.degrees;
}
