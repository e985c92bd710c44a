use Rattle.rgb_app.specs.Prepared.{all_lent}
use Rattle.rgb_app.proofs.Merges.{lists_of, AreMerged}
use Rattle.rgb_app.proofs.merging.in_order.Given as goal

abbrev pub invariant-loop-place : goal.invariant-loop-place
invariant-loop-place l = AreMerged (lists_of l.by_reader) l.place (all_lent l.all.items)
