use Rattle.std.proofs.Common.{◌≡◌, map, take}
use Rattle.rgb_base.specs.declared.columns.Counts.{Counts}
use Rattle.rgb_base.proofs.index.counts_of.Given as goal

abbrev pub invariant-loop-list : goal.invariant-loop-list
invariant-loop-list l = l.counts.items ≡ map (λ list. let count : Counts = record { df = list.df; cf = list.cf } in count) (take l.list-index l.lists)
