use Rattle.std.proofs.Common.{◌≡◌, map, take}
use Rattle.rgb_base.proofs.index.terms_of.Given as goal

abbrev pub invariant-loop-list : goal.invariant-loop-list
invariant-loop-list l = l.terms ≡ map (λ list. list.term) (take l.list-index l.lists)
