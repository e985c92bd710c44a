-- The lists of the terms passed.
use Rattle.std.proofs.Common.{◌≡◌, map}
use Rattle.generated_index.specs.Steps.{bare_list, drawn_below}
use Rattle.generated_index.proofs.index.push_lists.Given as goal

abbrev pub invariant-loop-term : goal.invariant-loop-term
invariant-loop-term l = l.builder ≡ record l.initial.builder { lists = map (bare_list l.number l.documents) (drawn_below l.number l.documents l.term) }
