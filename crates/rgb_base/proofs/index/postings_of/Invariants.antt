use Rattle.std.proofs.Common.{◌≡◌, [], map, take}
use Rattle.rgb_base.proofs.index.postings_of.Given as goal

abbrev pub invariant-loop-list : goal.invariant-loop-list
invariant-loop-list l = record {
  closed : l.postings.closed ≡ map (λ list. list.postings) (take l.list-index l.lists);
  pending : l.postings.pending ≡ [];
}
