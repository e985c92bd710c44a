use Rattle.postings_rewrite.specs.Stores.{list_at}
use Rattle.postings_rewrite.specs.Places.{StandsIn}
use Rattle.store_rows.proofs.long.finds_each_in_turn.Given as goal

abbrev pub invariant-loop-number : goal.invariant-loop-number
invariant-loop-number g l =
    let store = g.S.PostingStore in
    StandsIn (store.stands l.store 0) (list_at (store.stored l.store) 0) l.place
