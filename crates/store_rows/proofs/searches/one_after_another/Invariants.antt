use Rattle.postings_rewrite.specs.Stores.{list_at}
use Rattle.postings_rewrite.specs.Places.{StandsIn}
use Rattle.store_rows.proofs.searches.one_after_another.Given as goal

abbrev pub invariant-loop-target : goal.invariant-loop-target
invariant-loop-target g l =
    let store = g.S.PostingStore in
    StandsIn (store.stands l.store l.list) (list_at (store.stored l.store) l.list) l.place
