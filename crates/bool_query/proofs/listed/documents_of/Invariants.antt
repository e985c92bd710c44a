-- The documents so far, and where the place stands.
use Rattle.postings_rewrite.specs.Stores.{list_at}
use Rattle.bool_query.proofs.Listing.{IsListing}
use Rattle.bool_query.proofs.listed.documents_of.Given as goal

abbrev pub invariant-loop : goal.invariant-loop
invariant-loop g l =
    let store = g.S.PostingStore in
    IsListing (store.stands l.store l.list) (list_at (store.stored l.store) l.list) l.counter l.least l.ids.items l.place
