use Rattle.std.proofs.Common.{[]}
use Rattle.postings_rewrite.specs.Stores.{list_at}
use Rattle.bool_query.proofs.Listing.{answers_there, passed_more}
use Rattle.bool_query.proofs.listed.is_next.Goals as goal

pub returns-clause-listed : goal.returns-clause-listed
returns-clause-listed g c =
    let behind = c.requires.behind in
    let next = c.next_geq.ensures.next behind.entry behind.stands in
    answers_there (list_at (g.S.PostingStore.stored c.args.store.now) c.args.list) c.args.doc behind.entry next.entry c.next_geq.result c.eq.result
    (c.documents-documents.ensures.sound c.args.list [] c.requires.list).rising behind.passed next.first next.given c.eq.ensures

pub returns-clause-behind : goal.returns-clause-behind
returns-clause-behind g c =
    let behind = c.requires.behind in
    let next = c.next_geq.ensures.next behind.entry behind.stands in
    record {
      entry = next.entry;
      stands = next.stands;
      passed = passed_more (list_at (g.S.PostingStore.stored c.args.store.now) c.args.list) c.args.doc behind.entry next.entry behind.passed next.first;
    }
