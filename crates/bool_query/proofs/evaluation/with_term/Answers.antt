use Rattle.std.proofs.Common.{◌≡◌, ◌<◌, ℕ, List, [], length, Vec, Global, arith}
use Rattle.postings_rewrite.specs.Stores.{list_at}
use Rattle.bool_query.specs.Answers.{AreExactly, HasTerm}
use Rattle.bool_query.specs.Scopes.{InScope}
use Rattle.bool_query.proofs.Terms.{within}
use Rattle.bool_query.proofs.Scoped.{if_ok, kept_both, in_these, has_listed, whole_list}
use Rattle.bool_query.proofs.evaluation.with_term.Goals as goal

pub sift_listed-requires-clause-list : goal.sift_listed-requires-clause-list
sift_listed-requires-clause-list g c =
    omega (arith, within c.args.dictionary.now c.in-Some.list c.args.term.now ((c.list_of.ensures.list c.in-Some.list).0 c.in-Some.is), c.requires.lists)

pub documents_of-requires : goal.documents_of-requires
documents_of-requires g c =
    omega (arith, within c.args.dictionary.now c.in-Some.list c.args.term.now ((c.list_of.ensures.list c.in-Some.list).0 c.in-Some.is), c.requires.lists)

pub returns-in-Some-scope : goal.returns-in-Some-scope
returns-in-Some-scope g c =
    let store = g.S.PostingStore.stored c.args.store.now in
    let terms = c.args.dictionary.now in
    let term = c.args.term.now in
    let list = list_at store c.in-Some.list in
    kept_both (InScope store.documents c.args.scope) (HasTerm terms store term) c.in-Some-scope.ids.items list c.sift_listed.result.items
    (in_these store.documents c.args.scope c.in-Some-scope.ids c.in-Some-scope.is)
    (has_listed terms store term c.in-Some.list c.list_of.result c.in-Some.is c.list_of.ensures.list) c.sift_listed.ensures

pub returns-in-None-scope : goal.returns-in-None-scope
returns-in-None-scope g c =
    let store = g.S.PostingStore.stored c.args.store.now in
    let terms = c.args.dictionary.now in
    let term = c.args.term.now in
    let inside : c.in-Some.list < length store.lists = omega (arith, within terms c.in-Some.list term ((c.list_of.ensures.list c.in-Some.list).0 c.in-Some.is), c.requires.lists) in
    if_ok c.documents_of.result (λ ids. ids.items ≡ list_at store c.in-Some.list) (λ ids. AreExactly (λ doc. InScope store.documents c.args.scope doc × HasTerm terms store term doc) ids.items)
    (λ ids same. whole_list terms store term c.in-Some.list c.list_of.result c.args.scope ids.items c.in-Some.is c.list_of.ensures.list c.in-None-scope.is (c.documents-documents.ensures.sound c.in-Some.list [] inside) same)
    c.documents_of.ensures
