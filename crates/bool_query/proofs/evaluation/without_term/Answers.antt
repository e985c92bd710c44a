use Rattle.std.proofs.Common.{◌≡◌, ◌<◌, ℕ, List, [], length, subst, arith}
use Rattle.postings_rewrite.specs.Stores.{list_at}
use Rattle.bool_query.specs.Answers.{AreExactly, HasTerm}
use Rattle.bool_query.specs.Scopes.{InScope}
use Rattle.bool_query.proofs.Terms.{within}
use Rattle.bool_query.proofs.Scoped.{left_out, has_listed}
use Rattle.bool_query.proofs.evaluation.without_term.Goals as goal

pub sift_listed-requires-clause-list : goal.sift_listed-requires-clause-list
sift_listed-requires-clause-list g c =
    omega (arith, within c.args.dictionary.now c.in-Some.list c.args.term.now ((c.list_of.ensures.list c.in-Some.list).0 c.in-Some.is), c.requires.lists)

pub returns-in-Some : goal.returns-in-Some
returns-in-Some g c =
    let store = g.S.PostingStore.stored c.args.store.now in
    let terms = c.args.dictionary.now in
    let term = c.args.term.now in
    let all : AreExactly (InScope store.documents c.args.scope) c.in_ok-ids.ids.items =
    subst (λ (n : ℕ). AreExactly (InScope n c.args.scope) c.in_ok-ids.ids.items) c.documents.ensures.same c.in_ok-ids.ensures in
    left_out (InScope store.documents c.args.scope) (HasTerm terms store term) c.in_ok-ids.ids.items (list_at store c.in-Some.list) c.sift_listed.result.items
    all.each (has_listed terms store term c.in-Some.list c.list_of.result c.in-Some.is c.list_of.ensures.list) c.sift_listed.ensures
