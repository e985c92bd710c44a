use Rattle.std.proofs.Common.{◌≡◌, ◌↔◌, ℕ, ◌+◌, ◌<◌, ◌++◌, false, List, length, map, get_or, Vec, Global, All, Contains, Option, None, IfOk, refl, sym, ap, subst, ◌∙◌, arith}
use Rattle.std.proofs.lemmas.List.{length-map, get_or-map, get_or_default}
use Rattle.postings_rewrite.specs.Stores.{AreDocuments}
use Rattle.bool_query.specs.declared.query.Query.{Query}
use Rattle.bool_query.specs.Tree.{Tree, of_term, conjunction, disjunction, negation, row}
use Rattle.bool_query.specs.View.{tree_of, queries_of}
use Rattle.bool_query.specs.Meaning.{IsMeant, IsInSome}
use Rattle.bool_query.specs.Answers.{AreExactly, HasTerm, IsMeantInStore}
use Rattle.bool_query.specs.Scopes.{InScope, IsScope, AreSifted}
use Rattle.bool_query.proofs.Exactly.{exactly_along}
use Rattle.bool_query.proofs.Meant.{nothing, meant_below, terms_below, exactly_below, SomeFirst}
use Rattle.bool_query.proofs.Scoped.{if_ok, left_out}
use Rattle.bool_query.proofs.Trees.{tree_Term, tree_All, tree_Any, tree_Not}
use Rattle.bool_query.proofs.Conjoined.{every_scope, every_more, every_end, some_more, some_end, negated, beyond}
use Rattle.bool_query.proofs.evaluation.+answers.Goals as goal

tree_at : (parts : List Query) (k : ℕ) (part : Query) → k < length parts → part ≡ get_or parts k part → get_or (map tree_of parts) k nothing ≡ tree_of part
tree_at parts k part inside is = get_or-map tree_of parts k part nothing inside ∙ ap tree_of (sym is)

pub in_every-loop-i-preserved : goal.in_every-loop-i-preserved
in_every-loop-i-preserved g t c =
    let store = g.S.PostingStore.stored c.args.store.now in
    let n = store.documents in
    let posted = HasTerm c.args.dictionary.now store in
    let parts = c.args.parts.now in
    let trees = map tree_of parts in
    let places = c.in_ok-places.places.items in
    let i = c.loop-i.i in
    let part = c.index-parts-index.result in
    let ids = c.in_ok-within.field-0.items in
    let inside : i < length places = omega (arith, c.loop-i-test.true, c.len-i-end.ensures) in
    let place : get_or places i 0 ≡ c.index.result.now = get_or_default places i 0 c.index.result.now inside ∙ sym c.index.ensures in
    let low : get_or places i 0 < length parts = c.in_ok-places.ensures.below i 0 inside in
    let at : get_or trees (get_or places i 0) nothing ≡ tree_of part =
    ap (λ (k : ℕ). get_or trees k nothing) place ∙ tree_at parts c.index.result.now part (omega (arith, low, place)) c.index-parts-index.is in
    let is : AreExactly (λ doc. InScope n c.loop-i.left doc × IsMeant posted n (tree_of part) doc) ids = c.in_ok-within.ensures in
    record {
      scope = every_scope posted n c.loop-i.left (tree_of part) ids c.loop-i.invariant.scope is;
      each = every_more posted n c.args.scope c.loop-i.left trees places i (tree_of part) ids c.loop-i.invariant.each at is;
    }

pub in_every-returns : goal.in_every-returns
in_every-returns g t c =
    let store = g.S.PostingStore.stored c.args.store.now in
    let posted = HasTerm c.args.dictionary.now store in
    let parts = c.args.parts.now in
    let trees = map tree_of parts in
    let len = length-map parts tree_of in
    let places = c.in_ok-places.places.items in
    let below : All (λ place. place < length trees) places = λ k d inside. omega (arith, len, c.in_ok-places.ensures.below k d inside) in
    let whole : IfOk c.whole.result (λ ids. AreExactly (InScope store.documents c.loop-i.left) ids.items) =
    subst (λ (m : ℕ). IfOk c.whole.result (λ ids. AreExactly (InScope m c.loop-i.left) ids.items)) c.documents.ensures.same c.whole.ensures in
    if_ok c.whole.result (λ ids. AreExactly (InScope store.documents c.loop-i.left) ids.items) (λ ids. AreExactly (λ doc. InScope store.documents c.args.scope doc × IsMeantInStore c.args.dictionary.now store (conjunction (row trees)) doc) ids.items)
    (λ ids is. every_end posted store.documents c.args.scope c.loop-i.left trees places c.loop-i.i ids.items c.requires.scope c.loop-i.invariant.each (omega (arith, c.len-i-end.ensures)) below (λ k inside. c.in_ok-places.ensures.each k (omega (arith, len))) is)
    whole

pub in_some-loop-i-preserved : goal.in_some-loop-i-preserved
in_some-loop-i-preserved g t c =
    let store = g.S.PostingStore.stored c.args.store.now in
    let n = store.documents in
    let terms = c.args.dictionary.now in
    let posted = HasTerm terms store in
    let parts = c.args.parts.now in
    let trees = map tree_of parts in
    let i = c.loop-i.i in
    let part = c.index-parts-i.result in
    let inside : i < length parts = omega arith in
    let is : AreExactly (λ doc. (doc < n) × IsMeant posted n (tree_of part) doc) c.in_ok-more.more.items = c.in_ok-more.ensures in
    let items : c.extend_from_slice.new.self.items ≡ c.loop-i.ids.items ++ c.in_ok-more.more.items =
    c.in_ok-extend_from_slice.ensures.items ∙ ap (λ (l : List ℕ). c.loop-i.ids.items ++ l) c.deref.ensures.value in
    subst (λ (l : List ℕ). (doc : ℕ) → Contains l doc ↔ SomeFirst posted n trees (i + 1) doc) (sym items)
    (some_more posted n trees i (tree_of part) c.loop-i.ids.items c.in_ok-more.more.items (terms_below terms store c.documents-documents.ensures.sound c.requires.lists) c.loop-i.invariant (tree_at parts i part inside c.index-parts-i.is) is)

pub in_some-returns : goal.in_some-returns
in_some-returns g t c =
    let store = g.S.PostingStore.stored c.args.store.now in
    let parts = c.args.parts.now in
    some_end (HasTerm c.args.dictionary.now store) store.documents (map tree_of parts) c.loop-i.i c.loop-i.ids.items c.united.result.items c.loop-i.invariant (omega (arith, length-map parts tree_of)) c.united.ensures

pub within-shared-requires-clause-found : goal.within-shared-requires-clause-found
within-shared-requires-clause-found g t c =
    let store = g.S.PostingStore.stored c.args.store.now in
    let terms = c.args.dictionary.now in
    let tree = disjunction (row (map tree_of c.as_slice-in-Any.result.now)) in
    subst (λ (m : ℕ). AreDocuments m c.in_ok-found-in-Any.found.items) (sym c.documents.ensures.same)
    (exactly_below (IsMeantInStore terms store tree) c.in_ok-found-in-Any.found.items store.documents
    (λ doc h. meant_below (HasTerm terms store) store.documents (terms_below terms store c.documents.ensures.sound c.requires.lists) tree doc h) c.in_ok-found-in-Any.ensures)

pub within-returns-in-All : goal.within-returns-in-All
within-returns-in-All g t c =
    let store = g.S.PostingStore.stored c.args.store.now in
    let tree : tree_of c.args.query.now ≡ conjunction (row (map tree_of c.as_slice.result.now)) =
    ap tree_of c.in-All.is ∙ tree_All c.in-All.parts ∙ ap (λ (qs : List Query). conjunction (row (map tree_of qs))) (sym c.as_slice.ensures.same) in
    subst (λ (u : Tree). IfOk c.in_every.result (λ ids. AreExactly (λ doc. InScope store.documents c.args.scope doc × IsMeantInStore c.args.dictionary.now store u doc) ids.items)) (sym tree) c.in_every.ensures

pub within-returns-in_ok-found-in-Any : goal.within-returns-in_ok-found-in-Any
within-returns-in_ok-found-in-Any g t c =
    let store = g.S.PostingStore.stored c.args.store.now in
    let terms = c.args.dictionary.now in
    let slice = c.as_slice-in-Any.result.now in
    let found = c.in_ok-found-in-Any.found.items in
    let tree : tree_of c.args.query.now ≡ disjunction (row (map tree_of slice)) =
    ap tree_of c.in-Any.is ∙ tree_Any c.in-Any.parts ∙ ap (λ (qs : List Query). disjunction (row (map tree_of qs))) (sym c.as_slice-in-Any.ensures.same) in
    let shared : AreExactly (λ doc. InScope store.documents c.args.scope doc × Contains found doc) c.shared.result.items =
    subst (λ (m : ℕ). AreExactly (λ doc. InScope m c.args.scope doc × Contains found doc) c.shared.result.items) c.documents.ensures.same c.shared.ensures in
    subst (λ (u : Tree). AreExactly (λ doc. InScope store.documents c.args.scope doc × IsMeantInStore terms store u doc) c.shared.result.items) (sym tree)
    (exactly_along (λ doc. InScope store.documents c.args.scope doc × Contains found doc) (λ doc. InScope store.documents c.args.scope doc × IsMeantInStore terms store (disjunction (row (map tree_of slice))) doc) c.shared.result.items
    (λ doc. (λ h. (h.0, (c.in_ok-found-in-Any.ensures.each doc).0 h.1), λ h. (h.0, (c.in_ok-found-in-Any.ensures.each doc).1 h.1))) shared)

pub within-returns-in-Term-as_ref : goal.within-returns-in-Term-as_ref
within-returns-in-Term-as_ref g t c =
    let store = g.S.PostingStore.stored c.args.store.now in
    let terms = c.args.dictionary.now in
    let leaf = of_term c.as_str-in-Term-as_ref.result.now in
    let tree : tree_of c.args.query.now ≡ negation leaf =
    ap tree_of c.in-Not.is ∙ tree_Not c.in-Not.part ∙ ap (λ (q : Query). negation (tree_of q)) (sym c.as_ref.ensures ∙ c.in-Term-as_ref.is) ∙ ap negation (tree_Term c.in-Term-as_ref.term ∙ ap of_term (sym c.as_str-in-Term-as_ref.ensures.same)) in
    subst (λ (u : Tree). IfOk c.without_term.result (λ ids. AreExactly (λ doc. InScope store.documents c.args.scope doc × IsMeantInStore terms store u doc) ids.items)) (sym tree)
    (if_ok c.without_term.result (λ ids. AreExactly (λ doc. InScope store.documents c.args.scope doc × (¬ IsMeantInStore terms store leaf doc)) ids.items) (λ ids. AreExactly (λ doc. InScope store.documents c.args.scope doc × IsMeantInStore terms store (negation leaf) doc) ids.items)
    (λ ids is. negated (HasTerm terms store) store.documents c.args.scope leaf ids.items c.requires.scope is) c.without_term.ensures)

pub within-returns-in_ok-ids-in_default : goal.within-returns-in_ok-ids-in_default
within-returns-in_ok-ids-in_default g t c =
    let store = g.S.PostingStore.stored c.args.store.now in
    let n = store.documents in
    let terms = c.args.dictionary.now in
    let posted = HasTerm terms store in
    let inner = tree_of c.as_ref.result.now in
    let ids = c.in_ok-ids-in_default.ids.items in
    let out = c.in_ok-left_out-in_default.left_out.items in
    let result = c.sift.result.items in
    let tree : tree_of c.args.query.now ≡ negation inner = ap tree_of c.in-Not.is ∙ tree_Not c.in-Not.part ∙ ap (λ (q : Query). negation (tree_of q)) (sym c.as_ref.ensures) in
    let whole : AreExactly (InScope n c.args.scope) ids = subst (λ (m : ℕ). AreExactly (InScope m c.args.scope) ids) c.documents-in_default.ensures.same c.in_ok-ids-in_default.ensures in
    let meant : AreExactly (λ doc. (doc < n) × IsMeant posted n inner doc) out = c.in_ok-left_out-in_default.ensures in
    let sifted : AreSifted ids out false result = subst (λ (l : List ℕ). AreSifted ids l false result) c.deref.ensures.value c.sift.ensures in
    subst (λ (u : Tree). AreExactly (λ doc. InScope n c.args.scope doc × IsMeant posted n u doc) result) (sym tree)
    (beyond posted n c.args.scope inner result c.requires.scope (left_out (InScope n c.args.scope) (λ doc. (doc < n) × IsMeant posted n inner doc) ids out result whole.each meant.each sifted))
