use Rattle.std.proofs.Common.{◌≡◌, ◌<◌, ℕ, ◌+◌, ◌++◌, ◌∷◌, Vec, Global, List, [], length, subst, ap, sym, ◌∙◌, arith, get_or, take}
use Rattle.std.proofs.lemmas.List.{take_all}
use Rattle.postings_rewrite.specs.Stores.{list_at, AreDocuments}
use Rattle.bool_query.proofs.Exactly.{rises}
use Rattle.bool_query.proofs.Listing.{IsListing, comes_to, found_one, listing_more, listing_never_ends}
use Rattle.bool_query.proofs.listed.documents_of.Goals as goal
use Rattle.bool_query.proofs.listed.documents_of.Goals.{in-Some+in_ok-push, in_default}

pub overflow_add-least : goal.overflow_add-least
overflow_add-least g c =
    let store = g.S.PostingStore.stored c.args.store.now in
    let list = list_at store c.args.list in
    let is = c.loop.invariant in
    let next = c.next_geq.ensures.next is.entry is.stands in
    let inside : c.loop.counter < length list = omega (arith, c.len-len.ensures.same, c.loop-test.true) in
    let at : next.entry ≡ c.loop.counter = comes_to (g.S.PostingStore.stands c.args.store.now c.args.list) list c.loop.counter c.loop.least c.loop.ids.items c.loop.place next.entry is inside next.first in
    let here : get_or list next.entry 0 ≡ c.in-Some.doc = found_one list next.entry c.in-Some.doc c.next_geq.result c.in-Some.is next.given in
    let low : get_or list next.entry 0 < store.documents = (c.documents-documents.ensures.sound c.args.list [] c.requires).below next.entry 0 (omega arith) in
    omega (arith, low, here, c.documents-documents.ensures.same, c.documents-documents.type_inv)

pub loop-preserved : goal.loop-preserved
loop-preserved g c =
    let store = g.S.PostingStore.stored c.args.store.now in
    let stands = g.S.PostingStore.stands c.args.store.now c.args.list in
    let list = list_at store c.args.list in
    let is = c.loop.invariant in
    let next = c.next_geq.ensures.next is.entry is.stands in
    let inside : c.loop.counter < length list = omega (arith, c.len-len.ensures.same, c.loop-test.true) in
    elim c.match-next_geq.branch [
      | in-Some+in_ok-push w ↦
          let rising = (c.documents-documents.ensures.sound c.args.list [] c.requires).rising in
          let more : IsListing stands list (c.loop.counter + 1) (w.in-Some.doc + 1) (c.loop.ids.items ++ w.in-Some.doc ∷ []) c.next_geq.new.place =
          listing_more stands list c.loop.counter c.loop.least w.in-Some.doc c.loop.ids.items c.loop.place c.next_geq.new.place c.next_geq.result rising is inside next w.in-Some.is in
          let items : c.match-next_geq.ids.items ≡ c.loop.ids.items ++ w.in-Some.doc ∷ [] = ap (λ (v : Vec ℕ Global). v.items) w.ids-is ∙ w.in_ok-push.ensures.items in
          subst (λ (l : ℕ). IsListing stands list (c.loop.counter + 1) l c.match-next_geq.ids.items c.next_geq.new.place) (sym w.least-is)
          (subst (λ (l : List ℕ). IsListing stands list (c.loop.counter + 1) (w.in-Some.doc + 1) l c.next_geq.new.place) (sym items) more)
      | in_default w ↦ absurd (listing_never_ends stands list c.loop.counter c.loop.least c.loop.ids.items c.loop.place c.next_geq.new.place c.next_geq.result is inside next w.in_default.is)
    ]

pub returns : goal.returns
returns g c =
    let list = list_at (g.S.PostingStore.stored c.args.store.now) c.args.list in
    c.loop.invariant.taken ∙ take_all c.loop.counter list (omega (arith, c.len-len.ensures.same, c.loop-test.false))
