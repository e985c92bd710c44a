use Rattle.std.proofs.Common.{◌≡◌, ℕ, ◌<◌, List, sym, subst}
use Rattle.bool_query.specs.View.{tree_of}
use Rattle.bool_query.specs.Answers.{AreExactly, HasTerm, IsMeantInStore}
use Rattle.bool_query.proofs.Exactly.{exactly_along}
use Rattle.bool_query.proofs.Meant.{meant_below, terms_below}
use Rattle.bool_query.proofs.evaluation.evaluate.Goals as goal

pub returns : goal.returns
returns g c =
    let store = g.S.PostingStore.stored c.args.store.now in
    let n = store.documents in
    let terms = c.args.dictionary.now in
    let tree = tree_of c.args.query.now in
    record {
      ok = subst (λ (l : List ℕ). AreExactly (IsMeantInStore terms store tree) l) (sym c.of.ensures.same)
          (exactly_along (λ doc. (doc < n) × IsMeantInStore terms store tree doc) (IsMeantInStore terms store tree) c.in_ok-ids.ids.items
          (λ doc. (λ h. h.1, λ h. (meant_below (HasTerm terms store) n (terms_below terms store c.documents-documents.ensures.sound c.requires.lists) tree doc h, h))) c.in_ok-ids.ensures);
    }
