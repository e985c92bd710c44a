-- What the parts so far leave of the scope, and what they mean together.
use Rattle.std.proofs.Common.{◌≡◌, ◌↔◌, ℕ, ◌<◌, length, get_or, map, Contains}
use Rattle.bool_query.specs.View.{tree_of}
use Rattle.bool_query.specs.Answers.{HasTerm}
use Rattle.bool_query.specs.Scopes.{InScope, IsScope}
use Rattle.bool_query.specs.Meaning.{IsMeant}
use Rattle.bool_query.proofs.Meant.{SomeFirst, nothing}
use Rattle.bool_query.proofs.evaluation.+answers.Given as goal

abbrev pub invariant-in_every-loop-i : goal.invariant-in_every-loop-i
invariant-in_every-loop-i g l =
    let store = g.S.PostingStore.stored l.store in
    record {
      scope : IsScope store.documents l.left;
      each : (doc : ℕ) → InScope store.documents l.left doc ↔ (InScope store.documents l.fn.scope doc × ((j : ℕ) → j < l.i → IsMeant (HasTerm l.dictionary store) store.documents (get_or (map tree_of l.parts) (get_or l.places.items j 0) nothing) doc));
    }

abbrev pub invariant-in_some-loop-i : goal.invariant-in_some-loop-i
invariant-in_some-loop-i g l =
    let store = g.S.PostingStore.stored l.store in
    (doc : ℕ) → Contains l.ids.items doc ↔ SomeFirst (HasTerm l.dictionary store) store.documents (map tree_of l.parts) l.i doc
