use Rattle.std.proofs.Common.{ℕ, ◌<◌, List, [], ◌∷◌, ◌++◌, length, take, sym, ap, ◌∙◌, arith}
use Rattle.std.proofs.lemmas.List.{take_more}
use Rattle.std.proofs.lemmas.Option.{get_or_from_slice_get}
use Rattle.bisection.proofs.bisector.documents_of.Goals as goal

pub loop-place-preserved : goal.loop-place-preserved
loop-place-preserved c =
    let documents = c.args.forward.now.documents in
    let place = c.loop-place.place in
    let within : place < length documents = omega (arith, c.loop-place-test.true, c.docs-place-end.ensures.same, c.is_sound.ensures.sound.len) in
    let read = get_or_from_slice_get documents place c.document_at.result 0 c.document_at.ensures.same in
    c.in_ok-push.ensures.items ∙ ap (λ (xs : List ℕ). xs ++ c.document_at.result ∷ []) c.loop-place.invariant ∙ ap (λ (n : ℕ). take place documents ++ n ∷ []) (sym read) ∙ sym (take_more documents place 0 within)
