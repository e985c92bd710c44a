use Rattle.std.proofs.Common.{ℕ, ◌<◌, List, [], ◌∷◌, ◌++◌, length, take, sym, ap, ◌∙◌, arith}
use Rattle.std.proofs.lemmas.List.{take_more}
use Rattle.std.proofs.lemmas.Option.{get_or_from_slice_get}
use Rattle.forward_index.proofs.build.documents_of.Goals as goal

pub loop-place-preserved : goal.loop-place-preserved
loop-place-preserved c =
    let start = c.args.start.now in
    let place = c.loop-place.place in
    let within : place < length start = omega (arith, c.loop-place-test.true, c.len-place-end.ensures.same) in
    let read = get_or_from_slice_get start place c.old_of.result 0 c.old_of.ensures.same in
    c.in_ok-push.ensures.items ∙ ap (λ (xs : List ℕ). xs ++ c.old_of.result ∷ []) c.loop-place.invariant ∙ ap (λ (n : ℕ). take place start ++ n ∷ []) (sym read) ∙ sym (take_more start place 0 within)
