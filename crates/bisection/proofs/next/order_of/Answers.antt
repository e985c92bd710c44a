use Rattle.std.proofs.Common.{ℕ, ◌<◌, List, [], ◌∷◌, ◌++◌, length, take, sym, ap, ◌∙◌, arith}
use Rattle.std.proofs.lemmas.List.{take_more}
use Rattle.std.proofs.lemmas.Option.{get_or_from_slice_get}
use Rattle.bisection.proofs.next.order_of.Goals as goal

pub loop-number-preserved : goal.loop-number-preserved
loop-number-preserved c =
    let numbering = c.args.numbering.now in
    let number = c.loop-number.number in
    let within : number < length numbering = omega (arith, c.loop-number-test.true, c.len-number-end.ensures.same) in
    let read = get_or_from_slice_get numbering number c.old_of.result 0 c.old_of.ensures.same in
    c.in_ok-push.ensures.items ∙ ap (λ (xs : List ℕ). xs ++ c.old_of.result ∷ []) c.loop-number.invariant ∙ ap (λ (n : ℕ). take number numbering ++ n ∷ []) (sym read) ∙ sym (take_more numbering number 0 within)
