use Rattle.std.proofs.Common.{◌≡◌, ℕ, List, ◌++◌, ◌∷◌, [], map, take, get_or, slice_index, sym, ap, ◌∙◌}
use Rattle.std.proofs.lemmas.List.{map_more}
use Rattle.std.proofs.lemmas.Option.{get_or_from_slice_get}
use Rattle.live_index.proofs.answer.originals_of.Goals as goal

pub loop-id-preserved : goal.loop-id-preserved
loop-id-preserved c =
    let order = c.args.numbering.now in let ids = c.args.ids.now in let place = c.loop-id.id-index in
    let here : slice_index order (get_or ids place 0) ≡ c.old_of.result =
    get_or_from_slice_get order (get_or ids place 0) _ 0 c.old_of.ensures.same in
    c.in_ok-push.ensures.items
    ∙ (ap (λ (os : List ℕ). os ++ c.old_of.result ∷ []) c.loop-id.invariant
    ∙ (ap (λ (o : ℕ). map (slice_index order) (take place ids) ++ o ∷ []) (sym here)
    ∙ sym (map_more (slice_index order) ids place 0 c.loop-id-test.true)))
