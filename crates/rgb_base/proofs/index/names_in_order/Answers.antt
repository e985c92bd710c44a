use Rattle.std.proofs.Common.{◌≡◌, ℕ, ◌<◌, List, [], ◌∷◌, ◌++◌, length, get_or, take, map, sym, ap, ◌∙◌, arith}
use Rattle.rgb_base.proofs.index.names_in_order.Goals as goal
use Rattle.std.proofs.lemmas.List.{map_more}
use Rattle.std.proofs.lemmas.Option.{slice_get_within, get_or_from_slice_get}

-- the number that the loop reads is one of the order
old_here : (c : goal.After-moved-in-loop-new-1) → get_or c.args.order.now c.loop-new.new 0 ≡ c.old_of-old.result
old_here c = get_or_from_slice_get c.args.order.now c.loop-new.new _ 0 c.old_of-old.ensures.same

within : (c : goal.After-moved-in-loop-new-1) → c.loop-new.new < length c.args.order.now
within c = slice_get_within c.args.order.now c.loop-new.new _ c.old_of-old.ensures.same

pub at-requires : goal.at-requires
at-requires c = omega (arith, c.is_sound.ensures.sound.numbers.below c.loop-new.new 0 (within c), old_here c, c.requires)

pub loop-new-preserved : goal.loop-new-preserved
loop-new-preserved c =
    let f : ℕ → List ℕ = λ old. get_or c.args.names.now old [] in
    let order = c.args.order.now in
    let new = c.loop-new.new in
    let lt = slice_get_within order new _ c.old_of-old.ensures.same in
    let here : c.at.result.now ≡ f (get_or order new 0) = sym (get_or_from_slice_get c.args.names.now c.old_of-old.result _ [] c.at.ensures.same) ∙ ap f (sym (get_or_from_slice_get order new _ 0 c.old_of-old.ensures.same)) in
    c.in_ok-push.ensures.ok ∙ ap (λ (ms : List (List ℕ)). ms ++ c.at.result.now ∷ []) c.loop-new.invariant ∙ ap (λ (t : List ℕ). map f (take new order) ++ t ∷ []) here ∙ sym (map_more f order new 0 lt)
