use Rattle.std.proofs.Common.{ℕ, ℤ, pos, List, [], ◌∷◌, ◌++◌, get_or, map, sym, ap, ◌∙◌, arith}
use Rattle.std.proofs.lemmas.List.{map_more, take_all}
use Rattle.std.proofs.lemmas.Option.{slice_get_within, get_or_from_slice_get}
use Rattle.std.proofs.Common.{rules}
use Rattle.std.specs.Prelude.{FitsSigned}
use Rattle.std.specs.Int.{w32}
use Rattle.std.proofs.lemmas.Int.{to_z-of_z}
use Rattle.rgb_base.proofs.index.sizes_in_order.Goals as goal

pub bounds-sizes-old : goal.bounds-sizes-old
bounds-sizes-old c =
    let order = c.args.order.now in
    let new = c.loop-new.new in
    let lt = slice_get_within order new _ c.old_of-old.ensures.same in
    let old_here = get_or_from_slice_get order new _ 0 c.old_of-old.ensures.same in
    omega (arith, c.is_sound.ensures.sound.numbers.below new 0 lt, old_here, c.requires)

pub loop-new-preserved : goal.loop-new-preserved
loop-new-preserved c =
    let f : ℕ → ℤ = λ old. get_or c.args.sizes.now old (pos 0) in
    let order = c.args.order.now in
    let new = c.loop-new.new in
    let lt = slice_get_within order new _ c.old_of-old.ensures.same in
    let old_here = get_or_from_slice_get order new _ 0 c.old_of-old.ensures.same in
    let fits : FitsSigned w32 (f c.old_of-old.result) = search rules in
    c.in_ok-push.ensures.items ∙ ap (λ (z : ℤ). c.loop-new.moved.items ++ z ∷ []) (to_z-of_z w32 (f c.old_of-old.result) fits ∙ ap f (sym old_here))
    ∙ ap (λ (ms : List ℤ). ms ++ f (get_or order new 0) ∷ []) c.loop-new.invariant ∙ sym (map_more f order new 0 lt)

pub returns : goal.returns
returns c =
    let f : ℕ → ℤ = λ old. get_or c.args.sizes.now old (pos 0) in
    c.loop-new.invariant ∙ ap (map f) (take_all c.loop-new.new c.args.order.now (omega (arith, c.len-new-end.ensures.same)))
