use Rattle.std.proofs.Common.{ℕ, List, length, ap, subst, ◌∙◌, arith, IfOk}
use Rattle.std.specs.List.{range_with_len}
use Rattle.forward_index.specs.Forward.{IsForwardOf}
use Rattle.forward_index.proofs.Starts.{identity_range}
use Rattle.forward_index.proofs.forward.Forward.build.Goals as goal

pub identity-requires : goal.identity-requires
identity-requires g c = omega (arith, c.is_sound.ensures.sound.counted.documents, c.documents.ensures.same)

pub returns-clause-ok : goal.returns-clause-ok
returns-clause-ok g c =
    let n = length c.args.index.now.documents in
    let range = identity_range c.numbers_undo_the_order.ensures.law c.in_ok-start.start c.documents.result c.in_ok-start.ensures.sound c.in_ok-start.ensures.ok in
    let start = range ∙ ap (range_with_len 0) c.documents.ensures.same in
    subst (λ (order : List ℕ). IfOk c.build_from.result (IsForwardOf c.args.index.now c.args.min_df order)) start c.build_from.ensures.ok
