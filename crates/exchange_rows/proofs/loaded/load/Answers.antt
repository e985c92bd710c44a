use Rattle.std.proofs.Common.{◌≡◌, ◌-◌, ◌/◌, ℕ, List, ◌++◌, length, take, sym, subst, ap, ◌∙◌}
use Rattle.std.proofs.lemmas.List.{take-append-drop}
use Rattle.rgb_base.specs.Order.{AreNumbers}
use Rattle.exchange_rows.proofs.loaded.load.Goals as goal

pub load-requires-clause-places : goal.load-requires-clause-places
load-requires-clause-places c =
    let docs = c.args.docs.now in
    let middle = length docs - length docs / 2 in
    let a = c.split_at.result.0.now in
    let b = c.split_at.result.1.now in
    let both : a ++ b ≡ docs =
    ap (λ (us : List ℕ). us ++ b) c.split_at.ensures.front ∙ ap (λ (vs : List ℕ). take middle docs ++ vs) c.split_at.ensures.back ∙ take-append-drop middle docs in
    subst (AreNumbers (length c.args.forward.now.rows)) (sym both) c.requires.numbers
