use Rattle.std.proofs.Common.{List, ◌≡◌, ◌-◌, Some, length, slice_get, ap, sym, ◌∙◌}
use Rattle.bool_query.specs.declared.parser.Open.{Open}
use Rattle.bool_query.proofs.OpenTokens.{last_of, negates_last}
use Rattle.bool_query.proofs.parser.Whole.is_negated.Goals as goal

pub returns-in-Some : goal.returns-in-Some
returns-in-Some c =
    let outer = c.args.self.now.outer.items in
    let read : slice_get outer (length outer - 1) ≡ Some c.in-Some.last.now =
    ap (λ (l : List Open). slice_get l (length l - 1)) (sym c.deref.ensures.value) ∙ sym c.in-Some.ensures.value in
    sym (negates_last (last_of outer c.in-Some.last.now read))
