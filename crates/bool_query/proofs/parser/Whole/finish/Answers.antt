use Rattle.std.proofs.Common.{List, ◌≡◌, ◌-◌, Some, None, length, slice_get, ap, sym, subst, ◌∙◌}
use Rattle.bool_query.specs.Fault.{IsQueryOf, IsAnswer}
use Rattle.bool_query.specs.declared.parser.Open.{Open}
use Rattle.bool_query.proofs.OpenTokens.{last_of, none_of, open_paren_left, holds_query, holds_alone, if_ok}
use Rattle.bool_query.proofs.parser.Whole.finish.Goals as goal

pub returns-in-None-clause-ok : goal.returns-in-None-clause-ok
returns-in-None-clause-ok c =
    let outer = c.args.self.outer.items in
    let read : slice_get outer (length outer - 1) ≡ None =
    ap (λ (l : List Open). slice_get l (length l - 1)) (sym c.deref.ensures.value) ∙ sym c.in-None.ensures.value in
    if_ok c.whole.result c.whole.ensures.ok (λ query means text tokens are whole.
    subst (IsQueryOf text) (sym means) (holds_query (holds_alone (none_of outer read) whole.holds) are))

pub returns-in-Some-clause-fault : goal.returns-in-Some-clause-fault
returns-in-Some-clause-fault c = λ end text tokens ends are whole.
    let outer = c.args.self.outer.items in
    let read : slice_get outer (length outer - 1) ≡ Some c.in-Some.last.now =
    ap (λ (l : List Open). slice_get l (length l - 1)) (sym c.deref.ensures.value) ∙ sym c.in-Some.ensures.value in
    let last = last_of outer c.in-Some.last.now read in
    subst (IsAnswer text) (sym c.fault.ensures) (open_paren_left last whole are)
