use Rattle.std.proofs.Common.{List, [], ◌∷◌, ◌++◌, ◌≡◌, length, ap, sym, subst, ◌∙◌}
use Rattle.bool_query.specs.Tree.{Tree}
use Rattle.bool_query.specs.State.{Waits}
use Rattle.bool_query.specs.View.{trees}
use Rattle.bool_query.specs.Parser.{opener, frames, IsRefused}
use Rattle.bool_query.specs.declared.parser.Open.{Open}
use Rattle.bool_query.proofs.OpenTokens.{opened, too_deep}
use Rattle.bool_query.proofs.parser.Waiting.open.Goals as goal

pub returns-then-len-eq64-clause-fault : goal.returns-then-len-eq64-clause-fault
returns-then-len-eq64-clause-fault c = λ tokens waits.
    let full : length c.args.self.outer.items ≡ 64 = sym c.args.self.outer.ok.0 ∙ sym c.len.ensures ∙ c.if-len-eq64.true in
    subst (IsRefused tokens (opener c.args.negates c.args.at)) (sym c.fault.ensures)
    (too_deep c.args.self.outer.items waits c.args.negates c.args.at full)

pub returns-clause-ok : goal.returns-clause-ok
returns-clause-ok c = λ tokens waits.
    let alls : trees c.new.result.alls.items ≡ [] = ap trees c.new.ensures.alls in
    let nots : trees c.new.result.nots.items ≡ [] = ap trees c.new.ensures.nots in
    let last : Open = record { negates = c.args.negates; at = c.args.at; level = c.args.self.level } in
    let next = opened c.args.self.outer.items last waits (λ e. c.if-len-eq64.false (c.len.ensures ∙ c.args.self.outer.ok.0 ∙ e)) in
    subst (λ (l : List Open). Waits (tokens ++ opener c.args.negates c.args.at ∷ []) (frames l) (trees c.new.result.alls.items) (trees c.new.result.nots.items)) (sym c.in_ok-push.ensures.items)
    (subst (λ (l : List Tree). Waits (tokens ++ opener c.args.negates c.args.at ∷ []) (frames (c.args.self.outer.items ++ last ∷ [])) l (trees c.new.result.nots.items)) (sym alls)
    (subst (λ (l : List Tree). Waits (tokens ++ opener c.args.negates c.args.at ∷ []) (frames (c.args.self.outer.items ++ last ∷ [])) [] l) (sym nots) next))
