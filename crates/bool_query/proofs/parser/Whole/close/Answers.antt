use Rattle.std.proofs.Common.{[], ◌∷◌, ◌++◌, refl, sym, subst, ◌∙◌}
use Rattle.bool_query.specs.Token.{close_paren}
use Rattle.bool_query.specs.Parser.{IsRefused}
use Rattle.bool_query.proofs.OpenTokens.{same_operand, closing, closing_none, no_items, if_ok}
use Rattle.bool_query.proofs.parser.Whole.close.Goals as goal

pub returns-in-None-clause-fault : goal.returns-in-None-clause-fault
returns-in-None-clause-fault c = λ tokens whole.
    subst (IsRefused tokens (close_paren c.args.at)) (sym c.fault.ensures) (refl, closing_none (no_items c.args.self.outer.items (sym c.args.self.outer.ok.0 ∙ c.in-None.ensures.cases.0)) whole c.args.at)

pub returns-in_ok-operand-in-Some-clause-ok : goal.returns-in_ok-operand-in-Some-clause-ok
returns-in_ok-operand-in-Some-clause-ok c = if_ok c.settled.result c.settled.ensures.ok (λ next settles tokens whole.
    settles (tokens ++ close_paren c.args.at ∷ [])
    (same_operand c.in_ok-operand-in-Some.ensures.ok (closing c.pop.new.self.items c.in-Some.last c.in-Some.ensures.items whole c.args.at)))
