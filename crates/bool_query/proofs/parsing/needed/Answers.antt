use Rattle.std.proofs.Common.{[], ◌∷◌, ◌++◌, sym, subst}
use Rattle.bool_query.specs.Scanned.{token_seen}
use Rattle.bool_query.specs.Parser.{IsWhole}
use Rattle.bool_query.proofs.parsing.needed.Goals as goal

pub returns-in_ok-operand-in-Term-clause-ok : goal.returns-in_ok-operand-in-Term-clause-ok
returns-in_ok-operand-in-Term-clause-ok c = λ tokens waits.
    subst (λ t. IsWhole c.in_ok-operand-in-Term.field-0 (tokens ++ token_seen t c.args.at ∷ [])) (sym c.in-Term.is)
    (c.in_ok-operand-in-Term.ensures.ok c.args.at tokens waits)
