use Rattle.std.proofs.Common.{ℕ, Vec, Global, Option, IfOk, sym, subst}
use Rattle.bool_query.specs.Answers.{AreExactly}
use Rattle.bool_query.specs.Scopes.{InScope}
use Rattle.bool_query.proofs.evaluation.whole.Goals as goal

pub returns-in-None : goal.returns-in-None
returns-in-None c =
    subst (λ (s : Option (Vec ℕ Global)). IfOk c.all_documents.result (λ ids. AreExactly (InScope c.args.documents s) ids.items)) (sym c.in-None.is) c.all_documents.ensures
