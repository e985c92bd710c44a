use Rattle.std.proofs.Common.{List, [], ◌∷◌, ◌++◌, ap, ◌∙◌}
use Rattle.bool_query.specs.Token.{term}
use Rattle.bool_query.specs.Tree.{Tree, of_term}
use Rattle.bool_query.specs.View.{tree_step, trees_step}
use Rattle.bool_query.specs.declared.query.Query.TheOpen.{Term}
use Rattle.bool_query.specs.declared.query.Query.TheFolds.{fold-roll-Query}
use Rattle.bool_query.proofs.Steps.{waits_term}
use Rattle.bool_query.proofs.OpenTokens.{same_operand, if_ok}
use Rattle.bool_query.proofs.parser.Waiting.operand.Goals as goal

pub returns-clause-ok : goal.returns-clause-ok
unfolding Rattle.bool_query.specs.declared.query.Query.TheViews.roll-Query denote.Hole.Carrier.roll
returns-clause-ok c = if_ok c.settled.result c.settled.ensures.ok (λ whole next at tokens waits.
    next (tokens ++ term c.args.word.now at ∷ []) (same_operand (fold-roll-Query Tree (List Tree) tree_step trees_step (Term c.of-word.result) ∙ ap of_term (c.of-word.ensures.same ∙ c.in_ok-from_str.ensures.ok)) (waits_term waits c.args.word.now at)))
