use Rattle.std.proofs.Common.{List, [], ◌∷◌, ◌++◌, ◌≡◌, true, false, ap, sym, subst, ◌∙◌}
use Rattle.bool_query.specs.Tree.{Tree, negation}
use Rattle.bool_query.specs.State.{Holds, last_negates}
use Rattle.bool_query.specs.View.{tree_step, trees_step, tree_of, trees}
use Rattle.bool_query.specs.Parser.{frames}
use Rattle.bool_query.specs.declared.query.Query.TheOpen.{Not}
use Rattle.bool_query.specs.declared.query.Query.TheFolds.{fold-roll-Query}
use Rattle.bool_query.specs.declared.parser.Open.{Open}
use Rattle.bool_query.proofs.OpenTokens.{negates_more, holds_negated, same_operand}
use Rattle.bool_query.proofs.parser.Whole.negated.Goals as goal

pub returns-in_ok-new-in-Some-clause-ok : goal.returns-in_ok-new-in-Some-clause-ok
unfolding Rattle.bool_query.specs.declared.query.Query.TheViews.roll-Query denote.Hole.Carrier.roll
returns-in_ok-new-in-Some-clause-ok c = λ tokens holds.
    let whole = c.args.self in
    let outer = c.pop.new.self.items in
    let last = c.in-Some.last in
    let spelt : whole.outer.items ≡ outer ++ last ∷ [] = c.in-Some.ensures.items in
    let moved = subst (λ (l : List Open). Holds tokens (frames l) (trees whole.level.alls.items) (trees whole.level.nots.items) (tree_of whole.operand)) spelt holds in
    let negates : last.negates ≡ true = sym (negates_more outer last) ∙ ap (λ (l : List Open). last_negates false (frames l)) (sym spelt) ∙ c.requires.waits in
    let tree = fold-roll-Query Tree (List Tree) tree_step trees_step (Not c.in_ok-new-in-Some.field-0) in
    same_operand (tree ∙ ap (λ q. negation (tree_of q)) c.in_ok-new-in-Some.ensures.ok)
    (holds_negated outer last moved negates)
