-- The trees of queries, one equation for each variant.
use Rattle.std.proofs.Common.{◌≡◌, ℕ, List, map, Box, Global, sym, ap, ◌∙◌}
use Rattle.bool_query.specs.Tree.{Tree, of_term, conjunction, disjunction, negation, row}
use Rattle.bool_query.specs.View.{tree_step, trees_step, tree_of, trees_of, queries_of}
use Rattle.bool_query.specs.declared.query.Parts.{Parts}
use Rattle.bool_query.specs.declared.query.Query.{Query}
use Rattle.bool_query.specs.declared.query.Query.TheOpen as layer
use Rattle.bool_query.specs.declared.query.Query.TheFolds.{fold-roll-Query, fold_out-Parts}
use Rattle.bool_query.specs.declared.query.Query.TheVariants.{Term, All, Any, Not, rolls-Term, rolls-All, rolls-Any, rolls-Not}

pub trees_are : (parts : Parts) → trees_of parts ≡ map tree_of (queries_of parts)
trees_are parts = fold_out-Parts Tree (List Tree) tree_step trees_step parts

pub tree_Term : (term : List ℕ) → tree_of (Term term) ≡ of_term term
tree_Term term = ap tree_of (sym (rolls-Term term)) ∙ fold-roll-Query Tree (List Tree) tree_step trees_step (layer.Term term)

pub tree_All : (parts : Parts) → tree_of (All parts) ≡ conjunction (row (map tree_of (queries_of parts)))
tree_All parts = ap tree_of (sym (rolls-All parts)) ∙ fold-roll-Query Tree (List Tree) tree_step trees_step (layer.All parts) ∙ ap (λ (ts : List Tree). conjunction (row ts)) (trees_are parts)

pub tree_Any : (parts : Parts) → tree_of (Any parts) ≡ disjunction (row (map tree_of (queries_of parts)))
tree_Any parts = ap tree_of (sym (rolls-Any parts)) ∙ fold-roll-Query Tree (List Tree) tree_step trees_step (layer.Any parts) ∙ ap (λ (ts : List Tree). disjunction (row ts)) (trees_are parts)

pub tree_Not : (part : Box Query Global) → tree_of (Not part) ≡ negation (tree_of part.value)
tree_Not part = ap tree_of (sym (rolls-Not part)) ∙ fold-roll-Query Tree (List Tree) tree_step trees_step (layer.Not part)
