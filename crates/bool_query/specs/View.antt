-- What contracts see of the queries of the code.
use Rattle.std.specs.Prelude.{List, map}
use Rattle.bool_query.specs.Tree.{Tree, of_term, conjunction, disjunction, negation, row}
use Rattle.bool_query.specs.declared.query.Query.{Query}
use Rattle.bool_query.specs.declared.query.Query.TheOpen.{Query-F, Parts-F, Term, All, Any, Not}
use Rattle.bool_query.specs.declared.query.Query.TheFolds.{fold-Query, fold-Parts}
use Rattle.bool_query.specs.declared.query.Parts.{Parts, out-Parts}

-- a query, with the trees of its parts in their place
abbrev pub tree_step : Query-F Tree (List Tree) → Tree
tree_step (Term term) = of_term term
tree_step (All parts) = conjunction (row parts)
tree_step (Any parts) = disjunction (row parts)
tree_step (Not part) = negation part.value

abbrev pub trees_step : Parts-F Tree (List Tree) → List Tree
trees_step parts = parts.value.items

-- a query as a tree
abbrev pub tree_of : Query → Tree
tree_of = fold-Query Tree (List Tree) tree_step trees_step

-- parts as the list of their trees
abbrev pub trees_of : Parts → List Tree
trees_of = fold-Parts Tree (List Tree) tree_step trees_step

-- parts as the list of them
abbrev pub queries_of : Parts → List Query
queries_of parts = (out-Parts parts).value.items

-- queries as the list of their trees
abbrev pub trees : List Query → List Tree
trees queries = map tree_of queries
