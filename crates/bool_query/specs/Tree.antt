-- A query apart from where it lies in memory.
use Rattle.std.specs.Prelude.{ℕ, List, [], ◌∷◌}

mutual
  pub data Tree : Type 0 where
    -- what has the term
    of_term : List ℕ → Tree
    -- what meets every part
    conjunction : Trees → Tree
    -- what meets some part
    disjunction : Trees → Tree
    -- what doesn't meet the part
    negation : Tree → Tree

  pub data Trees : Type 0 where
    no_trees : Trees
    tree : Tree → Trees → Trees

-- a list of trees as the parts of one
abbrev pub row : List Tree → Trees
row [] = no_trees
row (t ∷ ts) = tree t (row ts)

-- operands joined by `AND`: one of them means itself
abbrev pub conjoined : List Tree → Tree
conjoined [] = conjunction no_trees
conjoined (t ∷ []) = t
conjoined (t ∷ u ∷ ts) = conjunction (row (t ∷ u ∷ ts))

-- operands joined by `OR`: one of them means itself
abbrev pub disjoined : List Tree → Tree
disjoined [] = disjunction no_trees
disjoined (t ∷ []) = t
disjoined (t ∷ u ∷ ts) = disjunction (row (t ∷ u ∷ ts))
