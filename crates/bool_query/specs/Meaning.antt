-- What a query means: a set of documents.
use Rattle.std.specs.Prelude.{ℕ, ◌<◌, List, ◌⊎◌}
use Rattle.bool_query.specs.Tree.{Tree, of_term, conjunction, disjunction, negation, Trees, no_trees, tree}

-- The document is among those that the query means, out of so many documents, where `posted` says which
-- documents have a term. A term that no document has is no fault.
abbrev mutual
  pub IsMeant : (List ℕ → ℕ → Type 0) → ℕ → Tree → ℕ → Type 0
  IsMeant posted documents (of_term term) doc = posted term doc
  IsMeant posted documents (conjunction parts) doc = IsInEvery posted documents parts doc
  IsMeant posted documents (disjunction parts) doc = IsInSome posted documents parts doc
  IsMeant posted documents (negation part) doc =
      (doc < documents) × (¬ IsMeant posted documents part doc)

  pub IsInEvery : (List ℕ → ℕ → Type 0) → ℕ → Trees → ℕ → Type 0
  IsInEvery posted documents no_trees doc = doc < documents
  IsInEvery posted documents (tree part parts) doc =
      IsMeant posted documents part doc × IsInEvery posted documents parts doc

  pub IsInSome : (List ℕ → ℕ → Type 0) → ℕ → Trees → ℕ → Type 0
  IsInSome posted documents no_trees doc = ⊥
  IsInSome posted documents (tree part parts) doc =
      IsMeant posted documents part doc ⊎ IsInSome posted documents parts doc
