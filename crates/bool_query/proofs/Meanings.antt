-- What a tree means goes by which documents have which terms, and no further.
use Rattle.std.proofs.Common.{◌↔◌, ◌⊎◌, inl, inr, ℕ, ◌<◌, List}
use Rattle.bool_query.specs.Tree.{Tree, Trees, of_term, conjunction, disjunction, negation, no_trees, tree}
use Rattle.bool_query.specs.Meaning.{IsMeant, IsInEvery, IsInSome}

-- ---- what is meant is a document

mutual
  pub meant_below : (P : List ℕ → ℕ → Type 0) (n : ℕ) (t : Tree) (doc : ℕ) → ((term : List ℕ) → P term doc → doc < n) → IsMeant P n t doc → doc < n
  meant_below P n (of_term term) doc low meant = low term meant
  meant_below P n (conjunction ts) doc low meant = every_below P n ts doc low meant
  meant_below P n (disjunction ts) doc low meant = some_below P n ts doc low meant
  meant_below P n (negation t) doc low meant = meant.0

  every_below : (P : List ℕ → ℕ → Type 0) (n : ℕ) (ts : Trees) (doc : ℕ) → ((term : List ℕ) → P term doc → doc < n) → IsInEvery P n ts doc → doc < n
  every_below P n no_trees doc low all = all
  every_below P n (tree t ts) doc low all = every_below P n ts doc low all.1

  some_below : (P : List ℕ → ℕ → Type 0) (n : ℕ) (ts : Trees) (doc : ℕ) → ((term : List ℕ) → P term doc → doc < n) → IsInSome P n ts doc → doc < n
  some_below P n no_trees doc low any = absurd any
  some_below P n (tree t ts) doc low (inl any) = meant_below P n t doc low any
  some_below P n (tree t ts) doc low (inr any) = some_below P n ts doc low any

-- ---- a document that has the same terms is meant where the other is

mutual
  pub meant_same : (P Q : List ℕ → ℕ → Type 0) (n m : ℕ) (t : Tree) (a b : ℕ) → ((term : List ℕ) → P term a ↔ Q term b) → (a < n) ↔ (b < m) → IsMeant P n t a ↔ IsMeant Q m t b
  meant_same P Q n m (of_term term) a b same low = same term
  meant_same P Q n m (conjunction ts) a b same low = every_same P Q n m ts a b same low
  meant_same P Q n m (disjunction ts) a b same low = some_same P Q n m ts a b same low
  meant_same P Q n m (negation t) a b same low =
      let part = meant_same P Q n m t a b same low in
      (λ meant. (low.0 meant.0, λ other. meant.1 (part.1 other)), λ meant. (low.1 meant.0, λ other. meant.1 (part.0 other)))

  every_same : (P Q : List ℕ → ℕ → Type 0) (n m : ℕ) (ts : Trees) (a b : ℕ) → ((term : List ℕ) → P term a ↔ Q term b) → (a < n) ↔ (b < m) → IsInEvery P n ts a ↔ IsInEvery Q m ts b
  every_same P Q n m no_trees a b same low = low
  every_same P Q n m (tree t ts) a b same low =
      let part = meant_same P Q n m t a b same low in
      let rest = every_same P Q n m ts a b same low in
      (λ all. (part.0 all.0, rest.0 all.1), λ all. (part.1 all.0, rest.1 all.1))

  some_same : (P Q : List ℕ → ℕ → Type 0) (n m : ℕ) (ts : Trees) (a b : ℕ) → ((term : List ℕ) → P term a ↔ Q term b) → (a < n) ↔ (b < m) → IsInSome P n ts a ↔ IsInSome Q m ts b
  some_same P Q n m no_trees a b same low = (λ any. any, λ any. any)
  some_same P Q n m (tree t ts) a b same low =
      let part = meant_same P Q n m t a b same low in
      let rest = some_same P Q n m ts a b same low in (
        λ any. elim any as (λ w. IsMeant Q m t b ⊎ IsInSome Q m ts b) [ inl x ↦ inl (part.0 x) | inr x ↦ inr (rest.0 x) ],
        λ any. elim any as (λ w. IsMeant P n t a ⊎ IsInSome P n ts a) [ inl x ↦ inl (part.1 x) | inr x ↦ inr (rest.1 x) ],
      )
