-- What trees mean, part by part.
use Rattle.std.proofs.Common.{◌≡◌, ◌↔◌, ◌⊎◌, inl, inr, ℕ, zero, suc, ◌+◌, ◌<◌, ◌≤◌, List, [], ◌∷◌, length, get_or, All, Contains, Option, Some, None, Vec, Global, refl, sym, ap, subst, ◌∙◌, arith}
use Rattle.std.proofs.lemmas.List.{get_or_default}
use Rattle.std.proofs.lemmas.List.Elements.{All-contains, Contains-get_or}
use Rattle.postings_rewrite.specs.Stores.{StoredLists, AreDocuments, IsStore, list_at}
use Rattle.bool_query.specs.Tree.{Tree, Trees, no_trees, tree, of_term, conjunction, disjunction, negation, row}
use Rattle.bool_query.specs.Meaning.{IsMeant, IsInEvery, IsInSome}
use Rattle.bool_query.specs.Answers.{AreExactly, HasTerm}
use Rattle.bool_query.specs.Scopes.{InScope, IsScope}
use Rattle.bool_query.proofs.Exactly.{read, rises}
use Rattle.bool_query.proofs.Terms.{within}

-- ---- what is meant is a document

abbrev pub IsBelow : (List ℕ → ℕ → Type 0) → ℕ → Type 0
IsBelow posted n = (term : List ℕ) (doc : ℕ) → posted term doc → doc < n

mutual
  pub meant_below : (posted : List ℕ → ℕ → Type 0) (n : ℕ) → IsBelow posted n → (t : Tree) (doc : ℕ) → IsMeant posted n t doc → doc < n
  meant_below posted n low (of_term term) doc h = low term doc h
  meant_below posted n low (conjunction parts) doc h = every_below posted n low parts doc h
  meant_below posted n low (disjunction parts) doc h = some_below posted n low parts doc h
  meant_below posted n low (negation part) doc h = h.0

  every_below : (posted : List ℕ → ℕ → Type 0) (n : ℕ) → IsBelow posted n → (ts : Trees) (doc : ℕ) → IsInEvery posted n ts doc → doc < n
  every_below posted n low no_trees doc h = h
  every_below posted n low (tree t ts) doc h = meant_below posted n low t doc h.0

  some_below : (posted : List ℕ → ℕ → Type 0) (n : ℕ) → IsBelow posted n → (ts : Trees) (doc : ℕ) → IsInSome posted n ts doc → doc < n
  some_below posted n low no_trees doc h = absurd h
  some_below posted n low (tree t ts) doc (inl h) = meant_below posted n low t doc h
  some_below posted n low (tree t ts) doc (inr h) = some_below posted n low ts doc h

-- ---- rows of trees, by place

abbrev pub nothing : Tree
nothing = disjunction no_trees

pub every_from : (posted : List ℕ → ℕ → Type 0) (n : ℕ) (ts : List Tree) (doc : ℕ) → doc < n → ((k : ℕ) → k < length ts → IsMeant posted n (get_or ts k nothing) doc) → IsInEvery posted n (row ts) doc
every_from posted n [] doc low each = low
every_from posted n (t ∷ ts) doc low each = (each 0 (omega arith), every_from posted n ts doc low (λ k inside. each (suc k) (omega arith)))

pub every_to : (posted : List ℕ → ℕ → Type 0) (n : ℕ) (ts : List Tree) (doc : ℕ) → IsInEvery posted n (row ts) doc → (k : ℕ) → k < length ts → IsMeant posted n (get_or ts k nothing) doc
every_to posted n [] doc h k inside = absurd (omega arith)
every_to posted n (t ∷ ts) doc h zero inside = h.0
every_to posted n (t ∷ ts) doc h (suc k) inside = every_to posted n ts doc h.1 k (omega arith)

pub some_from : (posted : List ℕ → ℕ → Type 0) (n : ℕ) (ts : List Tree) (doc k : ℕ) → k < length ts → IsMeant posted n (get_or ts k nothing) doc → IsInSome posted n (row ts) doc
some_from posted n [] doc k inside h = absurd (omega arith)
some_from posted n (t ∷ ts) doc zero inside h = inl h
some_from posted n (t ∷ ts) doc (suc k) inside h = inr (some_from posted n ts doc k (omega arith) h)

-- a part of the first so many means the document
abbrev pub SomeFirst : (List ℕ → ℕ → Type 0) → ℕ → List Tree → ℕ → ℕ → Type 0
SomeFirst posted n ts i doc = (k : ℕ) × (k < i) × IsMeant posted n (get_or ts k nothing) doc

pub some_to : (posted : List ℕ → ℕ → Type 0) (n : ℕ) (ts : List Tree) (doc : ℕ) → IsInSome posted n (row ts) doc → SomeFirst posted n ts (length ts) doc
some_to posted n [] doc h = absurd h
some_to posted n (t ∷ ts) doc (inl h) = (0, omega arith, h)
some_to posted n (t ∷ ts) doc (inr h) = let rest = some_to posted n ts doc h in (suc rest.0, omega (arith, rest.1), rest.2)

-- ---- stores and scopes

pub terms_below : (terms : List (List ℕ)) (store : StoredLists) → IsStore store → length terms ≤ length store.lists → IsBelow (HasTerm terms store) store.documents
terms_below terms store sound few term doc has =
    let inside : has.list < length store.lists = omega (arith, within terms has.list term has.named) in
    All-contains (λ d. d < store.documents) (list_at store has.list) doc (sound has.list [] inside).below has.listed

pub exactly_below : (P : ℕ → Type 0) (ids : List ℕ) (n : ℕ) → ((doc : ℕ) → P doc → doc < n) → AreExactly P ids → AreDocuments n ids
exactly_below P ids n low is = record {
  rising = is.rising;
  below = λ k d inside. low (get_or ids k d) ((is.each (get_or ids k d)).0 (Contains-get_or ids k d inside));
}

pub scope_below : (n : ℕ) (scope : Option (Vec ℕ Global)) (doc : ℕ) → IsScope n scope → InScope n scope doc → doc < n
scope_below n (Some ids) doc is here = All-contains (λ d. d < n) ids.items doc is.below here
scope_below n None doc is here = here
