-- One part more of a conjunction or of a disjunction, and all of them.
use Rattle.std.proofs.Common.{◌≡◌, ◌↔◌, ◌⊎◌, inl, inr, ℕ, ◌+◌, ◌<◌, ◌≤◌, List, ◌++◌, length, get_or, All, Contains, Option, Some, None, Vec, Global, refl, sym, ap, subst, ◌∙◌, arith}
use Rattle.std.proofs.lemmas.Bool.{cases_lt}
use Rattle.std.proofs.lemmas.List.Elements.{Contains-append_cases, Contains-append_left, Contains-append_right}
use Rattle.postings_rewrite.specs.Stores.{AreDocuments}
use Rattle.bool_query.specs.Tree.{Tree, row, negation}
use Rattle.bool_query.specs.Meaning.{IsMeant, IsInEvery, IsInSome}
use Rattle.bool_query.specs.Answers.{AreExactly}
use Rattle.bool_query.specs.Scopes.{InScope, IsScope}
use Rattle.bool_query.proofs.Exactly.{read, exactly_along}
use Rattle.bool_query.proofs.Meant.{IsBelow, meant_below, nothing, every_from, every_to, SomeFirst, some_from, some_to, exactly_below, scope_below}

module _ (posted : List ℕ → ℕ → Type 0) (n : ℕ) where
  abbrev pub EveryFirst : List Tree → List ℕ → ℕ → ℕ → Type 0
  EveryFirst trees places i doc = (j : ℕ) → j < i → IsMeant posted n (get_or trees (get_or places j 0) nothing) doc

  pub every_scope : (left : Option (Vec ℕ Global)) (t : Tree) (ids : List ℕ) → IsScope n left → AreExactly (λ doc. InScope n left doc × IsMeant posted n t doc) ids → AreDocuments n ids
  every_scope left t ids scoped is = exactly_below (λ doc. InScope n left doc × IsMeant posted n t doc) ids n (λ doc h. scope_below n left doc scoped h.0) is

  pub every_more : (scope left : Option (Vec ℕ Global)) (trees : List Tree) (places : List ℕ) (i : ℕ) (t : Tree) (ids : List ℕ) → ((doc : ℕ) → InScope n left doc ↔ (InScope n scope doc × EveryFirst trees places i doc)) → get_or trees (get_or places i 0) nothing ≡ t → AreExactly (λ doc. InScope n left doc × IsMeant posted n t doc) ids
      → (doc : ℕ) → Contains ids doc ↔ (InScope n scope doc × EveryFirst trees places (i + 1) doc)
  every_more scope left trees places i t ids each at is doc = (
    λ stands.
        let h = (is.each doc).0 stands in
        let before = (each doc).0 h.0 in
        let here : IsMeant posted n (get_or trees (get_or places i 0) nothing) doc = subst (λ (u : Tree). IsMeant posted n u doc) (sym at) h.1 in (
          before.0,
          λ j less. elim (cases_lt j i) [
            | inl earlier ↦ before.1 j earlier
            | inr last ↦ let same : j ≡ i = omega arith in subst (λ (k : ℕ). IsMeant posted n (get_or trees (get_or places k 0) nothing) doc) (sym same) here
          ],
        ),
    λ h. (is.each doc).1 ((each doc).1 (h.0, λ j less. h.1 j (omega arith)), subst (λ (u : Tree). IsMeant posted n u doc) at (h.1 i (omega arith))),
  )

  pub every_end : (scope left : Option (Vec ℕ Global)) (trees : List Tree) (places : List ℕ) (i : ℕ) (ids : List ℕ) → IsScope n scope → ((doc : ℕ) → InScope n left doc ↔ (InScope n scope doc × EveryFirst trees places i doc)) → i ≡ length places → All (λ place. place < length trees) places → ((k : ℕ) → k < length trees → Contains places k) → AreExactly (InScope n left) ids
      → AreExactly (λ doc. InScope n scope doc × IsInEvery posted n (row trees) doc) ids
  every_end scope left trees places i ids scoped each all below there is =
      exactly_along (InScope n left) (λ doc. InScope n scope doc × IsInEvery posted n (row trees) doc) ids
      (λ doc. (
        λ here. let h = (each doc).0 here in (
          h.0,
          every_from posted n trees doc (scope_below n scope doc scoped h.0) (λ k inside.
              let at = there k inside in
              subst (λ (m : ℕ). IsMeant posted n (get_or trees m nothing) doc) (read places k at) (h.1 at.0 (omega (arith, at.1)))),
        ),
        λ h. (each doc).1 (h.0, λ j less. every_to posted n trees doc h.1 (get_or places j 0) (below j 0 (omega arith))),
      )) is

  pub some_more : (trees : List Tree) (i : ℕ) (t : Tree) (ids more : List ℕ) → IsBelow posted n → ((doc : ℕ) → Contains ids doc ↔ SomeFirst posted n trees i doc) → get_or trees i nothing ≡ t → AreExactly (λ doc. (doc < n) × IsMeant posted n t doc) more
      → (doc : ℕ) → Contains (ids ++ more) doc ↔ SomeFirst posted n trees (i + 1) doc
  some_more trees i t ids more low each at is doc = (
    λ stands. elim (Contains-append_cases ids more doc stands) [
      | inl earlier ↦ let h = (each doc).0 earlier in (h.0, omega (arith, h.1), h.2)
      | inr last ↦ (i, omega arith, subst (λ (u : Tree). IsMeant posted n u doc) (sym at) ((is.each doc).0 last).1)
    ],
    λ h. elim (cases_lt h.0 i) [
      | inl earlier ↦ Contains-append_left ids more doc ((each doc).1 (h.0, earlier, h.2))
      | inr last ↦
          let same : h.0 ≡ i = omega (arith, h.1) in
          let m : IsMeant posted n t doc = subst (λ (u : Tree). IsMeant posted n u doc) at (subst (λ (k : ℕ). IsMeant posted n (get_or trees k nothing) doc) same h.2) in
          Contains-append_right ids more doc ((is.each doc).1 (meant_below posted n low t doc m, m))
    ],
  )

  pub some_end : (trees : List Tree) (i : ℕ) (ids result : List ℕ) → ((doc : ℕ) → Contains ids doc ↔ SomeFirst posted n trees i doc) → i ≡ length trees → AreExactly (Contains ids) result → AreExactly (IsInSome posted n (row trees)) result
  some_end trees i ids result each all is =
      exactly_along (Contains ids) (IsInSome posted n (row trees)) result
      (λ doc. (
        λ stands. let h = (each doc).0 stands in some_from posted n trees doc h.0 (omega (arith, h.1)) h.2,
        λ s. let h = some_to posted n trees doc s in (each doc).1 (h.0, omega (arith, h.1), h.2),
      )) is

  -- what a negation leaves of a scope
  pub negated : (scope : Option (Vec ℕ Global)) (t : Tree) (ids : List ℕ) → IsScope n scope → AreExactly (λ doc. InScope n scope doc × (¬ IsMeant posted n t doc)) ids → AreExactly (λ doc. InScope n scope doc × IsMeant posted n (negation t) doc) ids
  negated scope t ids scoped is =
      exactly_along (λ doc. InScope n scope doc × (¬ IsMeant posted n t doc)) (λ doc. InScope n scope doc × IsMeant posted n (negation t) doc) ids
      (λ doc. (λ h. (h.0, (scope_below n scope doc scoped h.0, h.1)), λ h. (h.0, h.1.1))) is

  pub beyond : (scope : Option (Vec ℕ Global)) (t : Tree) (ids : List ℕ) → IsScope n scope → AreExactly (λ doc. InScope n scope doc × (¬ ((doc < n) × IsMeant posted n t doc))) ids → AreExactly (λ doc. InScope n scope doc × IsMeant posted n (negation t) doc) ids
  beyond scope t ids scoped is =
      exactly_along (λ doc. InScope n scope doc × (¬ ((doc < n) × IsMeant posted n t doc))) (λ doc. InScope n scope doc × IsMeant posted n (negation t) doc) ids
      (λ doc. (
        λ h. let low = scope_below n scope doc scoped h.0 in (h.0, (low, λ m. h.1 (low, m))),
        λ h. (h.0, λ both. h.1.1 both.1),
      )) is
