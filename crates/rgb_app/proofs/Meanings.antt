-- Whether a document is among those that a query means over an index is decided.
use Rattle.std.proofs.Common.{◌≡◌, ◌⊎◌, ℕ, zero, suc, ◌<◌, Bool, true, false, List, [], ◌∷◌, length, map, slice_get, Some, Contains, bytes_eq, eqb, refl, sym, ap, subst, ◌∙◌, inl, inr, arith, eqb-true, eq-eqb}
use Rattle.std.proofs.lemmas.Option.{same_Some, none-some}
use Rattle.std.proofs.lemmas.Slice.Eq.{bytes_eq-Decides}
use Rattle.rgb_base.specs.declared.parts.TermList.{TermList}
use Rattle.rgb_base.specs.Parts.{IndexParts}
use Rattle.bool_query.specs.Tree.{Tree, of_term, conjunction, disjunction, negation, Trees, no_trees, tree}
use Rattle.bool_query.specs.Meaning.{IsMeant, IsInEvery, IsInSome}
use Rattle.bool_query.specs.Answers.{HasPosting, IsMeantInIndex}

-- a fact, or its contrary
abbrev pub Known : Type 0 → Type 0
Known P = P ⊎ (¬ P)

no_less : false ≡ true → ⊥
no_less e = absurd (cc)

-- ---- members of a list

abbrev pub In : ℕ → List ℕ → Type 0
In x [] = ⊥
In x (y ∷ ys) = (y ≡ x) ⊎ In x ys

pub in_of : (xs : List ℕ) (x : ℕ) → Contains xs x → In x xs
in_of [] x (k, lt, is) = absurd (omega (arith, lt))
in_of (y ∷ ys) x (zero, lt, is) = inl is
in_of (y ∷ ys) x (suc k, lt, is) = inr (in_of ys x (k, omega (arith, lt), is))

pub contains_of : (xs : List ℕ) (x : ℕ) → In x xs → Contains xs x
contains_of [] x bad = absurd bad
contains_of (y ∷ ys) x (inl is) = (0, omega arith, is)
contains_of (y ∷ ys) x (inr later) = let c = contains_of ys x later in (suc c.0, omega (arith, c.1), c.2)

in_known : (x : ℕ) (xs : List ℕ) → Known (In x xs)
in_known x [] = inr (λ bad. bad)
in_known x (y ∷ ys) = by_test (eqb y x) refl (in_known x ys)
  where
    by_test : (test : Bool) → eqb y x ≡ test → Known (In x ys) → Known (In x (y ∷ ys))
    by_test true is rest = inl (inl (eqb-true y x is))
    by_test false is (inl later) = inl (inr later)
    by_test false is (inr never) = inr (λ i. first_or_later i)
      where
        first_or_later : (y ≡ x) ⊎ In x ys → ⊥
        first_or_later (inl same) = no_less (sym is ∙ eq-eqb y x same)
        first_or_later (inr later) = never later

-- ---- what an index has posted

abbrev docs_of : TermList → List ℕ
docs_of list = map (λ posting. posting.doc) list.postings

-- one of the lists has the term and a posting of the document
Posted : List TermList → List ℕ → ℕ → Type 0
Posted [] term doc = ⊥
Posted (list ∷ lists) term doc = ((list.term ≡ term) × In doc (docs_of list)) ⊎ Posted lists term doc

posted_at : (lists : List TermList) (place : ℕ) (list : TermList) (term : List ℕ) (doc : ℕ) → slice_get lists place ≡ Some list → list.term ≡ term → Contains (docs_of list) doc → Posted lists term doc
unfolding Posted
posted_at [] place list term doc is named posted = absurd (none-some list is)
posted_at (l ∷ lists) zero list term doc is named posted =
    let same : l ≡ list = same_Some l list is in
    inl (ap (λ k. k.term) same ∙ named, in_of (docs_of l) doc (subst (λ k. Contains (docs_of k) doc) (sym same) posted))
posted_at (l ∷ lists) (suc place) list term doc is named posted = inr (posted_at lists place list term doc is named posted)

-- the place of the list, beside what it has
record At (lists : List TermList) (term : List ℕ) (doc : ℕ) : Type 0 where
  pub place : ℕ
  pub list : TermList
  pub stands : slice_get lists place ≡ Some list
  pub named : list.term ≡ term
  pub posted : Contains (docs_of list) doc

at_posted : (lists : List TermList) (term : List ℕ) (doc : ℕ) → Posted lists term doc → At lists term doc
unfolding Posted
at_posted [] term doc bad = absurd bad
at_posted (l ∷ lists) term doc (inl here) = record { place = 0; list = l; stands = refl; named = here.0; posted = contains_of (docs_of l) doc here.1 }
at_posted (l ∷ lists) term doc (inr later) =
    let at = at_posted lists term doc later in
    record { place = suc at.place; list = at.list; stands = at.stands; named = at.named; posted = at.posted }

posted_known : (lists : List TermList) (term : List ℕ) (doc : ℕ) → Known (Posted lists term doc)
unfolding Posted
posted_known [] term doc = inr (λ bad. bad)
posted_known (l ∷ lists) term doc = by_test (bytes_eq l.term term) refl (in_known doc (docs_of l)) (posted_known lists term doc)
  where
    neither : (¬ ((l.term ≡ term) × In doc (docs_of l))) → (¬ Posted lists term doc) → ((l.term ≡ term) × In doc (docs_of l)) ⊎ Posted lists term doc → ⊥
    neither here later (inl p) = here p
    neither here later (inr p) = later p

    by_test : (test : Bool) → bytes_eq l.term term ≡ test → Known (In doc (docs_of l)) → Known (Posted lists term doc) → Known (((l.term ≡ term) × In doc (docs_of l)) ⊎ Posted lists term doc)
    by_test test is here (inl later) = inl (inr later)
    by_test true is (inl here) (inr never) = inl (inl ((bytes_eq-Decides l.term term).0 is, here))
    by_test true is (inr not_here) (inr never) = inr (neither (λ p. not_here p.1) never)
    by_test false is here (inr never) = inr (neither (λ p. no_less (sym is ∙ (bytes_eq-Decides l.term term).1 p.0)) never)

has_posting_known : (index : IndexParts) (term : List ℕ) (doc : ℕ) → Known (HasPosting index term doc)
has_posting_known index term doc = by (posted_known index.lists term doc)
  where
    by : Known (Posted index.lists term doc) → Known (HasPosting index term doc)
    by (inl posted) =
        let at = at_posted index.lists term doc posted in
        inl (record { place = at.place; list = at.list; stands = at.stands; named = at.named; posted = at.posted })
    by (inr never) = inr (λ has. never (posted_at index.lists has.place has.list term doc has.stands has.named has.posted))

-- ---- what a query means is decided

less_known : (a b : ℕ) → Known (a < b)
less_known a zero = inr (λ bad. omega (arith, bad))
less_known zero (suc b) = inl (omega arith)
less_known (suc a) (suc b) = by (less_known a b)
  where
    by : Known (a < b) → Known (suc a < suc b)
    by (inl lt) = inl (omega (arith, lt))
    by (inr bad) = inr (λ lt. bad (omega (arith, lt)))

both_known : (P Q : Type 0) → Known P → Known Q → Known (P × Q)
both_known P Q (inl p) (inl q) = inl (p, q)
both_known P Q (inl p) (inr bad) = inr (λ pq. bad pq.1)
both_known P Q (inr bad) q = inr (λ pq. bad pq.0)

one_known : (P Q : Type 0) → Known P → Known Q → Known (P ⊎ Q)
one_known P Q (inl p) q = inl (inl p)
one_known P Q (inr bad) (inl q) = inl (inr q)
one_known P Q (inr bad) (inr none) = inr neither
  where
    neither : P ⊎ Q → ⊥
    neither (inl p) = bad p
    neither (inr q) = none q

not_known : (P : Type 0) → Known P → Known (¬ P)
not_known P (inl p) = inr (λ bad. bad p)
not_known P (inr bad) = inl bad

mutual
  meant_known : (posted : List ℕ → ℕ → Type 0) (documents : ℕ) → ((term : List ℕ) (doc : ℕ) → Known (posted term doc)) → (query : Tree) (doc : ℕ) → Known (IsMeant posted documents query doc)
  meant_known posted documents known (of_term term) doc = known term doc
  meant_known posted documents known (conjunction parts) doc = every_known posted documents known parts doc
  meant_known posted documents known (disjunction parts) doc = some_known posted documents known parts doc
  meant_known posted documents known (negation part) doc =
      both_known (doc < documents) (¬ IsMeant posted documents part doc) (less_known doc documents) (not_known (IsMeant posted documents part doc) (meant_known posted documents known part doc))

  every_known : (posted : List ℕ → ℕ → Type 0) (documents : ℕ) → ((term : List ℕ) (doc : ℕ) → Known (posted term doc)) → (parts : Trees) (doc : ℕ) → Known (IsInEvery posted documents parts doc)
  every_known posted documents known no_trees doc = less_known doc documents
  every_known posted documents known (tree part parts) doc =
      both_known (IsMeant posted documents part doc) (IsInEvery posted documents parts doc) (meant_known posted documents known part doc) (every_known posted documents known parts doc)

  some_known : (posted : List ℕ → ℕ → Type 0) (documents : ℕ) → ((term : List ℕ) (doc : ℕ) → Known (posted term doc)) → (parts : Trees) (doc : ℕ) → Known (IsInSome posted documents parts doc)
  some_known posted documents known no_trees doc = inr (λ bad. bad)
  some_known posted documents known (tree part parts) doc =
      one_known (IsMeant posted documents part doc) (IsInSome posted documents parts doc) (meant_known posted documents known part doc) (some_known posted documents known parts doc)

pub meant_is_known : (index : IndexParts) (query : Tree) (doc : ℕ) → Known (IsMeantInIndex index query doc)
meant_is_known index query doc = meant_known (HasPosting index) (length index.documents) (has_posting_known index) query doc
