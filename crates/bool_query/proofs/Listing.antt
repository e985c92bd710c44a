-- Going along a list of a store by its place.
use Rattle.std.proofs.Common.{◌≡◌, ◌↔◌, ◌⊎◌, inl, inr, ℕ, ◌+◌, ◌<◌, ◌≤◌, Bool, true, IsTrue, eqb, List, [], ◌∷◌, ◌++◌, length, get_or, take, Contains, Option, Some, None, slice_get, refl, sym, ap, subst, ◌∙◌, arith}
use Rattle.std.specs.List.Sorted.{IsStrictlyIncreasing}
use Rattle.std.specs.Option.{option_eq}
use Rattle.std.proofs.lemmas.Bool.{cases_lt, false≢true, eqb-true, eq-eqb}
use Rattle.std.proofs.lemmas.List.{take_more}
use Rattle.std.proofs.lemmas.Option.{slice_get-get_or, slice_get_past, get_or_from_slice_get}
use Rattle.postings_rewrite.specs.declared.store.Place.{Place}
use Rattle.postings_rewrite.specs.Stores.{IsFirstFrom}
use Rattle.postings_rewrite.specs.Places.{IsNext}
use Rattle.bool_query.specs.Scopes.{IsPassed, StandsBehind}
use Rattle.bool_query.proofs.Exactly.{rises, read, stands_at}

-- the first so many entries were taken, and the next target lies behind them and no further
pub record IsListing (Stands : Place → ℕ → Type 0) (list : List ℕ) (count least : ℕ) (ids : List ℕ) (place : Place) : Type 0 where
  pub taken : ids ≡ take count list
  pub entry : ℕ
  pub stands : Stands place entry
  pub within : entry ≤ length list
  pub order : entry ≤ count
  pub below : (k : ℕ) → k < count → k < length list → get_or list k 0 < least
  pub reached : count < length list → least ≤ get_or list count 0

-- what a search from there comes to
pub comes_to : (Stands : Place → ℕ → Type 0) (list : List ℕ) (count least : ℕ) (ids : List ℕ) (place : Place) (m : ℕ) → (is : IsListing Stands list count least ids place) → count < length list → IsFirstFrom list is.entry least m → m ≡ count
comes_to Stands list count least ids place m is within first =
    elim (cases_lt m count) [
      | inl less ↦ absurd (omega (arith, is.below m less (omega arith), first.reached (omega arith)))
      | inr more ↦ elim (cases_lt count m) [
        | inl less ↦ absurd (omega (arith, first.passed count is.order less, is.reached within))
        | inr last ↦ omega arith
      ]
    ]

pub found_one : (list : List ℕ) (m doc : ℕ) (answer : Option ℕ) → answer ≡ Some doc → answer ≡ slice_get list m → get_or list m 0 ≡ doc
found_one list m doc answer is given = get_or_from_slice_get list m doc 0 (sym given ∙ is)

pub listing_more : (Stands : Place → ℕ → Type 0) (list : List ℕ) (count least doc : ℕ) (ids : List ℕ) (place new : Place) (answer : Option ℕ) → IsStrictlyIncreasing list → (is : IsListing Stands list count least ids place) → count < length list → IsNext Stands list is.entry least new answer → answer ≡ Some doc
    → IsListing Stands list (count + 1) (doc + 1) (ids ++ doc ∷ []) new
listing_more Stands list count least doc ids place new answer rising is within next found =
    let m = next.entry in
    let at : m ≡ count = comes_to Stands list count least ids place m is within next.first in
    let here : get_or list count 0 ≡ doc = ap (λ (n : ℕ). get_or list n 0) (sym at) ∙ found_one list m doc answer found next.given in
    record {
      taken = ap (λ (l : List ℕ). l ++ doc ∷ []) is.taken ∙ ap (λ (n : ℕ). take count list ++ n ∷ []) (sym here) ∙ sym (take_more list count 0 within);
      entry = m;
      stands = next.stands;
      within = next.first.within;
      order = omega arith;
      below = λ k less inside. elim (cases_lt k count) [
        | inl earlier ↦ omega (arith, rises list k count rising earlier within)
        | inr last ↦ let same : k ≡ count = omega arith in omega (arith, ap (λ (n : ℕ). get_or list n 0) same)
      ];
      reached = λ inside. omega (arith, rises list count (count + 1) rising (omega arith) inside);
    }

pub listing_never_ends : (Stands : Place → ℕ → Type 0) (list : List ℕ) (count least : ℕ) (ids : List ℕ) (place new : Place) (answer : Option ℕ) → (is : IsListing Stands list count least ids place) → count < length list → IsNext Stands list is.entry least new answer → answer ≡ None → ⊥
listing_never_ends Stands list count least ids place new answer is within next none =
    let m = next.entry in
    let at : m ≡ count = comes_to Stands list count least ids place m is within next.first in
    let some : slice_get list m ≡ Some (get_or list m 0) = slice_get-get_or list m 0 (omega arith) in
    let both : None ≡ Some (get_or list m 0) = sym none ∙ next.given ∙ some in
    absurd (cc)

-- ---- whether a document is there

-- an entry behind which all are at least the document tells whether it is there
pub there_at : (list : List ℕ) (doc n m : ℕ) → IsStrictlyIncreasing list → IsPassed list doc n → IsFirstFrom list n doc m → Contains list doc → slice_get list m ≡ Some doc
there_at list doc n m rising passed first stands =
    let k = stands.0 in
    let is : get_or list k 0 ≡ doc = read list doc stands in
    let far : m ≤ k = elim (cases_lt k m) [
      | inl less ↦ elim (cases_lt k n) [
        | inl before ↦ absurd (omega (arith, passed.below k before))
        | inr behind ↦ absurd (omega (arith, first.passed k behind less))
      ]
      | inr more ↦ more
    ] in
    let inside : m < length list = omega (arith, stands.1) in
    let same : get_or list m 0 ≡ doc = elim (cases_lt m k) [
      | inl less ↦ absurd (omega (arith, rises list m k rising less stands.1, first.reached inside))
      | inr more ↦ let equal : m ≡ k = omega arith in ap (λ (j : ℕ). get_or list j 0) equal ∙ is
    ] in
    slice_get-get_or list m 0 inside ∙ ap Some same

pub there_from : (list : List ℕ) (doc m : ℕ) → m ≤ length list → slice_get list m ≡ Some doc → Contains list doc
there_from list doc m within found =
    elim (cases_lt m (length list)) [
      | inl inside ↦ stands_at list m doc inside (get_or_from_slice_get list m doc 0 found)
      | inr past ↦ absurd (let none : None ≡ Some doc = sym (slice_get_past list m past) ∙ found in (cc))
    ]

pub passed_more : (list : List ℕ) (doc n m : ℕ) → IsPassed list doc n → IsFirstFrom list n doc m → IsPassed list doc m
passed_more list doc n m passed first = record {
  within = first.within;
  below = λ k less. elim (cases_lt k n) [
    | inl before ↦ passed.below k before
    | inr behind ↦ first.passed k behind less
  ];
}

pub passed_later : (list : List ℕ) (doc later n : ℕ) → doc ≤ later → IsPassed list doc n → IsPassed list later n
passed_later list doc later n order passed = record {
  within = passed.within;
  below = λ k less. omega (arith, passed.below k less);
}

pub behind_later : (Stands : Place → ℕ → Type 0) (list : List ℕ) (doc later : ℕ) (place : Place) → doc ≤ later → StandsBehind Stands list doc place → StandsBehind Stands list later place
behind_later Stands list doc later place order behind = record {
  entry = behind.entry;
  stands = behind.stands;
  passed = passed_later list doc later behind.entry order behind.passed;
}

-- ---- what a comparison with an entry answers

pub entry_same : (answer : Option ℕ) (doc : ℕ) → option_eq eqb answer (Some doc) ≡ true → answer ≡ Some doc
entry_same None doc is = absurd (false≢true is)
entry_same (Some other) doc is = ap Some (eqb-true other doc is)

pub same_entry : (answer : Option ℕ) (doc : ℕ) → answer ≡ Some doc → option_eq eqb answer (Some doc) ≡ true
same_entry answer doc is = ap (λ (o : Option ℕ). option_eq eqb o (Some doc)) is ∙ eq-eqb doc doc refl

pub answers_there : (list : List ℕ) (doc n m : ℕ) (answer : Option ℕ) (said : Bool) → IsStrictlyIncreasing list → IsPassed list doc n → IsFirstFrom list n doc m → answer ≡ slice_get list m → said ≡ option_eq eqb answer (Some doc) → IsTrue said ↔ Contains list doc
answers_there list doc n m answer said rising passed first given is = (
  λ yes. there_from list doc m first.within (sym given ∙ entry_same answer doc (sym is ∙ yes)),
  λ stands. is ∙ same_entry answer doc (given ∙ there_at list doc n m rising passed first stands),
)
