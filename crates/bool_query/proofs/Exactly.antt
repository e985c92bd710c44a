-- Rising numbers that are exactly those of which something holds.
use Rattle.std.proofs.Common.{◌≡◌, ◌↔◌, ◌⊎◌, inl, inr, ℕ, suc, ◌+◌, ◌-◌, ◌<◌, ◌≤◌, Bool, true, false, IsTrue, List, [], ◌∷◌, ◌++◌, length, get_or, take, set, Contains, refl, sym, subst, ap, ◌∙◌, arith, length-append}
use Rattle.std.specs.List.Sorted.{IsStrictlyIncreasing}
use Rattle.std.proofs.lemmas.Bool.{false≢true, cases_lt}
use mathlib.Core.Bool.{beq}
use Rattle.std.proofs.lemmas.List.{get_or_default, get_or_append_left, get_or_push, length_push, take_more_set, take_all, get_or-set_other, length-set}
use Rattle.std.proofs.lemmas.List.Elements.{Contains-get_or, Contains-append_left, Contains-push, Contains-push_cases}
use Rattle.std.proofs.lemmas.List.Kept.{AllPairs-from_increasing}
use Rattle.bool_query.specs.Answers.{AreExactly}
use Rattle.bool_query.specs.Scopes.{AreSifted}

pub rises : (ids : List ℕ) (i j : ℕ) → IsStrictlyIncreasing ids → i < j → j < length ids → get_or ids i 0 < get_or ids j 0
rises ids i j rising order within = AllPairs-from_increasing ids rising i j 0 order within

pub read : (ids : List ℕ) (doc : ℕ) (stands : Contains ids doc) → get_or ids stands.0 0 ≡ doc
read ids doc stands = get_or_default ids stands.0 0 doc stands.1 ∙ stands.2

pub stands_at : (ids : List ℕ) (i doc : ℕ) → i < length ids → get_or ids i 0 ≡ doc → Contains ids doc
stands_at ids i doc within same = (i, within, get_or_default ids i doc 0 within ∙ same)

pub none_stands : (doc : ℕ) → ¬ Contains [] doc
none_stands doc stands = absurd (omega (arith, stands.1))

pub exactly_none : (P : ℕ → Type 0) → ((doc : ℕ) → ¬ P doc) → AreExactly P []
exactly_none P none = record {
  rising = λ k within. absurd (omega (arith, within));
  each = λ doc. (λ stands. absurd (none_stands doc stands), λ holds. absurd (none doc holds));
}

pub exactly_along : (P Q : ℕ → Type 0) (ids : List ℕ) → ((doc : ℕ) → P doc ↔ Q doc) → AreExactly P ids → AreExactly Q ids
exactly_along P Q ids same is = record {
  rising = is.rising;
  each = λ doc. (λ stands. (same doc).0 ((is.each doc).0 stands), λ holds. (is.each doc).1 ((same doc).1 holds));
}

-- one more number behind those below it
pub exactly_more : (P : ℕ → Type 0) (ids : List ℕ) (doc : ℕ) → AreExactly P ids → ((d : ℕ) → P d → d < doc) → AreExactly (λ d. P d ⊎ (d ≡ doc)) (ids ++ doc ∷ [])
exactly_more P ids doc is below = record {
  rising = λ k within.
      let size = length_push ids doc in
      elim (cases_lt (k + 1) (length ids)) [
        | inl inside ↦
            omega (arith, is.rising k inside, get_or_append_left ids (doc ∷ []) 0 k (omega arith), get_or_append_left ids (doc ∷ []) 0 (k + 1) inside)
        | inr last ↦
            let here : k < length ids = omega (arith, within) in
            let low : get_or ids k 0 < doc = below (get_or ids k 0) ((is.each (get_or ids k 0)).0 (Contains-get_or ids k 0 here)) in
            omega (arith, low, get_or_append_left ids (doc ∷ []) 0 k here, get_or_push ids doc 0 (k + 1) (omega arith))
      ];
  each = λ d. (
    λ stands. elim (Contains-push_cases ids doc d stands) [
      | inl earlier ↦ inl ((is.each d).0 earlier)
      | inr same ↦ inr (sym same)
    ],
    λ holds. elim holds [
      | inl earlier ↦ Contains-append_left ids (doc ∷ []) d ((is.each d).1 earlier)
      | inr same ↦ subst (λ (n : ℕ). Contains (ids ++ doc ∷ []) n) (sym same) (Contains-push ids doc)
    ],
  );
}

-- ---- how far a sift has come

-- the number stands among the first ones
abbrev pub StandsFirst : List ℕ → ℕ → ℕ → Type 0
StandsFirst ids i doc = (k : ℕ) × (k < i) × (get_or ids k 0 ≡ doc)

-- the first i numbers were looked at, and those of them that stay stand first
pub record IsSifting (ids list : List ℕ) (listed : Bool) (i kept : ℕ) (now : List ℕ) : Type 0 where
  pub order : kept ≤ i
  pub len : length now ≡ length ids
  pub rest : (k : ℕ) → i ≤ k → k < length ids → get_or now k 0 ≡ get_or ids k 0
  pub sifted : AreExactly (λ doc. StandsFirst ids i doc × (Contains list doc ↔ IsTrue listed)) (take kept now)

pub sifting_none : (ids list : List ℕ) (listed : Bool) → IsSifting ids list listed 0 0 ids
sifting_none ids list listed = record {
  order = omega arith;
  len = refl;
  rest = λ k from within. refl;
  sifted = exactly_none (λ doc. StandsFirst ids 0 doc × (Contains list doc ↔ IsTrue listed)) (λ doc holds. absurd (omega (arith, holds.0.1)));
}

stands_before : (ids : List ℕ) (i k : ℕ) → k < i + 1 → (k < i) ⊎ (k ≡ i)
stands_before ids i k within = elim (cases_lt k i) [ inl less ↦ inl less | inr more ↦ inr (omega arith) ]

first_more : (ids : List ℕ) (i d doc : ℕ) → get_or ids i 0 ≡ doc → StandsFirst ids (i + 1) d → StandsFirst ids i d ⊎ (d ≡ doc)
first_more ids i d doc here first = elim (stands_before ids i first.0 first.1) [
  | inl less ↦ inl (first.0, less, first.2)
  | inr last ↦ inr (sym first.2 ∙ ap (λ (n : ℕ). get_or ids n 0) last ∙ here)
]

first_earlier : (ids : List ℕ) (i d : ℕ) → StandsFirst ids i d → StandsFirst ids (i + 1) d
first_earlier ids i d first = (first.0, omega (arith, first.1), first.2)

pub sifting_kept : (ids list now : List ℕ) (listed : Bool) (i kept doc : ℕ) → IsStrictlyIncreasing ids → IsSifting ids list listed i kept now → i < length ids → get_or ids i 0 ≡ doc → (Contains list doc ↔ IsTrue listed) → IsSifting ids list listed (i + 1) (kept + 1) (set now kept doc)
sifting_kept ids list now listed i kept doc rising is within here stays =
    let P : ℕ → Type 0 = λ (d : ℕ). StandsFirst ids i d × (Contains list d ↔ IsTrue listed) in
    let Q : ℕ → Type 0 = λ (d : ℕ). StandsFirst ids (i + 1) d × (Contains list d ↔ IsTrue listed) in
    let below : (d : ℕ) → P d → d < doc = λ d holds. omega (arith, rises ids holds.0.0 i rising holds.0.1 within, holds.0.2, here) in
    let more : AreExactly (λ d. P d ⊎ (d ≡ doc)) (take kept now ++ doc ∷ []) = exactly_more P (take kept now) doc is.sifted below in
    let same : (d : ℕ) → (P d ⊎ (d ≡ doc)) ↔ Q d = λ d. (
      λ holds. elim holds [
        | inl earlier ↦ (first_earlier ids i d earlier.0, earlier.1)
        | inr last ↦ ((i, omega arith, here ∙ sym last), subst (λ (n : ℕ). Contains list n ↔ IsTrue listed) (sym last) stays)
      ],
      λ holds. elim (first_more ids i d doc here holds.0) [
        | inl earlier ↦ inl (earlier, holds.1)
        | inr last ↦ inr last
      ],
    ) in
    record {
      order = omega (arith, is.order);
      len = length-set now kept doc ∙ is.len;
      rest = λ k from inside. get_or-set_other now kept k doc 0 (λ (e : k ≡ kept). absurd (omega (arith, is.order))) ∙ is.rest k (omega arith) inside;
      sifted = subst (AreExactly Q) (sym (take_more_set now kept doc (omega (arith, is.order, is.len)))) (exactly_along (λ d. P d ⊎ (d ≡ doc)) Q (take kept now ++ doc ∷ []) same more);
    }

pub sifting_left : (ids list now : List ℕ) (listed : Bool) (i kept doc : ℕ) → IsSifting ids list listed i kept now → i < length ids → get_or ids i 0 ≡ doc → ¬ (Contains list doc ↔ IsTrue listed) → IsSifting ids list listed (i + 1) kept now
sifting_left ids list now listed i kept doc is within here goes =
    let P : ℕ → Type 0 = λ (d : ℕ). StandsFirst ids i d × (Contains list d ↔ IsTrue listed) in
    let Q : ℕ → Type 0 = λ (d : ℕ). StandsFirst ids (i + 1) d × (Contains list d ↔ IsTrue listed) in
    let same : (d : ℕ) → P d ↔ Q d = λ d. (
      λ holds. (first_earlier ids i d holds.0, holds.1),
      λ holds. elim (first_more ids i d doc here holds.0) [
        | inl earlier ↦ (earlier, holds.1)
        | inr last ↦ absurd (goes (subst (λ (n : ℕ). Contains list n ↔ IsTrue listed) last holds.1))
      ],
    ) in
    record {
      order = omega (arith, is.order);
      len = is.len;
      rest = λ k from inside. is.rest k (omega arith) inside;
      sifted = exactly_along P Q (take kept now) same is.sifted;
    }

pub sifting_done : (ids list now : List ℕ) (listed : Bool) (i kept : ℕ) → IsSifting ids list listed i kept now → i ≡ length ids → AreSifted ids list listed (take kept now)
sifting_done ids list now listed i kept is all =
    exactly_along (λ d. StandsFirst ids i d × (Contains list d ↔ IsTrue listed)) (λ d. Contains ids d × (Contains list d ↔ IsTrue listed)) (take kept now)
    (λ d. (
      λ holds. (stands_at ids holds.0.0 d (omega (arith, holds.0.1)) holds.0.2, holds.1),
      λ holds. ((holds.0.0, omega (arith, holds.0.1), read ids d holds.0), holds.1),
    )) is.sifted

-- ---- what a test answers

same_bools : (a b : Bool) → (IsTrue a ↔ IsTrue b) → a ≡ b
same_bools true true h = refl
same_bools false false h = refl
same_bools true false h = absurd (false≢true (h.0 refl))
same_bools false true h = absurd (false≢true (h.1 refl))

pub stays_where : (P : Type 0) (a b : Bool) → (IsTrue a ↔ P) → a ≡ b → P ↔ IsTrue b
stays_where P a b answered same = (λ holds. sym same ∙ answered.1 holds, λ is. answered.0 (same ∙ is))

pub goes_where : (P : Type 0) (a b : Bool) → (IsTrue a ↔ P) → ¬ (a ≡ b) → ¬ (P ↔ IsTrue b)
goes_where P a b answered other both = other (same_bools a b (λ is. both.0 (answered.0 is), λ is. answered.1 (both.1 is)))

-- what is read at the place that the sift has come to
pub read_there : (ids list now : List ℕ) (listed : Bool) (i kept doc : ℕ) → IsSifting ids list listed i kept now → i < length ids → get_or now i doc ≡ doc → get_or ids i 0 ≡ doc
read_there ids list now listed i kept doc is within here =
    sym (is.rest i (omega arith) within) ∙ get_or_default now i 0 doc (omega (arith, is.len)) ∙ here

pub beq_same : (a b : Bool) → beq a b ≡ true → a ≡ b
beq_same true true h = refl
beq_same false false h = refl
beq_same true false h = absurd (false≢true h)
beq_same false true h = absurd (false≢true h)

pub beq_other : (a b : Bool) → beq a b ≡ false → ¬ (a ≡ b)
beq_other true true h = absurd (false≢true (sym h))
beq_other false false h = absurd (false≢true (sym h))
beq_other true false h = λ e. false≢true (sym e)
beq_other false true h = false≢true

-- a sift's next step, where the test is whether the answer is the one that is wanted
pub sifting_kept_by : (ids list now : List ℕ) (listed said : Bool) (i kept doc : ℕ) → IsStrictlyIncreasing ids → IsSifting ids list listed i kept now → i < length ids → get_or now i doc ≡ doc → (IsTrue said ↔ Contains list doc) → beq said listed ≡ true → IsSifting ids list listed (i + 1) (kept + 1) (set now kept doc)
sifting_kept_by ids list now listed said i kept doc rising is within here told test =
    sifting_kept ids list now listed i kept doc rising is within (read_there ids list now listed i kept doc is within here) (stays_where (Contains list doc) said listed told (beq_same said listed test))

pub sifting_left_by : (ids list now : List ℕ) (listed said : Bool) (i kept doc : ℕ) → IsSifting ids list listed i kept now → i < length ids → get_or now i doc ≡ doc → (IsTrue said ↔ Contains list doc) → beq said listed ≡ false → IsSifting ids list listed (i + 1) kept now
sifting_left_by ids list now listed said i kept doc is within here told test =
    sifting_left ids list now listed i kept doc is within (read_there ids list now listed i kept doc is within here) (goes_where (Contains list doc) said listed told (beq_other said listed test))
