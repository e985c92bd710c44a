-- The touched terms after a step.
use Rattle.std.proofs.Common.{◌≡◌, ◌≢◌, ℕ, ◌+◌, ◌<◌, ◌≤◌, List, [], ◌∷◌, ◌++◌, length, get_or, replicate, All, Contains, inl, inr, refl, sym, subst, ap, ◌∙◌, arith}
use Rattle.std.proofs.lemmas.Bool.{cases_eq}
use Rattle.std.proofs.lemmas.List.{get_or-replicate, length-replicate, get_or_append_left, get_or_push, length_push}
use Rattle.std.proofs.lemmas.List.Elements.{All-push, Contains-push, Contains-append_left, Contains-push_cases}
use Rattle.std.proofs.lemmas.List.Quantifiers.{all_pairs_push}
use Rattle.degrees.specs.Steps.{Both, no_counts}
use Rattle.degrees.specs.Kept.{AreTouched}
use Rattle.degrees.proofs.Distinct.{different_short}

-- the counts of a term together
abbrev pub of_term : Both → ℕ → ℕ
of_term both term = get_or both.a term 0 + get_or both.b term 0

pub AreTouched-none : (n : ℕ) → AreTouched (no_counts n) []
AreTouched-none n = record {
  below = λ k d lt. absurd (omega arith);
  different = λ i j d before lt. absurd (omega arith);
  counted = λ k d lt. absurd (omega arith);
  each = λ term lt some.
      let within : term < n = omega (arith, length-replicate {A = ℕ} n 0) in
      let zero : get_or (replicate n 0) term 0 ≡ 0 = get_or-replicate {A = ℕ} n term 0 0 within in
      absurd (omega arith);
}

-- a term with no counts isn't touched
untouched : (both : Both) (touched : List ℕ) (term : ℕ) → AreTouched both touched → of_term both term ≡ 0 → All (λ x. x ≢ term) touched
untouched both touched term h none = λ k d lt same.
    let some : 0 < of_term both (get_or touched k d) = h.counted k d lt in
    let here : of_term both (get_or touched k d) ≡ of_term both term = ap (of_term both) same in
    omega arith

-- the same terms have counts
pub AreTouched-kept : (both new : Both) (touched : List ℕ) → AreTouched both touched → length new.a ≡ length both.a
    → ((term : ℕ) → term < length both.a → 0 < of_term both term → 0 < of_term new term)
    → ((term : ℕ) → term < length both.a → 0 < of_term new term → 0 < of_term both term)
    → AreTouched new touched
AreTouched-kept both new touched h len on back = record {
  below = λ k d lt. omega (arith, len, h.below k d lt);
  different = h.different;
  counted = λ k d lt. on (get_or touched k d) (h.below k d lt) (h.counted k d lt);
  each = λ term lt some. h.each term (omega arith) (back term (omega arith) some);
}

-- a term comes to its first count
pub AreTouched-push : (both new : Both) (touched : List ℕ) (term : ℕ) → AreTouched both touched → length new.a ≡ length both.a → term < length both.a
    → of_term both term ≡ 0 → 0 < of_term new term
    → ((other : ℕ) → other ≢ term → of_term new other ≡ of_term both other)
    → AreTouched new (touched ++ term ∷ [])
AreTouched-push both new touched term h len low none some same =
    let apart : All (λ x. x ≢ term) touched = untouched both touched term h none in
    record {
      below = All-push (λ x. x < length new.a) touched term (λ k d lt. omega (arith, len, h.below k d lt)) (omega arith);
      different = all_pairs_push (λ x y. x ≢ y) touched term h.different apart;
      counted = All-push (λ x. 0 < of_term new x) touched term (λ k d lt. omega (arith, same (get_or touched k d) (apart k d lt), h.counted k d lt)) some;
      each = λ other lt counted.
          elim (cases_eq other term) [
            | inl here ↦ subst (Contains (touched ++ term ∷ [])) (sym here) (Contains-push touched term)
            | inr unlike ↦ Contains-append_left touched (term ∷ []) other (h.each other (omega arith) (omega (arith, same other unlike)))
          ];
    }

-- one more can be touched
pub room_left : (both : Both) (touched : List ℕ) (term : ℕ) → AreTouched both touched → term < length both.a → of_term both term ≡ 0 → length touched < length both.a
room_left both touched term h low none =
    let apart : All (λ x. x ≢ term) touched = untouched both touched term h none in
    let all = touched ++ term ∷ [] in
    let short : length all ≤ length both.a =
    different_short all (length both.a) (All-push (λ x. x < length both.a) touched term h.below low) (all_pairs_push (λ x y. x ≢ y) touched term h.different apart) in
    omega (arith, length_push touched term)

-- the last touched term loses its counts
pub AreTouched-pop : (both new : Both) (touched : List ℕ) (term : ℕ) → AreTouched both (touched ++ term ∷ []) → length new.a ≡ length both.a
    → of_term new term ≡ 0
    → ((other : ℕ) → other ≢ term → of_term new other ≡ of_term both other)
    → AreTouched new touched
AreTouched-pop both new touched term h len none same =
    let all = touched ++ term ∷ [] in
    let long : length all ≡ length touched + 1 = length_push touched term in
    let there : (k d : ℕ) → k < length touched → get_or all k d ≡ get_or touched k d = λ k d lt. get_or_append_left touched (term ∷ []) d k lt in
    let last : (d : ℕ) → get_or all (length touched) d ≡ term = λ d. get_or_push touched term d (length touched) refl in
    let apart : (k d : ℕ) → k < length touched → get_or touched k d ≢ term =
    λ k d lt equal. h.different k (length touched) d lt (omega arith) (there k d lt ∙ equal ∙ sym (last d)) in
    record {
      below = λ k d lt. omega (arith, len, there k d lt, h.below k d (omega arith));
      different = λ i j d before lt equal. h.different i j d before (omega arith) (there i d (omega arith) ∙ equal ∙ sym (there j d lt));
      counted = λ k d lt.
          let some : 0 < of_term both (get_or touched k d) = subst (λ x. 0 < of_term both x) (there k d lt) (h.counted k d (omega arith)) in
          omega (arith, same (get_or touched k d) (apart k d lt));
      each = λ other lt counted.
          elim (cases_eq other term) [
            | inl here ↦ absurd (omega (arith, ap (of_term new) here))
            | inr unlike ↦
                elim (Contains-push_cases touched term other (h.each other (omega arith) (omega (arith, same other unlike)))) [
                  | inl before ↦ before
                  | inr equal ↦ absurd (unlike (sym equal))
                ]
          ];
    }

-- where nothing is touched there are no counts
pub none_touched : (both : Both) (term : ℕ) → AreTouched both [] → term < length both.a → of_term both term ≡ 0
none_touched both term h low =
    elim (cases_eq (of_term both term) 0) [
      | inl none ↦ none
      | inr some ↦ let there = h.each term low (omega arith) in absurd (omega (arith, there.1))
    ]
