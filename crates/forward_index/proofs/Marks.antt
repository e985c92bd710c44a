-- Terms that are marked: the list of them, and how many stand before each.
use Rattle.std.proofs.Common.{◌≡◌, ℕ, zero, suc, ◌+◌, ◌<◌, ◌≤◌, List, [], ◌∷◌, length, get_or, take, refl, sym, ap, subst, ◌∙◌, arith, All, AllPairs, sum, cond, eqb, inl, inr, add-zero}
use Rattle.std.proofs.lemmas.Bool.{cases_eq, cases_lt, eq-eqb, ne_eqb, cond-true, cond-false}
use Rattle.std.proofs.lemmas.List.{get_or_default, get_or_past, take-take}
use Rattle.std.proofs.lemmas.List.Elements.{All-cons, All-weaker}
use Rattle.std.proofs.lemmas.List.Kept.{AllPairs-cons}
use Rattle.std.proofs.lemmas.List.Sums.{sum_by-cons, sum_by-le, sum_by_more, sum_by-take-le}

-- the places of the ones, the first place being this one
abbrev pub ones_from : ℕ → List ℕ → List ℕ
ones_from from [] = []
ones_from from (mark ∷ marks) = cond (eqb mark 1) (from ∷ ones_from (from + 1) marks) (ones_from (from + 1) marks)

abbrev pub AreBits : List ℕ → Type 0
AreBits marks = (k : ℕ) → get_or marks k 0 ≤ 1

bits-tail : (mark : ℕ) (marks : List ℕ) → AreBits (mark ∷ marks) → AreBits marks
bits-tail mark marks bits k = bits (suc k)

sum-cons : (x : ℕ) (xs : List ℕ) → sum (x ∷ xs) ≡ x + sum xs
sum-cons x xs = sum_by-cons (λ (n : ℕ). n) x xs

with_one : (from mark : ℕ) (marks : List ℕ) → mark ≡ 1 → ones_from from (mark ∷ marks) ≡ from ∷ ones_from (from + 1) marks
with_one from mark marks e = cond-true (eqb mark 1) (from ∷ ones_from (from + 1) marks) (ones_from (from + 1) marks) (eq-eqb mark 1 e)

without : (from mark : ℕ) (marks : List ℕ) → (mark ≡ 1 → ⊥) → ones_from from (mark ∷ marks) ≡ ones_from (from + 1) marks
without from mark marks ne = cond-false (eqb mark 1) (from ∷ ones_from (from + 1) marks) (ones_from (from + 1) marks) (ne_eqb mark 1 ne)

pub length-ones : (from : ℕ) (marks : List ℕ) → AreBits marks → length (ones_from from marks) ≡ sum marks
length-ones from [] bits = refl
length-ones from (mark ∷ marks) bits =
    let rest = length-ones (from + 1) marks (bits-tail mark marks bits) in
    let bit : mark ≤ 1 = bits 0 in
    elim (cases_eq mark 1) [
      | inl e ↦ omega (arith, ap length (with_one from mark marks e), rest, sum-cons mark marks, e)
      | inr ne ↦ omega (arith, ap length (without from mark marks ne), rest, sum-cons mark marks, ne, bit)
    ]

-- a one is found again behind the ones before it
pub one_at : (from : ℕ) (marks : List ℕ) (k : ℕ) → AreBits marks → get_or marks k 0 ≡ 1 → get_or (ones_from from marks) (sum (take k marks)) 0 ≡ from + k
one_at from [] k bits one = absurd (omega (arith, one))
one_at from (mark ∷ marks) zero bits one = ap (λ (xs : List ℕ). get_or xs 0 0) (with_one from mark marks one) ∙ sym (add-zero from)
one_at from (mark ∷ marks) (suc k) bits one =
    let rest = one_at (from + 1) marks k (bits-tail mark marks bits) one in
    let bit : mark ≤ 1 = bits 0 in
    let ones = ones_from (from + 1) marks in
    let before = sum (take k marks) in
    elim (cases_eq mark 1) [
      | inl e ↦
          let at : sum (take (suc k) (mark ∷ marks)) ≡ suc before = omega (arith, sum-cons mark (take k marks), e) in
          let found : get_or ones before 0 ≡ from + suc k = omega (arith, rest) in
          ap (λ (n : ℕ). get_or (ones_from from (mark ∷ marks)) n 0) at ∙ ap (λ (xs : List ℕ). get_or xs (suc before) 0) (with_one from mark marks e) ∙ found
      | inr ne ↦
          let at : sum (take (suc k) (mark ∷ marks)) ≡ before = omega (arith, sum-cons mark (take k marks), ne, bit) in
          let found : get_or ones before 0 ≡ from + suc k = omega (arith, rest) in
          ap (λ (n : ℕ). get_or (ones_from from (mark ∷ marks)) n 0) at ∙ ap (λ (xs : List ℕ). get_or xs before 0) (without from mark marks ne) ∙ found
    ]

-- each of them is the place of a one
pub record IsOne (from : ℕ) (marks : List ℕ) (x : ℕ) : Type 0 where
  pub k : ℕ
  pub place : x ≡ from + k
  pub one : get_or marks k 0 ≡ 1

further : (from mark : ℕ) (marks : List ℕ) (x : ℕ) → IsOne (from + 1) marks x → IsOne from (mark ∷ marks) x
further from mark marks x is = let place = is.place in record { k = suc is.k; place = omega (arith, place); one = is.one }

pub ones_are : (from : ℕ) (marks : List ℕ) → All (IsOne from marks) (ones_from from marks)
ones_are from [] = λ k d lt. absurd (omega (arith, lt))
ones_are from (mark ∷ marks) =
    let rest : All (IsOne from (mark ∷ marks)) (ones_from (from + 1) marks) = All-weaker (IsOne (from + 1) marks) (IsOne from (mark ∷ marks)) (further from mark marks) (ones_from (from + 1) marks) (ones_are (from + 1) marks) in
    elim (cases_eq mark 1) [
      | inl e ↦ subst (All (IsOne from (mark ∷ marks))) (sym (with_one from mark marks e)) (All-cons (IsOne from (mark ∷ marks)) from (ones_from (from + 1) marks) (record { k = 0; place = sym (add-zero from); one = e }) rest)
      | inr ne ↦ subst (All (IsOne from (mark ∷ marks))) (sym (without from mark marks ne)) rest
    ]

pub ones_rise : (from : ℕ) (marks : List ℕ) → AllPairs (λ a b. a < b) (ones_from from marks)
ones_rise from [] = λ i j d less within. absurd (omega (arith, within))
ones_rise from (mark ∷ marks) =
    let rest = ones_rise (from + 1) marks in
    let above : All (λ x. from < x) (ones_from (from + 1) marks) = All-weaker (IsOne (from + 1) marks) (λ (x : ℕ). from < x) (λ x is. let place = is.place in omega (arith, place)) (ones_from (from + 1) marks) (ones_are (from + 1) marks) in
    elim (cases_eq mark 1) [
      | inl e ↦ subst (AllPairs (λ a b. a < b)) (sym (with_one from mark marks e)) (AllPairs-cons (λ (a b : ℕ). a < b) from (ones_from (from + 1) marks) above rest)
      | inr ne ↦ subst (AllPairs (λ a b. a < b)) (sym (without from mark marks ne)) rest
    ]

-- ---- how many stand before

pub within_marks : (marks : List ℕ) (k : ℕ) → get_or marks k 0 ≡ 1 → k < length marks
within_marks marks k one = elim (cases_lt k (length marks)) [
  | inl lt ↦ lt
  | inr ge ↦ let past = get_or_past marks k 0 ge in absurd (omega (arith, past, one))
]

pub rank_next : (marks : List ℕ) (k : ℕ) → get_or marks k 0 ≡ 1 → sum (take (k + 1) marks) ≡ sum (take k marks) + 1
rank_next marks k one = omega (arith, sum_by_more (λ (n : ℕ). n) marks k 0 (within_marks marks k one), one)

pub rank_below : (marks : List ℕ) (k : ℕ) → get_or marks k 0 ≡ 1 → sum (take k marks) < sum marks
rank_below marks k one = omega (arith, rank_next marks k one, sum_by-take-le (λ (n : ℕ). n) marks (k + 1))

pub rank_rises : (marks : List ℕ) (j k : ℕ) → get_or marks j 0 ≡ 1 → j < k → sum (take j marks) < sum (take k marks)
rank_rises marks j k one less =
    omega (arith, rank_next marks j one, sum_by-take-le (λ (n : ℕ). n) (take k marks) (j + 1), ap sum (take-take (j + 1) k marks (omega (arith, less))))

pub few_bits : (marks : List ℕ) → AreBits marks → sum marks ≤ length marks
few_bits marks bits = let few = sum_by-le (λ (n : ℕ). n) 1 marks (λ k d lt. subst (λ (n : ℕ). n ≤ 1) (get_or_default marks k 0 d lt) (bits k)) in omega (arith, few)
