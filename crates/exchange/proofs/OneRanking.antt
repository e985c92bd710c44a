-- Documents have one order by rank, and one start order.
use Rattle.std.proofs.Common.{◌≡◌, ◌⊎◌, ℕ, suc, ◌<◌, ℤ, ◌<ℤ◌, List, [], ◌∷◌, zero, AllPairs, Contains, refl, sym, subst, ap, ◌∙◌, inl, inr, arith}
use Rattle.std.proofs.lemmas.Int.{ints}
use Rattle.std.proofs.lemmas.List.Kept.{AllPairs-from_increasing}
use Rattle.std.proofs.lemmas.List.Sorted.{IsPermutation-sym, Contains-permutation}
use Rattle.exchange.specs.Pairs.{RanksBefore, IsRanked}
use Rattle.exchange.specs.Round.{IsHalfAfter}

pub first_or_later : (x z : ℕ) (xs : List ℕ) → Contains (x ∷ xs) z → (x ≡ z) ⊎ Contains xs z
first_or_later x z xs (zero, within, at) = inl at
first_or_later x z xs (suc k, within, at) = inr (k, omega (arith, within), at)

-- ---- lists of the same numbers in the same order

pub head_before : (R : ℕ → ℕ → Type 0) (x z : ℕ) (xs : List ℕ) → AllPairs R (x ∷ xs) → Contains xs z → R x z
head_before R x z xs ordered there = subst (R x) there.2 (ordered 0 (suc there.0) z (omega arith) (omega (arith, there.1)))

pub ordered_tail : (R : ℕ → ℕ → Type 0) (x : ℕ) (xs : List ℕ) → AllPairs R (x ∷ xs) → AllPairs R xs
ordered_tail R x xs ordered i j d order within = ordered (suc i) (suc j) d (omega (arith, order)) (omega (arith, within))

module _ (R : ℕ → ℕ → Type 0) (not_both : (x y : ℕ) → R x y → R y x → ⊥) where
  same_head : (x y : ℕ) (xs ys : List ℕ) → AllPairs R (x ∷ xs) → AllPairs R (y ∷ ys) → Contains (y ∷ ys) x → Contains (x ∷ xs) y → x ≡ y
  same_head x y xs ys xs_ordered ys_ordered there back =
      elim (first_or_later y x ys there) [
        | inl same ↦ sym same
        | inr behind_y ↦ elim (first_or_later x y xs back) [
          | inl same ↦ same
          | inr behind_x ↦ absurd (not_both x y (head_before R x y xs xs_ordered behind_x) (head_before R y x ys ys_ordered behind_y))
        ]
      ]

  in_tail : (x y z : ℕ) (xs ys : List ℕ) → x ≡ y → AllPairs R (x ∷ xs) → Contains xs z → Contains (y ∷ ys) z → Contains ys z
  in_tail x y z xs ys same ordered there has =
      elim (first_or_later y z ys has) [
        | inl first ↦ let twice : R x x = subst (R x) (sym (same ∙ first)) (head_before R x z xs ordered there) in absurd (not_both x x twice twice)
        | inr later ↦ later
      ]

  same_ordered : (xs ys : List ℕ) → AllPairs R xs → AllPairs R ys → ((z : ℕ) → Contains xs z → Contains ys z) → ((z : ℕ) → Contains ys z → Contains xs z) → xs ≡ ys
  same_ordered [] [] xs_ordered ys_ordered to from = refl
  same_ordered [] (y ∷ ys) xs_ordered ys_ordered to from = let there = from y (0, omega arith, refl) in absurd (omega (arith, there.1))
  same_ordered (x ∷ xs) [] xs_ordered ys_ordered to from = let there = to x (0, omega arith, refl) in absurd (omega (arith, there.1))
  same_ordered (x ∷ xs) (y ∷ ys) xs_ordered ys_ordered to from =
      let same : x ≡ y = same_head x y xs ys xs_ordered ys_ordered (to x (0, omega arith, refl)) (from y (0, omega arith, refl)) in
      let rest : xs ≡ ys = same_ordered xs ys (ordered_tail R x xs xs_ordered) (ordered_tail R y ys ys_ordered)
      (λ z there. in_tail x y z xs ys same xs_ordered there (to z (suc there.0, omega (arith, there.1), there.2)))
      (λ z there. in_tail y x z ys xs (sym same) ys_ordered there (from z (suc there.0, omega (arith, there.1), there.2))) in
      ap (λ (n : ℕ). n ∷ xs) same ∙ ap (λ (ns : List ℕ). y ∷ ns) rest

-- ---- ranks

less_once : (x y : ℤ) → x <ℤ y → y <ℤ x → ⊥
less_once x y one other = omega (arith, ints, one, other)

less_apart : (x y : ℤ) → x <ℤ y → y ≡ x → ⊥
less_apart x y less same = omega (arith, ints, less, same)

ranks_once : (gains : ℕ → ℤ) (x y : ℕ) → RanksBefore gains x y → RanksBefore gains y x → ⊥
ranks_once gains x y (inl more) (inl less) = less_once (gains y) (gains x) more less
ranks_once gains x y (inl more) (inr same) = less_apart (gains y) (gains x) more (sym same.0)
ranks_once gains x y (inr same) (inl more) = less_apart (gains x) (gains y) more (sym same.0)
ranks_once gains x y (inr one) (inr other) = absurd (omega (arith, one.1, other.1))

pub one_ranking : (gains : ℕ → ℤ) (half one other : List ℕ) → IsRanked gains half one → IsRanked gains half other → one ≡ other
one_ranking gains half one other is_one is_other =
    same_ordered (RanksBefore gains) (ranks_once gains) one other is_one.before is_other.before
    (λ z there. Contains-permutation half other z is_other.documents (Contains-permutation one half z (IsPermutation-sym half one is_one.documents) there))
    (λ z there. Contains-permutation half one z is_one.documents (Contains-permutation other half z (IsPermutation-sym half other is_other.documents) there))

-- ---- start order

rises_once : (x y : ℕ) → x < y → y < x → ⊥
rises_once x y one other = omega (arith, one, other)

pub one_half : (half leave come one other : List ℕ) → IsHalfAfter half leave come one → IsHalfAfter half leave come other → one ≡ other
one_half half leave come one other is_one is_other =
    same_ordered (λ x y. x < y) rises_once one other (AllPairs-from_increasing one is_one.rising) (AllPairs-from_increasing other is_other.rising)
    (λ z there. (is_other.documents z).1 ((is_one.documents z).0 there))
    (λ z there. (is_one.documents z).1 ((is_other.documents z).0 there))
