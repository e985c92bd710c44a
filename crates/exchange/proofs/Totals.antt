-- Sums of whole numbers over lists.
use Rattle.std.proofs.Common.{◌≡◌, ◌≢◌, ℕ, zero, suc, ◌+◌, ◌<◌, ◌≤◌, ℤ, pos, ◌+ℤ◌, ◌-ℤ◌, Bool, true, false, cond, List, [], ◌∷◌, ◌++◌, get_or, refl, sym, ap, ◌∙◌, All, inl, inr, arith}
use Rattle.std.specs.List.{range_with_len, AllPairs}
use Rattle.std.specs.List.Sorted.{IsStrictlyIncreasing}
use Rattle.std.specs.Prelude.{nat_eq}
use Rattle.std.proofs.lemmas.Int.{ints}
use Rattle.std.proofs.lemmas.Bool.Decides.{eqb_tells, nat_tests}
use Rattle.std.proofs.lemmas.List.Elements.{All-head, All-tail}
use Rattle.std.proofs.lemmas.List.Kept.{AllPairs-from_increasing}
use Rattle.degrees.specs.Sums.{total_by}
use Rattle.degrees.specs.Cost.{has_term}

pub total_by-same : {X : Type 0} (f g : X → ℤ) (xs : List X) → All (λ x. f x ≡ g x) xs → total_by f xs ≡ total_by g xs
unfolding total_by
total_by-same f g [] same = refl
total_by-same f g (x ∷ xs) same =
    ap (λ (n : ℤ). n +ℤ total_by f xs) (All-head (λ y. f y ≡ g y) x xs same)
    ∙ ap (λ (n : ℤ). g x +ℤ n) (total_by-same f g xs (All-tail (λ y. f y ≡ g y) x xs same))

pub total_by-add : {X : Type 0} (f g : X → ℤ) (xs : List X) → total_by (λ x. f x +ℤ g x) xs ≡ total_by f xs +ℤ total_by g xs
unfolding total_by
total_by-add f g [] = refl
total_by-add f g (x ∷ xs) = let rest = total_by-add f g xs in omega (arith, ints)

pub total_by-sub : {X : Type 0} (f g : X → ℤ) (xs : List X) → total_by (λ x. f x -ℤ g x) xs ≡ total_by f xs -ℤ total_by g xs
unfolding total_by
total_by-sub f g [] = refl
total_by-sub f g (x ∷ xs) = let rest = total_by-sub f g xs in omega (arith, ints)

pub total_by-append : {X : Type 0} (f : X → ℤ) (xs ys : List X) → total_by f (xs ++ ys) ≡ total_by f xs +ℤ total_by f ys
unfolding total_by
total_by-append f [] ys = omega (arith, ints)
total_by-append f (x ∷ xs) ys = let rest = total_by-append f xs ys in omega (arith, ints)

pub total_by-none : {X : Type 0} (f : X → ℤ) (xs : List X) → All (λ x. f x ≡ pos 0) xs → total_by f xs ≡ pos 0
unfolding total_by
total_by-none f [] none = refl
total_by-none f (x ∷ xs) none =
    let head = All-head (λ y. f y ≡ pos 0) x xs none in
    let rest = total_by-none f xs (All-tail (λ y. f y ≡ pos 0) x xs none) in
    omega (arith, ints)

-- ---- over the numbers of a row

-- a number where the test holds, and else 0
abbrev pub where_true : Bool → ℤ → ℤ
where_true test number = cond test number (pos 0)

unlike : (a b : ℕ) → a ≢ b → nat_eq a b ≡ false
unlike a b apart = grind (arith, nat_tests)

alike : (a b : ℕ) → a ≡ b → nat_eq a b ≡ true
alike a b same = grind (arith, nat_tests)

none_from : (f : ℕ → ℤ) (t from n : ℕ) → t < from → total_by (λ s. where_true (nat_eq t s) (f s)) (range_with_len from n) ≡ pos 0
unfolding total_by
none_from f t from zero below = refl
none_from f t from (suc n) below =
    let rest = none_from f t (from + 1) n (omega arith) in
    let head : where_true (nat_eq t from) (f from) ≡ pos 0 = ap (λ (b : Bool). where_true b (f from)) (unlike t from (λ same. omega arith)) in
    omega (arith, ints)

one_from : (f : ℕ → ℤ) (t from n : ℕ) → from ≤ t → t < from + n → total_by (λ s. where_true (nat_eq t s) (f s)) (range_with_len from n) ≡ f t
unfolding total_by
one_from f t from zero low high = absurd (omega (arith, high))
one_from f t from (suc n) low high =
    elim (eqb_tells t from) [
      | inl same ↦
          let rest = none_from f t (from + 1) n (omega (arith, same.1)) in
          let head : where_true (nat_eq t from) (f from) ≡ f t = ap (λ (b : Bool). where_true b (f from)) same.0 ∙ ap f (sym same.1) in
          omega (arith, ints)
      | inr apart ↦
          let later : from + 1 ≤ t = omega (arith, apart.1) in
          let rest = one_from f t (from + 1) n later (omega (arith, high)) in
          let head : where_true (nat_eq t from) (f from) ≡ pos 0 = ap (λ (b : Bool). where_true b (f from)) apart.0 in
          omega (arith, ints)
    ]

-- every number of the row is at least this, and each is above the one before
abbrev pub IsRowFrom : ℕ → List ℕ → Type 0
IsRowFrom from [] = Unit {0}
IsRowFrom from (t ∷ row) = (from ≤ t) × IsRowFrom (t + 1) row

not_below : (row : List ℕ) (s from : ℕ) → IsRowFrom from row → s < from → has_term row s ≡ false
not_below [] s from is below = refl
not_below (t ∷ row) s from is below =
    let head = unlike t s (λ same. omega (arith, is.0)) in
    let rest = not_below row s (t + 1) is.1 (omega (arith, is.0)) in
    rw head rest

split : (f : ℕ → ℤ) (t s : ℕ) (row : List ℕ) → IsRowFrom (t + 1) row → where_true (has_term (t ∷ row) s) (f s) ≡ where_true (nat_eq t s) (f s) +ℤ where_true (has_term row s) (f s)
split f t s row is =
    elim (eqb_tells t s) [
      | inl same ↦
          let none = not_below row s (t + 1) is (omega (arith, same.1)) in
          rw (same.0, none) (omega (arith, ints))
      | inr apart ↦ rw apart.0 (omega (arith, ints))
    ]

-- a sum over all numbers of what only those of the row have is the sum over the row
pub total_over_row : (f : ℕ → ℤ) (terms from : ℕ) (row : List ℕ) → IsRowFrom from row → All (λ t. t < terms) row → total_by (λ s. where_true (has_term row s) (f s)) (range_with_len 0 terms) ≡ total_by f row
unfolding total_by
total_over_row f terms from [] is below = total_by-none (λ s. pos 0) (range_with_len 0 terms) (λ k d within. refl)
total_over_row f terms from (t ∷ row) is below =
    let within = All-head (λ u. u < terms) t row below in
    let one = one_from f t 0 terms (omega arith) (omega (arith, within)) in
    let rest = total_over_row f terms (t + 1) row is.1 (All-tail (λ u. u < terms) t row below) in
    let parts = total_by-same (λ s. where_true (has_term (t ∷ row) s) (f s)) (λ s. where_true (nat_eq t s) (f s) +ℤ where_true (has_term row s) (f s)) (range_with_len 0 terms) (λ k d within. split f t (get_or (range_with_len 0 terms) k d) row is.1) in
    let both = total_by-add (λ s. where_true (nat_eq t s) (f s)) (λ s. where_true (has_term row s) (f s)) (range_with_len 0 terms) in
    omega (arith, ints, one, rest, parts, both)

row_from : (from : ℕ) (row : List ℕ) → All (λ t. from ≤ t) row → AllPairs (λ t u. t < u) row → IsRowFrom from row
row_from from [] low rising = tt
row_from from (t ∷ row) low rising = (
  All-head (λ u. from ≤ u) t row low,
  row_from (t + 1) row (λ k d within. omega (arith, rising 0 (suc k) d (omega arith) (omega (arith, within)))) (λ i j d order within. rising (suc i) (suc j) d (omega (arith, order)) (omega (arith, within))),
)

pub IsRowFrom-from_rising : (row : List ℕ) → IsStrictlyIncreasing row → IsRowFrom 0 row
IsRowFrom-from_rising row rising = row_from 0 row (λ k d within. omega arith) (AllPairs-from_increasing row rising)
