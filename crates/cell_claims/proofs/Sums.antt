-- Sums over lists, and how often numbers stand in them.
use Rattle.std.proofs.Common.{◌≡◌, ◌≢◌, ◌⊎◌, ℕ, zero, suc, ◌+◌, ◌<◌, ◌≤◌, List, [], ◌∷◌, ◌++◌, set, refl, sym, ap, arith}
use Rattle.std.proofs.Common.{map, Some, inl, inr, ⊎_elim, lt_of_not-le}
use Rattle.std.specs.Prelude.{slice_get}
use native.Mathlib.Decide.{dec_le}
use mathlib.Core.Option.{some, some-injective, some-ne-none}
use lib.ListN.{get_elem?}
use Rattle.cell_claims.specs.declared.cell.CellDone.{CellDone}
use Rattle.cell_claims.specs.Numbers.{total, times, late, is_below, is_same}

pub some_from : {A : Type 0} {a b : A} → Some a ≡ Some b → a ≡ b
some_from e = cc

module _ {A : Type 0} (f : A → ℕ) where
  pub total_set : (xs : List A) (i : ℕ) (v w : A) → get_elem? xs i ≡ some v → total f (set xs i w) + f v ≡ total f xs + f w
  total_set [] i v w e = absurd (some-ne-none v (sym e))
  total_set (x ∷ xs) zero v w e = let s : f x ≡ f v = ap f (some-injective _ _ e) in omega arith
  total_set (x ∷ xs) (suc i) v w e = let s = total_set xs i v w e in omega arith

  pub total_at : (xs : List A) (i : ℕ) (v : A) → get_elem? xs i ≡ some v → f v ≤ total f xs
  total_at [] i v e = absurd (some-ne-none v (sym e))
  total_at (x ∷ xs) zero v e = let s : f x ≡ f v = ap f (some-injective _ _ e) in omega arith
  total_at (x ∷ xs) (suc i) v e = let s = total_at xs i v e in omega arith

  pub total_two : (xs : List A) (i j : ℕ) (v w : A) → i ≢ j → get_elem? xs i ≡ some v → get_elem? xs j ≡ some w → f v + f w ≤ total f xs
  total_two [] i j v w n e d = absurd (some-ne-none v (sym e))
  total_two (x ∷ xs) zero zero v w n e d = absurd (n refl)
  total_two (x ∷ xs) zero (suc j) v w n e d = let s : f x ≡ f v = ap f (some-injective _ _ e) in let t = total_at xs j w d in omega arith
  total_two (x ∷ xs) (suc i) zero v w n e d = let s : f x ≡ f w = ap f (some-injective _ _ d) in let t = total_at xs i v e in omega arith
  total_two (x ∷ xs) (suc i) (suc j) v w n e d = let t = total_two xs i j v w (λ h. n (ap suc h)) e d in omega arith

  pub total_snoc : (xs : List A) (x : A) → total f (xs ++ x ∷ []) ≡ total f xs + f x
  total_snoc [] x = omega arith
  total_snoc (y ∷ ys) x = let s = total_snoc ys x in omega arith

  pub total_append : (xs ys : List A) → total f (xs ++ ys) ≡ total f xs + total f ys
  total_append [] ys = omega arith
  total_append (x ∷ xs) ys = let s = total_append xs ys in omega arith

  -- where all others have nothing, one has all
  pub total_none : (xs : List A) → ((j : ℕ) (w : A) → get_elem? xs j ≡ some w → f w ≡ 0) → total f xs ≡ 0
  total_none [] h = refl
  total_none (x ∷ xs) h = let s = h zero x refl in let t = total_none xs (λ j w e. h (suc j) w e) in omega arith

  pub total_one : (xs : List A) (i : ℕ) (v : A) → get_elem? xs i ≡ some v → ((j : ℕ) (w : A) → j ≢ i → get_elem? xs j ≡ some w → f w ≡ 0) → total f xs ≡ f v
  total_one [] i v e h = absurd (some-ne-none v (sym e))
  total_one (x ∷ xs) zero v e h = let s : f x ≡ f v = ap f (some-injective _ _ e) in let t = total_none xs (λ j w d. h (suc j) w (λ q. omega arith) d) in omega arith
  total_one (x ∷ xs) (suc i) v e h = let s = h zero x (λ q. omega arith) refl in let t = total_one xs i v e (λ j w n d. h (suc j) w (λ q. n (omega arith)) d) in omega arith

pub total_le : {A : Type 0} (f g : A → ℕ) (xs : List A) → ((j : ℕ) (w : A) → get_elem? xs j ≡ some w → f w ≤ g w) → total f xs ≤ total g xs
total_le f g [] h = omega arith
total_le f g (x ∷ xs) h = let s = h zero x refl in let t = total_le f g xs (λ j w e. h (suc j) w e) in omega arith

pub times_append : (k : ℕ) (xs ys : List ℕ) → times k (xs ++ ys) ≡ times k xs + times k ys
times_append k [] ys = omega arith
times_append k (x ∷ xs) ys = let s = times_append k xs ys in omega arith

pub late_append : (n : ℕ) (xs ys : List ℕ) → late n (xs ++ ys) ≡ late n xs + late n ys
late_append n [] ys = omega arith
late_append n (x ∷ xs) ys = let s = late_append n xs ys in omega arith

pub same_here : (k : ℕ) → is_same k k ≡ 1
same_here k = omega arith

late_here : (n x : ℕ) (xs : List ℕ) → Dec (n ≤ x) → 0 < late n (x ∷ xs) → (0 < late n xs → (k : ℕ) × (n ≤ k) × (0 < times k xs)) → (k : ℕ) × (n ≤ k) × (0 < times k (x ∷ xs))
late_here n x xs (yes d) h go = let s = same_here x in (x, d, omega arith)
late_here n x xs (no d) h go = let l = lt_of_not-le d in let r = go (omega arith) in (r.0, r.1, (let t = r.2 in omega arith))

-- where some number of the list is n or more, there is one
pub late_one : (n : ℕ) (xs : List ℕ) → 0 < late n xs → (k : ℕ) × (n ≤ k) × (0 < times k xs)
late_one n [] h = absurd (omega arith)
late_one n (x ∷ xs) h = late_here n x xs (dec_le n x) h (λ g. late_one n xs g)

pub late_none : (n : ℕ) (xs : List ℕ) (k : ℕ) → late n xs ≡ 0 → 0 < times k xs → k < n
late_none n [] k e h = absurd (omega arith)
late_none n (x ∷ xs) k e h = late_step (dec_le 1 (times k xs)) (λ t. late_none n xs k (omega arith) t)
  where
    late_step : Dec (1 ≤ times k xs) → (0 < times k xs → k < n) → k < n
    late_step (yes d) go = go (omega arith)
    late_step (no d) go = let l = lt_of_not-le d in omega arith

pub below_next : (k n : ℕ) → is_below k n + is_same k n ≡ is_below k (n + 1)
below_next k n = omega arith

-- a cell that stands in a list, its place among their places
pub place_there : (given : List CellDone) (j : ℕ) (done : CellDone) → slice_get given j ≡ Some done → 0 < times done.place (map (λ (d : CellDone). d.place) given)
place_there [] j done e = absurd cc
place_there (x ∷ xs) zero done e = let s : x.place ≡ done.place = ap (λ (d : CellDone). d.place) (some_from (e)) in let t = same_here done.place in omega arith
place_there (x ∷ xs) (suc j) done e = let s = place_there xs j done e in omega arith

pub get_snoc : {A : Type 0} (xs : List A) (x : A) (j : ℕ) (y : A) → slice_get (xs ++ x ∷ []) j ≡ Some y → (slice_get xs j ≡ Some y) ⊎ (x ≡ y)
get_snoc [] x zero y e = inr (some_from (e))
get_snoc [] x (suc j) y e = absurd cc
get_snoc (z ∷ zs) x zero y e = inl e
get_snoc (z ∷ zs) x (suc j) y e = get_snoc zs x j y e

pub get_append : {A : Type 0} (xs ys : List A) (j : ℕ) (y : A) → slice_get (xs ++ ys) j ≡ Some y → ((i : ℕ) × (slice_get xs i ≡ Some y)) ⊎ ((i : ℕ) × (slice_get ys i ≡ Some y))
get_append [] ys j y e = inr (j, e)
get_append (x ∷ xs) ys zero y e = inl (zero, e)
get_append (x ∷ xs) ys (suc j) y e = ⊎_elim (λ t. inl (suc t.0, t.1)) (λ t. inr t) (get_append xs ys j y e)
