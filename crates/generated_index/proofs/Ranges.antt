-- Numbers in a row.
use Rattle.std.proofs.Common.{◌≡◌, ◌≢◌, ℕ, zero, suc, ◌+◌, ◌*◌, ◌/◌, ◌%◌, ◌<◌, ◌≤◌, Bool, true, false, cond, List, [], ◌∷◌, ◌++◌, length, map, nat_lt, refl, sym, ap, subst, ◌∙◌, arith, add-one, zero-add, add-zero}
use Rattle.std.specs.List.{range_with_len, filter}
use Rattle.std.proofs.Math.Nat.{add-mul-mod_self_right, div-add-mod, mul_comm}
use Rattle.std.proofs.Math.Dec.{eqb, leb}
use Rattle.std.proofs.lemmas.Bool.{cases_lt, eq-eqb}
use Rattle.std.proofs.lemmas.Bool.Decides.{nat_tests}

-- one number more
range_suc : (a n : ℕ) → range_with_len a (suc n) ≡ range_with_len a n ++ (a + n) ∷ []
range_suc a zero = ap (λ (k : ℕ). k ∷ []) (sym (add-zero a))
range_suc a (suc n) =
    let place : (a + 1) + n ≡ a + suc n = omega arith in
    ap (λ (rest : List ℕ). a ∷ rest) (range_suc (a + 1) n ∙ ap (λ (k : ℕ). range_with_len (a + 1) n ++ k ∷ []) place)

pub range_more : (n : ℕ) → range_with_len 0 (n + 1) ≡ range_with_len 0 n ++ n ∷ []
range_more n = ap (range_with_len 0) (add-one n) ∙ range_suc 0 n ∙ ap (λ (k : ℕ). range_with_len 0 n ++ k ∷ []) (zero-add n)

-- ---- tests

pub equal : (a b : ℕ) → a ≡ b → eqb a b ≡ true
equal a b same = eq-eqb a b same

pub unequal : (a b : ℕ) → a ≢ b → eqb a b ≡ false
unequal a b unlike = grind (arith, nat_tests)

pub below : (a b : ℕ) → a < b → nat_lt a b ≡ true
below a b h = grind (arith, nat_tests)

pub not_below : (a b : ℕ) → b ≤ a → nat_lt a b ≡ false
not_below a b h = grind (arith, nat_tests)

pub not_le : (a b : ℕ) → b < a → leb a b ≡ false
not_le a b h = grind (arith, nat_tests)

-- a remainder may be taken before a sum
pub add-mod_first : (a c m : ℕ) → (a % m + c) % m ≡ (a + c) % m
add-mod_first a c m =
    let whole : (a % m + c) + (a / m) * m ≡ a + c = omega (arith, div-add-mod a m, mul_comm m (a / m)) in
    sym (add-mul-mod_self_right (a % m + c) (a / m) m) ∙ ap (λ (n : ℕ). n % m) whole
