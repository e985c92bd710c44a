-- Growths are small, and follow one another.
use Rattle.std.proofs.Common.{◌≡◌, ℕ, ◌+◌, ◌-◌, ◌*◌, ◌^◌, ◌<◌, ◌≤◌, ℤ, pos, ◌-ℤ◌, List, [], ◌∷◌, ◌++◌, length, get_or, inl, inr, refl, sym, subst, ap, arith}
use Rattle.std.proofs.Math.Nat.{mul-le-mul}
use Rattle.std.proofs.lemmas.Bool.{cases_lt}
use Rattle.std.proofs.lemmas.Int.{ints}
use Rattle.std.proofs.lemmas.List.{get_or_append_left, get_or_push}
use Rattle.fixed_log.specs.Log.{lg}
use Rattle.fixed_log.specs.Growth.{log_product, growth, GrowthIsSmall}
use Rattle.fixed_log.proofs.LogLaws.{log_is_small}

pub log_product-none : log_product 0 ≡ 0
unfolding log_product
log_product-none = omega arith

pub log_product-by_log : (count log : ℕ) → log ≡ lg (count + 1) → count * log ≡ log_product count
unfolding log_product
log_product-by_log count log is = ap (λ (l : ℕ). count * l) is

pub log_product_small : (count : ℕ) → count ≤ 2 ^ 31 → log_product count ≤ 2 ^ 53
unfolding log_product
log_product_small count few =
    let log : lg (count + 1) ≤ 2 ^ 22 = omega (arith, log_is_small (count + 1) (omega arith) (omega arith)) in
    let product : count * lg (count + 1) ≤ 2 ^ 31 * 2 ^ 22 = mul-le-mul few log in
    omega (arith, product)

pub growth-by_products : (count : ℕ) → growth count ≡ pos (log_product count) -ℤ pos (log_product (count - 1))
unfolding growth
growth-by_products count = refl

pub growth_is_small : GrowthIsSmall
growth_is_small count few =
    let is = growth-by_products count in
    let here = log_product_small count few in
    let before = log_product_small (count - 1) (omega arith) in
    (omega (arith, ints), omega (arith, ints))

-- what holds of each entry holds of them with one more
pub pushed : {X : Type 0} (P : ℕ → X → Type 0) (xs new : List X) (y d : X) (n : ℕ) → new ≡ xs ++ y ∷ [] → length xs ≡ n → ((i : ℕ) → i < n → P i (get_or xs i d)) → P n y
    → (i : ℕ) → i < n + 1 → P i (get_or new i d)
pushed {X = X} P xs new y d n is len before here i below =
    subst (λ (ys : List X). P i (get_or ys i d)) (sym is) (elim (cases_lt i n) [
      | inl early ↦ subst (P i) (sym (get_or_append_left xs (y ∷ []) d i (omega (arith, early, len)))) (before i early)
      | inr late ↦
          let at : i ≡ n = omega (arith, late, below) in
          subst (λ (k : ℕ). P k (get_or (xs ++ y ∷ []) k d)) (sym at) (subst (P n) (sym (get_or_push xs y d n len)) here)
    ])

-- one growth more
pub growth-next : (count : ℕ) (before product z : ℤ) → count ≤ 2 ^ 31 → before ≡ pos (log_product (count - 1)) → product ≡ pos (log_product count) → z ≡ product -ℤ before → z ≡ growth count
growth-next count before product z few was here is = omega (arith, ints, growth-by_products count)
