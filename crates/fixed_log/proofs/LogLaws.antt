-- The laws of the logarithm.
use Rattle.std.proofs.Common.{◌≡◌, ℕ, zero, suc, ◌+◌, ◌*◌, ◌/◌, ◌^◌, ◌<◌, ◌≤◌, Bool, true, false, cond, ltb, refl, ◌∙◌, ap, subst, ⊎_elim, arith}
use Rattle.std.proofs.Math.Nat.{pow-suc, pow-zero, pow-le-pow_left, pow-le-pow_right, one-le-pow, mul-le-mul_right, mul-lt-mul_of_pos_left, mul-div_cancel_left}
use Rattle.std.proofs.lemmas.Nat.{pow_pos, pow_below}
use Rattle.std.proofs.lemmas.Bool.{cases_lt}
use Rattle.fixed_log.specs.Log.{lg, exponent, fraction, square, next_bit, next, ExponentIsGreatest, LogIsLog, LogNeverFalls, LogOfPower, LogIsSmall}
use Rattle.fixed_log.proofs.Exponent.{IsExponent, IsExponent-exponent, exponent_le, same_from_exponents, Bracket-start}
use Rattle.fixed_log.proofs.PowerLaw.{IsLog-from_reached, IsReached-bits}

pub exponent_is_greatest : ExponentIsGreatest
exponent_is_greatest x some most =
    let e = IsExponent-exponent x some most in
    (e.below, e.above)

pub log_is_log : LogIsLog
unfolding lg
log_is_log x some most =
    let e = IsExponent-exponent x some most in
    let small : exponent x ≤ 62 = omega (arith, exponent_le x (exponent x) most e) in
    IsLog-from_reached x _ (IsReached-bits 16 (exponent x) (x * 2 ^ 62 / 2 ^ exponent x) 0 x (omega arith) (Bracket-start x (exponent x) small e))

-- ---- the logarithm never falls

bernoulli_step : (n x a b : ℕ) → a * x + suc n * a ≤ b → a * x * x + suc (suc n) * (a * x) ≤ b * (x + 1)
bernoulli_step n x a b h =
    let scaled : (a * x + suc n * a) * (x + 1) ≤ b * (x + 1) = mul-le-mul_right (x + 1) h in
    omega arith

-- Bernoulli's inequality
bernoulli : (n x : ℕ) → x ^ n * x + suc n * x ^ n ≤ (x + 1) ^ suc n
bernoulli zero x = rw (pow-suc (x + 1) 0, pow-zero x, pow-zero (x + 1)) (omega arith)
bernoulli (suc n) x = rw (pow-suc (x + 1) (suc n), pow-suc x n) (bernoulli_step n x (x ^ n) ((x + 1) ^ suc n) (bernoulli n x))

-- powers of different numbers are further apart than the law allows for one logarithm
no_fall : (n x y a b : ℕ) → 0 < x → x < suc n * 2 ^ 28 → x < y → 2 ^ a ≤ x ^ suc n → y ^ suc n * 2 ^ 28 ≤ 2 ^ (b + 1) * (2 ^ 28 + 1) → b < a → ⊥
no_fall n x y a b some most more below above fall =
    let higher : 2 ^ (b + 1) ≤ 2 ^ a = pow-le-pow_right {n = 2} (omega arith) (omega arith) in
    let raised : (x + 1) ^ suc n ≤ y ^ suc n = pow-le-pow_left (omega arith) (suc n) in
    let positive : 0 < x ^ n = one-le-pow n x some in
    let room : x ^ n * x < x ^ n * (suc n * 2 ^ 28) = mul-lt-mul_of_pos_left most positive in
    let power : 2 ^ a ≤ x ^ n * x = rw pow-suc at below in
    omega (arith, bernoulli n x)

never_falls : (x y : ℕ) → 0 < x → x < y → y < 2 ^ 33 → lg x ≤ lg y
never_falls x y some more most =
    let low = log_is_log x some (omega arith) in
    let high = log_is_log y (omega arith) most in
    ⊎_elim (λ fall. absurd (no_fall 65535 x y (lg x) (lg y) some (omega arith) more low.below high.above fall)) (λ holds. holds) (cases_lt (lg y) (lg x))

pub log_never_falls : LogNeverFalls
log_never_falls x y some le most =
    ⊎_elim (λ more. never_falls x y some more most) (λ ge. let same : x ≡ y = omega arith in subst (λ n. lg x ≤ lg n) same (omega arith)) (cases_lt x y)

-- ---- powers of two

IsExponent-pow : (k : ℕ) → IsExponent (2 ^ k) k
IsExponent-pow k = record { below = omega arith; above = pow_below k (k + 1) (omega arith) }

lg_at : (x e m : ℕ) → exponent x ≡ e → x * 2 ^ 62 / 2 ^ e ≡ m → lg x ≡ e * 65536 + fraction 16 m
unfolding lg
lg_at x e m p q = ap (λ n. n * 65536 + fraction 16 (x * 2 ^ 62 / 2 ^ n)) p ∙ ap (λ n. e * 65536 + fraction 16 n) q

no_bits : fraction 16 (2 ^ 62) ≡ 0
unfolding fraction next_bit next square
no_bits = refl

pub log_of_power : LogOfPower
log_of_power k most =
    let e : exponent (2 ^ k) ≡ k = same_from_exponents (2 ^ k) _ k (IsExponent-exponent (2 ^ k) (pow_pos k) (pow_below k 33 most)) (IsExponent-pow k) in
    lg_at (2 ^ k) k (2 ^ 62) e (mul-div_cancel_left (2 ^ 62) (pow_pos k)) ∙ omega (arith, no_bits)

-- ---- the logarithm is small

cond_le_one : (b : Bool) → cond b 0 1 ≤ 1
cond_le_one true = omega arith
cond_le_one false = omega arith

pub next_bit_le_one : (m : ℕ) → next_bit m ≤ 1
unfolding next_bit
next_bit_le_one m = cond_le_one (ltb (square m) (2 ^ 63))

pub fraction_below : (bits m : ℕ) → fraction bits m < 2 ^ bits
unfolding fraction
fraction_below zero m = omega arith
fraction_below (suc bits) m =
    let bit : next_bit m * 2 ^ bits ≤ 1 * 2 ^ bits = mul-le-mul_right (2 ^ bits) (next_bit_le_one m) in
    omega (arith, fraction_below bits (next m), pow-suc 2 bits)

pub log_is_small : LogIsSmall
unfolding lg
log_is_small x some most =
    let e : exponent x ≤ 32 = exponent_le x (exponent x) most (IsExponent-exponent x some most) in
    omega (arith, fraction_below 16 (x * 2 ^ 62 / 2 ^ exponent x))
