-- The code's shifts compute the bits of the logarithm.
use Rattle.std.proofs.Common.{◌≡◌, ℕ, zero, suc, ◌+◌, ◌-◌, ◌*◌, ◌/◌, ◌%◌, ◌^◌, ◌<◌, ◌≤◌, cond, sym, ◌∙◌, ap, subst, ⊎_elim, arith, add-one}
use Rattle.std.proofs.Math.Nat.{pow-suc, mul-le-mul, pow-le-pow_right, mod-eq_of_lt}
use Rattle.std.proofs.lemmas.Bool.{cases_lt}
use borrow.Author.Tests.{lt-ltb, le-ltb}
use Rattle.fixed_log.specs.Log.{square, next_bit, next, fraction, lg, exponent}
use Rattle.fixed_log.proofs.Step.{square_low, square_high}
use Rattle.fixed_log.proofs.PowerLaw.{IsSquare-square}
use Rattle.fixed_log.proofs.Exponent.{IsExponent, IsExponent-exponent, same_from_exponents, exponent_le, start_shifted, Bracket-start}
use Rattle.fixed_log.proofs.LogLaws.{next_bit_le_one, log_is_small}

next_bit-small : (m : ℕ) → square m < 2 ^ 63 → next_bit m ≡ 0
unfolding next_bit
next_bit-small m small = ap (λ b. cond b 0 1) (lt-ltb (square m) (2 ^ 63) small)

next-small : (m : ℕ) → square m < 2 ^ 63 → next m ≡ square m
unfolding next
next-small m small = ap (λ b. cond b (square m) (square m / 2)) (lt-ltb (square m) (2 ^ 63) small)

next_bit-large : (m : ℕ) → 2 ^ 63 ≤ square m → next_bit m ≡ 1
unfolding next_bit
next_bit-large m large = ap (λ b. cond b 0 1) (le-ltb (square m) (2 ^ 63) large)

next-large : (m : ℕ) → 2 ^ 63 ≤ square m → next m ≡ square m / 2
unfolding next
next-large m large = ap (λ b. cond b (square m) (square m / 2)) (le-ltb (square m) (2 ^ 63) large)

-- what the shifts of the square q of m make
pub record IsStep (m q : ℕ) : Type 0 where
  pub bit : q / 2 ^ 63 ≡ next_bit m
  pub rest : q / 2 ^ (q / 2 ^ 63) ≡ next m
  pub low : 2 ^ 62 ≤ next m
  pub high : next m < 2 ^ 63

IsStep-small : (m : ℕ) → 2 ^ 62 ≤ square m → square m < 2 ^ 63 → IsStep m (square m)
IsStep-small m low small =
    let bit : square m / 2 ^ 63 ≡ 0 = omega arith in
    let rest : square m / 2 ^ 0 ≡ square m = omega arith in
    let next_is = next-small m small in
    record {
      bit = bit ∙ sym (next_bit-small m small);
      rest = ap (λ n. square m / 2 ^ n) bit ∙ rest ∙ sym next_is;
      low = omega arith;
      high = omega arith;
    }

IsStep-large : (m : ℕ) → square m < 2 ^ 64 → 2 ^ 63 ≤ square m → IsStep m (square m)
IsStep-large m high large =
    let bit : square m / 2 ^ 63 ≡ 1 = omega arith in
    let next_is = next-large m large in
    record {
      bit = bit ∙ sym (next_bit-large m large);
      rest = ap (λ n. square m / 2 ^ n) bit ∙ sym next_is;
      low = omega arith;
      high = omega arith;
    }

IsStep-square : (m : ℕ) → 2 ^ 62 ≤ m → m < 2 ^ 63 → IsStep m (square m)
IsStep-square m low high =
    let least : 2 ^ 62 ≤ square m = square_low (2 ^ 62) m (square m) (omega arith) low (IsSquare-square m) in
    let most : square m < 4 * 2 ^ 62 = square_high (2 ^ 62) m (square m) (omega arith) high (IsSquare-square m) in
    ⊎_elim (IsStep-small m least) (IsStep-large m most) (cases_lt (square m) (2 ^ 63))

pub IsStep-shifts : (m q : ℕ) → 2 ^ 62 ≤ m → m < 2 ^ 63 → q ≡ square m → IsStep m q
IsStep-shifts m q low high is = subst (IsStep m) (sym is) (IsStep-square m low high)

fraction-more : (place m : ℕ) → 0 < place → fraction place m ≡ next_bit m * 2 ^ (place - 1) + fraction (place - 1) (next m)
unfolding fraction
fraction-more zero m some = absurd (omega arith)
fraction-more (suc place) m some =
    let e : place ≡ suc place - 1 = omega arith in
    ap (λ n. next_bit m * 2 ^ n + fraction n (next m)) e

-- a bit at its place is not cut off
bit_at_place : (bit place : ℕ) → bit ≤ 1 → place ≤ 16 → bit * 2 ^ place % 2 ^ 32 ≡ bit * 2 ^ place
bit_at_place bit place small low =
    let power : 2 ^ place ≤ 2 ^ 16 = pow-le-pow_right {n = 2} (omega arith) low in
    let fits : bit * 2 ^ place ≤ 1 * 2 ^ 16 = mul-le-mul small power in
    mod-eq_of_lt (omega arith)

-- one more bit, and those after it
pub bits_more : (log place m q l : ℕ) → IsStep m q → 0 < place → place ≤ 16 → log + fraction place m ≡ l → log + q / 2 ^ 63 * 2 ^ (place - 1) % 2 ^ 32 + fraction (place - 1) (q / 2 ^ (q / 2 ^ 63)) ≡ l
bits_more log place m q l step some most bits =
    let kept = bit_at_place (next_bit m) (place - 1) (next_bit_le_one m) (omega arith) in
    rw (step.rest, step.bit, kept) (omega (arith, fraction-more place m some))

-- what the code begins with: the exponent e and the shifted m
pub record IsStart (x e m : ℕ) : Type 0 where
  pub low : 2 ^ 62 ≤ m
  pub high : m < 2 ^ 63
  pub bits : e * 65536 % 2 ^ 32 + fraction 16 m ≡ lg x

IsExponent-twice : (x e : ℕ) → 2 ^ e ≤ x → x < 2 * 2 ^ e → IsExponent x e
IsExponent-twice x e below above =
    let double : 2 ^ (e + 1) ≡ 2 ^ e * 2 = ap (λ n. 2 ^ n) (add-one e) ∙ pow-suc 2 e in
    record { below = below; above = omega arith }

lg-by_exponent : (x e : ℕ) → exponent x ≡ e → lg x ≡ e * 65536 + fraction 16 (x * 2 ^ 62 / 2 ^ e)
unfolding lg
lg-by_exponent x e is = ap (λ n. n * 65536 + fraction 16 (x * 2 ^ 62 / 2 ^ n)) is

pub IsStart-shifted : (x e : ℕ) → 0 < x → x < 2 ^ 33 → 2 ^ e ≤ x → x < 2 * 2 ^ e → IsStart x e (x * 2 ^ (62 - e) % 2 ^ 64)
IsStart-shifted x e some most below above =
    let found : IsExponent x e = IsExponent-twice x e below above in
    let small : e ≤ 32 = exponent_le x e most found in
    let bracket = Bracket-start x e (omega arith) found in
    let same : exponent x ≡ e = same_from_exponents x (exponent x) e (IsExponent-exponent x some most) found in
    let whole : x * 2 ^ 62 / 2 ^ e ≡ x * 2 ^ (62 - e) = start_shifted x e (omega arith) in
    let kept : x * 2 ^ (62 - e) % 2 ^ 64 ≡ x * 2 ^ (62 - e) = mod-eq_of_lt (omega (arith, bracket.high)) in
    let is : x * 2 ^ 62 / 2 ^ e ≡ x * 2 ^ (62 - e) % 2 ^ 64 = whole ∙ sym kept in
    let exponent_kept : e * 65536 % 2 ^ 32 ≡ e * 65536 = mod-eq_of_lt (omega arith) in
    record {
      low = omega (arith, bracket.low);
      high = omega (arith, bracket.high);
      bits = ap (λ n. n + fraction 16 (x * 2 ^ (62 - e) % 2 ^ 64)) exponent_kept ∙ sym (ap (λ n. e * 65536 + fraction 16 n) is) ∙ sym (lg-by_exponent x e same);
    }

-- the sum fits: a logarithm is small, and no bit is taken away from it
pub bit_fits : (log place m q x : ℕ) → IsStep m q → 0 < x → x < 2 ^ 33 → 0 < place → place ≤ 16 → log + fraction place m ≡ lg x → log + q / 2 ^ 63 * 2 ^ (place - 1) % 2 ^ 32 < 2 ^ 32
bit_fits log place m q x step some_x most_x some most bits =
    omega (arith, bits_more log place m q (lg x) step some most bits, log_is_small x some_x most_x)

-- with no bits to come, the bits so far are all
pub all_bits : (log place m l : ℕ) → place ≤ 0 → log + fraction place m ≡ l → log ≡ l
unfolding fraction
all_bits log zero m l none bits = omega arith
all_bits log (suc place) m l none bits = absurd (omega arith)
