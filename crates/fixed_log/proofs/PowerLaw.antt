-- The power law: the steps keep the power of x between powers of two.
use Rattle.std.proofs.Common.{◌≡◌, ℕ, zero, suc, ◌+◌, ◌*◌, ◌/◌, ◌^◌, ◌<◌, ◌≤◌, Bool, true, false, cond, ltb, refl, sym, ◌∙◌, ap, subst, arith, add-one}
use Rattle.std.proofs.Math.Nat.{pow-suc, pow-zero, one-mul, one-le-pow, mul-le-mul, mul-le-mul_left}
use Rattle.std.proofs.lemmas.Nat.{pow-add, mul-pow}
use borrow.Author.Tests.{ltb-true, ltb-false}
use Rattle.fixed_log.specs.Log.{square, next_bit, next, fraction, IsLog}
use Rattle.fixed_log.proofs.Step.{Bracket, IsSquare, Bracket-low_square, Bracket-high_square}

pub IsSquare-square : (m : ℕ) → IsSquare (2 ^ 62) m (square m)
unfolding square
IsSquare-square m = record { under = omega arith; over = omega arith }

-- what holds on either side of a test holds of the chosen bit and number
chosen : (P : ℕ → ℕ → Type 0) (b : Bool) (q h : ℕ) → (b ≡ true → P 0 q) → (b ≡ false → P 1 h) → P (cond b 0 1) (cond b q h)
chosen P true q h then_holds else_holds = then_holds refl
chosen P false q h then_holds else_holds = else_holds refl

twice_exponent : (k : ℕ) → 2 ^ k * 2 ^ k ≡ 2 ^ (2 * k + 0)
twice_exponent k =
    let e : k + k ≡ 2 * k + 0 = omega arith in
    sym (pow-add 2 k k) ∙ ap (λ n. 2 ^ n) e

twice_exponent_more : (k : ℕ) → 2 * (2 ^ k * 2 ^ k) ≡ 2 ^ (2 * k + 1)
twice_exponent_more k =
    let e : suc (k + k) ≡ 2 * k + 1 = omega arith in
    let doubled : 2 * (2 ^ k * 2 ^ k) ≡ 2 ^ suc (k + k) = omega (arith, pow-suc 2 (k + k), pow-add 2 k k) in
    doubled ∙ ap (λ n. 2 ^ n) e

Bracket-next : (k m slack s : ℕ) → slack * slack ≤ 2 ^ 62 → Bracket (2 ^ 62) (2 ^ k) m slack s → Bracket (2 ^ 62) (2 ^ (2 * k + next_bit m)) (next m) (4 * slack + 2) (s * s)
unfolding next_bit next
Bracket-next k m slack s tiny b =
    let P : ℕ → ℕ → Type 0 = λ bit n. Bracket (2 ^ 62) (2 ^ (2 * k + bit)) n (4 * slack + 2) (s * s) in
    let one_positive : 0 < 2 ^ 62 = omega arith in
    chosen P (ltb (square m) (2 ^ 63)) (square m) (square m / 2)
    (λ small. let less : square m < 2 * 2 ^ 62 = ltb-true (square m) (2 ^ 63) small in subst (λ p. Bracket (2 ^ 62) p (square m) (4 * slack + 2) (s * s)) (twice_exponent k) (Bracket-low_square (2 ^ 62) (2 ^ k) m slack s (square m) one_positive tiny (IsSquare-square m) less b))
    (λ large. let more : 2 * 2 ^ 62 ≤ square m = ltb-false (square m) (2 ^ 63) large in subst (λ p. Bracket (2 ^ 62) p (square m / 2) (4 * slack + 2) (s * s)) (twice_exponent_more k) (Bracket-high_square (2 ^ 62) (2 ^ k) m slack s (square m) one_positive tiny (IsSquare-square m) more b))

-- a bracket after all bits: l is the exponent so far, p the power
pub record IsReached (l p : ℕ) : Type 0 where
  pub rest : ℕ
  pub bracket : Bracket (2 ^ 62) (2 ^ l) rest (2 ^ 32) p

IsReached-now : (k m slack s : ℕ) → slack + 1 ≤ 2 ^ 32 → Bracket (2 ^ 62) (2 ^ k) m slack s → IsReached k s
IsReached-now k m slack s bound b =
    let wider : 2 ^ k * (m + slack) ≤ 2 ^ k * (m + 2 ^ 32) = mul-le-mul_left (2 ^ k) (omega arith) in
    record {
      rest = m;
      bracket = record { low = b.low; high = b.high; below = b.below; above = omega (arith, b.above) };
    }

IsReached-along : (k l s p : ℕ) → k ≡ l → s ≡ p → IsReached k s → IsReached l p
IsReached-along k l s p same_exponent same_power r = subst (λ n. IsReached n p) same_exponent (subst (λ n. IsReached k n) same_power r)

slack_is_tiny : (slack fours : ℕ) → 0 < fours → (slack + 1) * (fours * 4) ≤ 2 ^ 32 → slack * slack ≤ 2 ^ 62
slack_is_tiny slack fours positive bound =
    let fewer : (slack + 1) * 4 ≤ (slack + 1) * (fours * 4) = mul-le-mul_left (slack + 1) (omega arith) in
    let squares : slack * slack ≤ 2 ^ 30 * 2 ^ 30 = mul-le-mul {n₂ = 2 ^ 30} {m₂ = 2 ^ 30} (omega arith) (omega arith) in
    omega arith

same_exponent : (k bit f bits : ℕ) → (2 * k + bit) * 2 ^ bits + f ≡ k * 2 ^ suc bits + (bit * 2 ^ bits + f)
same_exponent k bit f bits =
    let by_power : (p : ℕ) → (2 * k + bit) * p + f ≡ k * (p * 2) + (bit * p + f) = λ p. omega arith in
    by_power (2 ^ bits) ∙ ap (λ n. k * n + (bit * 2 ^ bits + f)) (sym (pow-suc 2 bits))

same_power : (s bits : ℕ) → (s * s) ^ (2 ^ bits) ≡ s ^ (2 ^ suc bits)
same_power s bits =
    let e : 2 ^ bits + 2 ^ bits ≡ 2 ^ suc bits = omega (arith, pow-suc 2 bits) in
    mul-pow s s (2 ^ bits) ∙ sym (pow-add s (2 ^ bits) (2 ^ bits)) ∙ ap (λ n. s ^ n) e

one-power : (s : ℕ) → s ^ 1 ≡ s
one-power s = pow-suc s 0 ∙ ap (λ n. n * s) (pow-zero s) ∙ one-mul s

-- so many more bits
pub IsReached-bits : (bits k m slack s : ℕ) → (slack + 1) * 4 ^ bits ≤ 2 ^ 32 → Bracket (2 ^ 62) (2 ^ k) m slack s → IsReached (k * 2 ^ bits + fraction bits m) (s ^ (2 ^ bits))
unfolding fraction
IsReached-bits zero k m slack s bound b = IsReached-along k (k * 1 + 0) s (s ^ 1) (omega arith) (sym (one-power s)) (IsReached-now k m slack s (omega arith) b)
IsReached-bits (suc bits) k m slack s bound b =
    let fours : (slack + 1) * (4 ^ bits * 4) ≤ 2 ^ 32 = rw (pow-suc 4 bits) at bound in
    let positive : 0 < 4 ^ bits = one-le-pow bits 4 (omega arith) in
    let rest = IsReached-bits bits (2 * k + next_bit m) (next m) (4 * slack + 2) (s * s) (omega arith) (Bracket-next k m slack s (slack_is_tiny slack (4 ^ bits) positive fours) b) in
    IsReached-along _ _ _ _ (same_exponent k (next_bit m) (fraction bits (next m)) bits) (same_power s bits) rest

-- the bracket in the law's own words, over any power
IsLog-from_power : (x l p : ℕ) → x ^ 65536 ≡ p → IsReached l p → IsLog x l
IsLog-from_power x l p is r =
    let b = r.bracket in
    let least : 2 ^ l * 2 ^ 62 ≤ 2 ^ l * r.rest = mul-le-mul_left (2 ^ l) b.low in
    let most : 2 ^ l * (r.rest + 2 ^ 32) ≤ 2 ^ l * (2 ^ 63 + 2 ^ 32) = mul-le-mul_left (2 ^ l) (omega (arith, b.high)) in
    let below : 2 ^ l ≤ p = omega (arith, b.below) in
    let above : p * 2 ^ 28 ≤ (2 ^ l * 2) * (2 ^ 28 + 1) = omega (arith, b.above) in
    record {
      below = subst (λ n. 2 ^ l ≤ n) (sym is) below;
      above = subst (λ n. n * 2 ^ 28 ≤ 2 ^ (l + 1) * (2 ^ 28 + 1)) (sym is) (subst (λ n. p * 2 ^ 28 ≤ n * (2 ^ 28 + 1)) (sym (pow-suc 2 l) ∙ ap (λ n. 2 ^ n) (sym (add-one l))) above);
    }

pub IsLog-from_reached : (x l : ℕ) → IsReached l (x ^ 65536) → IsLog x l
IsLog-from_reached x l r = IsLog-from_power x l (x ^ 65536) refl r
