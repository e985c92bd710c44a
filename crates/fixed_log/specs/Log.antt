-- The logarithm to base two in fixed point, with sixteen fractional bits, of the numbers from 1 to
-- 2^33 - 1.
use Rattle.std.specs.Prelude.{◌≡◌, ℕ, zero, suc, ◌+◌, ◌*◌, ◌/◌, ◌^◌, ◌<◌, ◌≤◌, if◌then◌else◌, nat_lt}

-- how often x can be halved, at most so often, until it is below 2
unfoldable pub halvings : ℕ → ℕ → ℕ
halvings zero x = 0
halvings (suc most) x = if nat_lt x 2 then 0 else halvings most (x / 2) + 1

-- the e with 2^e ≤ x < 2^(e+1)
unfoldable pub exponent : ℕ → ℕ
exponent x = halvings 33 x

-- m is a number of [1, 2) times 2^62; its square is one of [1, 4) times 2^62
unfoldable pub square : ℕ → ℕ
square m = m * m / 2 ^ 62

-- the next bit of the logarithm of m, and the m after it
unfoldable pub next_bit : ℕ → ℕ
next_bit m = if nat_lt (square m) (2 ^ 63) then 0 else 1

unfoldable pub next : ℕ → ℕ
next m = if nat_lt (square m) (2 ^ 63) then square m else square m / 2

-- the number that so many bits form, the first bit being the highest
unfoldable pub fraction : ℕ → ℕ → ℕ
fraction zero m = 0
fraction (suc bits) m = next_bit m * 2 ^ bits + fraction bits (next m)

unfoldable pub lg : ℕ → ℕ
lg x = exponent x * 65536 + fraction 16 (x * 2 ^ 62 / 2 ^ exponent x)

-- l is the logarithm of x to base two, times 65536 and rounded down, but for a part of 2^-28:
-- 2^l ≤ x^65536 < about 2^(l+1)
pub record IsLog (x l : ℕ) : Type 0 where
  pub below : 2 ^ l ≤ x ^ 65536
  pub above : x ^ 65536 * 2 ^ 28 ≤ 2 ^ (l + 1) * (2 ^ 28 + 1)

-- the exponent is that of the greatest power of two that is not above x
abbrev pub ExponentIsGreatest : Type 0
ExponentIsGreatest = (x : ℕ) → 0 < x → x < 2 ^ 33
    → (2 ^ exponent x ≤ x) × (x < 2 ^ (exponent x + 1))

abbrev pub LogIsLog : Type 0
LogIsLog = (x : ℕ) → 0 < x → x < 2 ^ 33 → IsLog x (lg x)

abbrev pub LogNeverFalls : Type 0
LogNeverFalls = (x y : ℕ) → 0 < x → x ≤ y → y < 2 ^ 33 → lg x ≤ lg y

abbrev pub LogOfPower : Type 0
LogOfPower = (k : ℕ) → k < 33 → lg (2 ^ k) ≡ k * 65536

abbrev pub LogIsSmall : Type 0
LogIsSmall = (x : ℕ) → 0 < x → x < 2 ^ 33 → lg x < 2 ^ 22
