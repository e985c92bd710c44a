-- One step of the logarithm over plain numbers: s * one stays between k * m and k * (m + slack).
use Rattle.std.proofs.Common.{ℕ, ◌+◌, ◌*◌, ◌/◌, ◌<◌, ◌≤◌, arith}
use Rattle.std.proofs.Math.Nat.{mul-le-mul, le_of_mul-le-mul_right, lt_of_mul-lt-mul_right, mul-le-mul_left}
use Rattle.std.proofs.lemmas.Nat.{mul-lt}

-- the square of a number with slack, over `one`
pub square_above : (one m slack q : ℕ) → m * m ≤ (q + 1) * one → m ≤ 2 * one → slack * slack ≤ one → (m + slack) * (m + slack) ≤ (q + (4 * slack + 2)) * one
square_above one m slack q above small tiny =
    let cross : m * slack ≤ 2 * one * slack = mul-le-mul small (omega arith) in
    omega arith

pub squared_below : (one k m s q : ℕ) → 0 < one → q * one ≤ m * m → k * m ≤ s * one → k * k * q ≤ s * s * one
squared_below one k m s q positive under below =
    let squares : (k * m) * (k * m) ≤ (s * one) * (s * one) = mul-le-mul below below in
    let scaled : (k * k) * (q * one) ≤ (k * k) * (m * m) = mul-le-mul_left (k * k) under in
    le_of_mul-le-mul_right {m = k * k * q} {n = s * s * one} {k = one} (omega arith) positive

pub squared_above : (one k m slack s q : ℕ) → 0 < one → m * m ≤ (q + 1) * one → m ≤ 2 * one → slack * slack ≤ one → s * one ≤ k * (m + slack) → s * s * one ≤ k * k * (q + (4 * slack + 2))
squared_above one k m slack s q positive over small tiny above =
    let squares : (s * one) * (s * one) ≤ (k * (m + slack)) * (k * (m + slack)) = mul-le-mul above above in
    let scaled : (k * k) * ((m + slack) * (m + slack)) ≤ (k * k) * ((q + (4 * slack + 2)) * one) = mul-le-mul_left (k * k) (square_above one m slack q over small tiny) in
    le_of_mul-le-mul_right {m = s * s * one} {n = k * k * (q + (4 * slack + 2))} {k = one} (omega arith) positive

-- m is a number of [1, 2) times one, and s * one lies between k * m and k * (m + slack)
pub record Bracket (one k m slack s : ℕ) : Type 0 where
  pub low : one ≤ m
  pub high : m < 2 * one
  pub below : k * m ≤ s * one
  pub above : s * one ≤ k * (m + slack)

-- q is the square of m over `one`, rounded down
pub record IsSquare (one m q : ℕ) : Type 0 where
  pub under : q * one ≤ m * m
  pub over : m * m < (q + 1) * one

pub square_low : (one m q : ℕ) → 0 < one → one ≤ m → IsSquare one m q → one ≤ q
square_low one m q positive low s =
    let ones : one * one ≤ m * m = mul-le-mul low low in
    let less : one * one < (q + 1) * one = omega (arith, s.over) in
    omega (arith, lt_of_mul-lt-mul_right one {m = one} {n = q + 1} less)

pub square_high : (one m q : ℕ) → 0 < one → m < 2 * one → IsSquare one m q → q < 4 * one
square_high one m q positive high s =
    let ones : m * m < (2 * one) * (2 * one) = mul-lt m m (2 * one) (2 * one) high high in
    let less : q * one < (4 * one) * one = omega (arith, s.under) in
    lt_of_mul-lt-mul_right one {m = q} {n = 4 * one} less

pub Bracket-low_square : (one k m slack s q : ℕ) → 0 < one → slack * slack ≤ one → IsSquare one m q → q < 2 * one → Bracket one k m slack s → Bracket one (k * k) q (4 * slack + 2) (s * s)
Bracket-low_square one k m slack s q positive tiny square small b = record {
  low = square_low one m q positive b.low square;
  high = small;
  below = squared_below one k m s q positive square.under b.below;
  above = squared_above one k m slack s q positive (omega (arith, square.over)) (omega arith) tiny b.above;
}

pub Bracket-high_square : (one k m slack s q : ℕ) → 0 < one → slack * slack ≤ one → IsSquare one m q → 2 * one ≤ q → Bracket one k m slack s → Bracket one (2 * (k * k)) (q / 2) (4 * slack + 2) (s * s)
Bracket-high_square one k m slack s q positive tiny square large b =
    let limit : q < 4 * one = square_high one m q positive b.high square in
    let half : 2 * (q / 2) ≤ q = omega arith in
    let more : q + (4 * slack + 2) ≤ 2 * (q / 2 + (4 * slack + 2)) = omega arith in
    let below : k * k * q ≤ s * s * one = squared_below one k m s q positive square.under b.below in
    let above : s * s * one ≤ k * k * (q + (4 * slack + 2)) = squared_above one k m slack s q positive (omega (arith, square.over)) (omega arith) tiny b.above in
    let halved : (k * k) * (2 * (q / 2)) ≤ (k * k) * q = mul-le-mul_left (k * k) half in
    let widened : (k * k) * (q + (4 * slack + 2)) ≤ (k * k) * (2 * (q / 2 + (4 * slack + 2))) = mul-le-mul_left (k * k) more in
    record {
      low = omega arith;
      high = omega arith;
      below = omega arith;
      above = omega arith;
    }
