-- Costs and gains are small.
use Rattle.std.proofs.Common.{◌≡◌, ℕ, zero, suc, ◌+◌, ◌-◌, ◌*◌, ◌^◌, ◌<◌, ◌≤◌, ℤ, pos, negsuc, ◌-ℤ◌, ◌*ℤ◌, ◌≤ℤ◌, ◌<ℤ◌, ◌+ℤ◌, add-one, refl, ◌∙◌, true, false, List, [], ◌∷◌, length, get_or, drop, ap, All, arith, sum}
use Rattle.std.specs.Int.RustNames.{unsigned_abs, FitsSigned}
use mir.Syntax.{w64, w128}
use lib.Signed.{le_z}
use mir.Val.{to_z, of_z}
use Rattle.std.specs.List.{sum_by}
use Rattle.std.proofs.Math.IntN.{suc_ℤ-*ℤ, zero-*ℤ}
use Rattle.std.proofs.Math.Nat.{mul-le-mul_left, suc-mul, zero-mul}
use Rattle.std.proofs.lemmas.Int.{ints, unsigned_abs-mul, fits_signed_from_abs, to_z-of_z}
use Rattle.std.proofs.lemmas.List.Sums.{sum_by-cons, sum_by-drop_more}
use Rattle.std.proofs.lemmas.List.Elements.{All-head, All-tail}
use Rattle.fixed_log.specs.Log.{lg, LogIsSmall}
use Rattle.fixed_log.specs.Growth.{log_product, growth}
use Rattle.degrees.specs.Sums.{total_by}
use Rattle.degrees.specs.Cost.{part}
use Rattle.exchange.specs.Gain.{term_gain}
use Rattle.exchange.specs.Tries.{IsWithin}
use Rattle.exchange.proofs.Totals.{IsRowFrom}

within_from_abs : (z : ℤ) (m : ℕ) → unsigned_abs z ≤ m → IsWithin m z
within_from_abs (pos n) m small = record { low = omega (arith, ints); high = omega (arith, ints) }
within_from_abs (negsuc n) m small = record { low = omega (arith, ints); high = omega (arith, ints) }

abs_from_within : (z : ℤ) (m : ℕ) → IsWithin m z → unsigned_abs z ≤ m
abs_from_within (pos n) m is = omega (arith, ints)
abs_from_within (negsuc n) m is = omega (arith, ints)

pub times : (d m : ℕ) (z : ℤ) → IsWithin m z → IsWithin (d * m) (pos d *ℤ z)
times d m z is =
    within_from_abs (pos d *ℤ z) (d * m) (omega (arith, unsigned_abs-mul (pos d) z, mul-le-mul_left d (abs_from_within z m is)))

pub fits : (m : ℕ) (z : ℤ) → m < 2 ^ 63 → IsWithin m z → FitsSigned w64 z
fits m z small is = fits_signed_from_abs w64 z (omega (arith, abs_from_within z m is))

-- a number as 64 bits read it back
pub read_back : (m : ℕ) (z : ℤ) → m < 2 ^ 63 → IsWithin m z → to_z w64 (of_z w64 z) ≡ z
read_back m z small is = to_z-of_z w64 z (fits m z small is)

pub fits_wide : (m : ℕ) (z : ℤ) → m < 2 ^ 127 → IsWithin m z → FitsSigned w128 z
fits_wide m z small is = fits_signed_from_abs w128 z (omega (arith, abs_from_within z m is))

pub read_back_wide : (m : ℕ) (z : ℤ) → m < 2 ^ 127 → IsWithin m z → to_z w128 (of_z w128 z) ≡ z
read_back_wide m z small is = to_z-of_z w128 z (fits_wide m z small is)

pub part_small : LogIsSmall → (d n : ℕ) → 0 < n → n < 2 ^ 33 → d + 1 < 2 ^ 33 → IsWithin (d * 4194304) (part d n)
unfolding part
part_small logs d n some low count =
    let one = logs n some low in
    let other = logs (d + 1) (omega arith) count in
    times d 4194304 (pos (lg n) -ℤ pos (lg (d + 1))) (record { low = omega (arith, ints); high = omega (arith, ints) })

pub term_gain_small : LogIsSmall → (m n a b : ℕ) → 0 < m → m < 2 ^ 32 → 0 < n → n < 2 ^ 32 → 0 < a → a + b < 2 ^ 32 → IsWithin ((a + b) * 8388608) (term_gain m n a b)
unfolding term_gain
term_gain_small logs m n a b some_m low_m some_n low_n some low =
    let one = part_small logs a m some_m (omega arith) (omega arith) in
    let two = part_small logs b n some_n (omega arith) (omega arith) in
    let three = part_small logs (a - 1) m some_m (omega arith) (omega arith) in
    let four = part_small logs (b + 1) n some_n (omega arith) (omega arith) in
    record { low = omega (arith, ints, one.low, one.high, two.low, two.high, three.low, three.high, four.low, four.high); high = omega (arith, ints, one.low, one.high, two.low, two.high, three.low, three.high, four.low, four.high) }

-- ---- the counts of a row's terms are not more than all counts

falls : (xs : List ℕ) (k t : ℕ) → k ≤ t → t ≤ length xs → sum (drop t xs) ≤ sum (drop k xs)
falls [] zero zero order within = omega arith
falls [] (suc k) zero order within = absurd (omega (arith, order))
falls [] k (suc t) order within = absurd (omega (arith, within))
falls (x ∷ xs) zero zero order within = omega arith
falls (x ∷ xs) zero (suc t) order within = omega (arith, falls xs zero t (omega arith) (omega (arith, within)), sum_by-cons (λ (y : ℕ). y) x xs)
falls (x ∷ xs) (suc k) zero order within = absurd (omega (arith, order))
falls (x ∷ xs) (suc k) (suc t) order within = falls xs k t (omega (arith, order)) (omega (arith, within))

row_sum : (xs : List ℕ) (from : ℕ) (row : List ℕ) → IsRowFrom from row → All (λ t. t < length xs) row → sum_by (λ t. get_or xs t 0) row ≤ sum (drop from xs)
row_sum xs from [] is below = omega arith
row_sum xs from (t ∷ row) is below =
    let within = All-head (λ u. u < length xs) t row below in
    let rest = row_sum xs (t + 1) row is.1 (All-tail (λ u. u < length xs) t row below) in
    let here = sum_by-drop_more (λ (y : ℕ). y) xs t 0 within in
    let low = falls xs from t is.0 (omega (arith, within)) in
    omega (arith, sum_by-cons (λ (u : ℕ). get_or xs u 0) t row)

pub row_sum_small : (xs : List ℕ) (row : List ℕ) → IsRowFrom 0 row → All (λ t. t < length xs) row → sum_by (λ t. get_or xs t 0) row ≤ sum xs
row_sum_small xs row is below = row_sum xs 0 row is below

-- ---- sums of many

pub total_small : {X : Type 0} (f : X → ℤ) (m : ℕ) (xs : List X) → All (λ x. IsWithin m (f x)) xs → IsWithin (length xs * m) (total_by f xs)
unfolding total_by
total_small f m [] small = record { low = omega (arith, ints); high = omega (arith, ints) }
total_small f m (x ∷ xs) small =
    let head = All-head (λ y. IsWithin m (f y)) x xs small in
    let rest = total_small f m xs (All-tail (λ y. IsWithin m (f y)) x xs small) in
    record { low = omega (arith, ints, head.low, rest.low); high = omega (arith, ints, head.high, rest.high) }

-- ---- by growths

times_apart : (d x y : ℕ) → pos d *ℤ (pos x -ℤ pos y) ≡ pos (d * x) -ℤ pos (d * y)
times_apart zero x y =
    let none : pos 0 *ℤ (pos x -ℤ pos y) ≡ pos 0 = zero-*ℤ (pos x -ℤ pos y) in
    omega (arith, ints, none, zero-mul x, zero-mul y)
times_apart (suc d) x y =
    let rest : pos d *ℤ (pos x -ℤ pos y) ≡ pos (d * x) -ℤ pos (d * y) = times_apart d x y in
    let step : pos (suc d) *ℤ (pos x -ℤ pos y) ≡ pos d *ℤ (pos x -ℤ pos y) +ℤ (pos x -ℤ pos y) = suc_ℤ-*ℤ (pos d) (pos x -ℤ pos y) in
    step ∙ omega (arith, ints, rest, suc-mul d x, suc-mul d y)

part_by_product : (d n : ℕ) → part d n ≡ pos (d * lg n) -ℤ pos (log_product d)
unfolding part log_product
part_by_product d n = times_apart d (lg n) (lg (d + 1))

growth_by_products : (d : ℕ) → growth d ≡ pos (log_product d) -ℤ pos (log_product (d - 1))
unfolding growth
growth_by_products d = refl

-- one document less in a half, and one more in the other
pub term_gain_by_growths : (m n own other : ℕ) → 0 < own → term_gain m n own other ≡ ((pos (lg m) -ℤ pos (lg n)) +ℤ growth (other + 1)) -ℤ growth own
unfolding term_gain
term_gain_by_growths m n zero other some = absurd (omega (arith, some))
term_gain_by_growths m n (suc less) other some =
    let same : suc less - 1 ≡ less = omega arith in
    let back : other + 1 - 1 ≡ other = omega arith in
    let one = part_by_product (suc less) m in
    let two = part_by_product other n in
    let three : part (suc less - 1) m ≡ pos (less * lg m) -ℤ pos (log_product less) = ap (λ (k : ℕ). part k m) same ∙ part_by_product less m in
    let four = part_by_product (other + 1) n in
    let grown = growth_by_products (other + 1) in
    let grown_back : log_product (other + 1 - 1) ≡ log_product other = ap log_product back in
    let shrunk = growth_by_products (suc less) in
    let shrunk_back : log_product (suc less - 1) ≡ log_product less = ap log_product same in
    omega (arith, ints, one, two, three, four, grown, grown_back, shrunk, shrunk_back, suc-mul less (lg m), suc-mul other (lg n), add-one other)

-- ---- tests

pub le_from_test : (x y : ℤ) → le_z x y ≡ true → x ≤ℤ y
le_from_test x y test = grind (arith, ints)

pub lt_from_test : (x y : ℤ) → le_z x y ≡ false → y <ℤ x
lt_from_test x y test = grind (arith, ints)
