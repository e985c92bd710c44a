-- The groups of a number, one after another, and how many there are.
use Rattle.std.proofs.Common.{◌≡◌, ℕ, zero, suc, ◌+◌, ◌-◌, ◌*◌, ◌/◌, ◌%◌, ◌^◌, ◌<◌, ◌≤◌, List, [], ◌∷◌, ◌++◌, length, take, drop, set, min, inl, inr, sym, refl, ap, ◌∙◌, lit<, arith, bit_and, bit_or}
use Rattle.std.proofs.Math.Nat.{pow-suc, pow-le-pow_right, one-le-pow, mul-le-mul, mul-le-mul_right, div-mul-le_self}
use Rattle.std.proofs.lemmas.Nat.{or_shifted, and_mask, le-div, div_below, leading_top}
use Rattle.std.proofs.lemmas.Grind.{pow_more}
use Rattle.std.proofs.lemmas.Bool.{cases_lt}
use lib.Count.{count_leading_zeros}
use Rattle.std.proofs.lemmas.List.{append_assoc, take_more_set, drop-set-lt, drop-drop, length-take-le}
use Rattle.std.proofs.lemmas.Bool.Decides.{nat_tests}
use Rattle.ciff_wire.specs.Varint.{groups, varint}
use Rattle.ciff_wire.proofs.Varints.{pow_128}

pub groups-small : (room v : ℕ) → v < 128 → groups room v ≡ v ∷ []
unfolding groups
groups-small zero v h = refl
groups-small (suc room) v h = grind (arith, nat_tests)

pub groups-large : (room v : ℕ) → 128 ≤ v → groups (suc room) v ≡ (128 + v % 128) ∷ groups room (v / 128)
unfolding groups
groups-large room v h = grind (arith, nat_tests)

-- the last byte is written
pub put_last : (out : List ℕ) (used left : ℕ) → used < length out → left < 128 → used ≤ 9 → take (used + 1) (set out used left) ≡ take used out ++ groups (9 - used) left
put_last out used left inside small most =
    let e = groups-small (9 - used) left small in
    rw (take_more_set out used left inside, e) refl

-- a byte before the last is written
pub put_next : (out : List ℕ) (used left : ℕ) → used < length out → 128 ≤ left → used < 9
    → take (used + 1) (set out used (bit_or 128 (bit_and left 127))) ++ groups (9 - (used + 1)) (left / 128) ≡ take used out ++ groups (9 - used) left
put_next out used left inside large room =
    let low : bit_and left 127 ≡ left % 128 = and_mask left 7 in
    let top : bit_or 128 (left % 128) ≡ 128 + left % 128 = or_shifted 1 7 (left % 128) (omega arith) in
    let n : 9 - used ≡ suc (9 - (used + 1)) = omega arith in
    rw (take_more_set out used (bit_or 128 (bit_and left 127)) inside, append_assoc, low, top, n, groups-large (9 - (used + 1)) left large) refl

-- and what is left is smaller, so that ten bytes are enough
pub fewer_left : (left used : ℕ) → 128 ≤ left → left * 128 ^ used < 2 ^ 64 → (used < 9) × (left / 128 * 128 ^ (used + 1) < 2 ^ 64)
fewer_left left used large fits =
    let room : used < 9 =
    elim (cases_lt used 9) [
      | inl less ↦ less
      | inr more ↦
          let p : 128 ^ 9 ≤ 128 ^ used = pow-le-pow_right (lit< tt) more in
          let q : 128 * 128 ^ 9 ≤ left * 128 ^ used = mul-le-mul large p in
          absurd (omega arith)
    ] in
    let whole : left / 128 * 128 * 128 ^ used ≤ left * 128 ^ used = mul-le-mul_right (128 ^ used) (div-mul-le_self left 128) in
    let next : 128 ^ (used + 1) ≡ 128 ^ used * 128 = pow_more 128 used in
    (room, rw next (omega arith))

pub length-groups : (n room v : ℕ) → 128 ^ n ≤ v → v < 128 ^ (n + 1) → n ≤ room → length (groups room v) ≡ n + 1
length-groups zero room v low high most = rw groups-small refl
length-groups (suc n) zero v low high most = absurd (omega arith)
length-groups (suc n) (suc room) v low high most =
    let first : 128 ^ suc n ≡ 128 ^ n * 128 = pow-suc 128 n in
    let next : 128 ^ (suc n + 1) ≡ 128 ^ (n + 1) * 128 = pow_more 128 (suc n) ∙ ap (λ k. 128 ^ k * 128) (omega arith) in
    let one : 1 ≤ 128 ^ n = one-le-pow n 128 (lit< tt) in
    let large : 128 ≤ v = omega arith in
    let below : 128 ^ n ≤ v / 128 = le-div (128 ^ n) v 128 (lit< tt) (omega arith) in
    let above : v / 128 < 128 ^ (n + 1) = div_below v 128 (128 ^ (n + 1)) (lit< tt) (omega arith) in
    let rest = length-groups n room (v / 128) below above (omega arith) in
    rw (groups-large room v large, rest) (omega arith)

-- as many bytes as the bits up to the highest that is set take, seven a byte
length-varint-at : (v j : ℕ) → 2 ^ j ≤ v → v < 2 ^ suc j → j < 64 → length (varint v) ≡ j / 7 + 1
unfolding varint
length-varint-at v j low high fits =
    let n : 7 * (j / 7) ≤ j = omega arith in
    let m : suc j ≤ 7 * (j / 7 + 1) = omega arith in
    let below : 2 ^ (7 * (j / 7)) ≤ 2 ^ j = pow-le-pow_right (lit< tt) n in
    let above : 2 ^ suc j ≤ 2 ^ (7 * (j / 7 + 1)) = pow-le-pow_right (lit< tt) m in
    let from : 128 ^ (j / 7) ≤ v = rw pow_128 (omega arith) in
    let to : v < 128 ^ (j / 7 + 1) = rw pow_128 (omega arith) in
    length-groups (j / 7) 9 v from to (omega arith)

pub length-varint : (v zeros : ℕ) → 0 < v → v < 2 ^ 64 → zeros ≡ count_leading_zeros 64 v → (64 - zeros) / 7 + min 1 ((64 - zeros) % 7) ≡ length (varint v)
length-varint v zeros some fits is =
    let top = leading_top 64 v some fits in
    let bits : 64 - zeros ≡ suc top.0 = omega arith in
    let n = length-varint-at v top.0 top.2 top.3 (omega arith) in
    rw (bits, n) (omega arith)

pub length-varint-small : (v : ℕ) → v < 128 → length (varint v) ≡ 1
unfolding varint
length-varint-small v small = ap length (groups-small 9 v small)

-- what is past a written byte stays
pub drop-next : (out old : List ℕ) (used byte : ℕ) → drop used out ≡ drop used old → drop (used + 1) (set out used byte) ≡ drop (used + 1) old
drop-next out old used byte same = rw (drop-set-lt (used + 1) out used byte (omega arith), ← drop-drop 1 used out, ← drop-drop 1 used old, same) refl

-- as many bytes were written as the varint has
pub length-written : (out bytes : List ℕ) (used : ℕ) → used ≤ length out → take used out ≡ bytes → used ≡ length bytes
length-written out bytes used inside e = sym (length-take-le used out inside) ∙ ap length e

pub varint-small : (v : ℕ) → v < 128 → varint v ≡ v ∷ []
unfolding varint
varint-small v small = groups-small 9 v small

pub put_one : (out : List ℕ) (v : ℕ) → 0 < length out → v < 128 → take 1 (set out 0 v) ≡ varint v
put_one out v some small = take_more_set out 0 v some ∙ sym (varint-small v small)
