-- A varint that is put byte by byte.
use Rattle.std.proofs.Common.{◌≡◌, ℕ, zero, suc, ◌+◌, ◌-◌, ◌*◌, ◌/◌, ◌%◌, ◌^◌, ◌<◌, ◌≤◌, List, ◌++◌, length, take, set, refl, ap, arith, lit<}
use Rattle.std.proofs.Math.Nat.{pow-suc}
use Rattle.std.proofs.lemmas.Nat.{div_below}
use Rattle.std.proofs.lemmas.List.{append_assoc, length-take-le, take_more_set}
use Rattle.ciff_wire.specs.Varint.{groups}
use Rattle.ciff_writer.proofs.Fields.{groups-small, groups-large}

-- a byte before the last is put
pub put_next : (room : List ℕ) (end more less left : ℕ) → end < length room → 128 ≤ left → more ≡ less + 1
    → take (end + 1) (set room end (128 + left % 128)) ++ groups less (left / 128) ≡ take end room ++ groups more left
put_next room end more less left inside large e =
    let n : more ≡ suc less = omega (arith, e) in
    rw (take_more_set room end (128 + left % 128) inside, append_assoc, n, groups-large less left large) refl

-- the last byte is put
pub put_last : (room : List ℕ) (end more left : ℕ) → end < length room → left < 128 → take (end + 1) (set room end left) ≡ take end room ++ groups more left
put_last room end more left inside small = rw (take_more_set room end left inside, groups-small more left small) refl

-- and what is left is smaller, so that ten bytes are enough
pub fewer_left : (more left : ℕ) → 128 ≤ left → left < 2 * 128 ^ more → (0 < more) × (left / 128 < 2 * 128 ^ (more - 1))
fewer_left zero left large fits = absurd (omega (arith, fits))
fewer_left (suc less) left large fits =
    let next : 128 ^ suc less ≡ 128 ^ less * 128 = pow-suc 128 less in
    let same : suc less - 1 ≡ less = omega arith in
    (omega arith, rw same (div_below left 128 (2 * 128 ^ less) (lit< tt) (omega arith)))

-- there is room for ten bytes behind those that were held
pub inside_of : (at end : ℕ) (room held : List ℕ) (long most : ℕ) → take at room ≡ held → length room ≡ most → at ≤ most → long ≡ length room → length held + 10 ≤ most → end ≤ at + 9 → end < long
inside_of at end room held long most seen told within same fits used = omega (arith, ap length seen, length-take-le at room (omega (arith, told, within)))
