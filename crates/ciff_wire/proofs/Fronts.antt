-- The fronts of fields: a tag of one byte, and a varint behind it.
use Rattle.std.proofs.Common.{◌≡◌, ℕ, suc, ◌+◌, ◌*◌, ◌<◌, ◌≤◌, ℤ, List, [], ◌∷◌, length, take, drop, set, eqb, true, false, refl, ap, ◌∙◌, arith}
use Rattle.std.specs.Int.{w64, cast_unsigned}
use borrow.Rule.Slice.PartMut.{put_mid, mid_of}
use Rattle.std.proofs.lemmas.List.{append-nil, take-append-le, drop-append-le, take_all, drop_all}
use Rattle.std.proofs.lemmas.Bool.Decides.{nat_tests}
use Rattle.ciff_wire.specs.Varint.{varint}
use Rattle.ciff_wire.specs.Canonical.{message_of, number_field, head_of}
use Rattle.ciff_wire.proofs.Groups.{varint-small}

-- a first byte, and bytes written behind it
pub take-pair : (old new bytes : List ℕ) (tag n : ℕ) → length old ≡ 16 → n ≤ length new → take n new ≡ bytes → take (1 + n) (put_mid 1 15 (set old 0 tag) new) ≡ tag ∷ bytes
take-pair [] new bytes tag n long inside front = absurd (omega arith)
take-pair (x ∷ xs) new bytes tag n long inside front =
    let e : 1 + n ≡ suc n = omega arith in
    rw (e, take-append-le n new (drop 15 xs) inside, front) refl

pub drop-pair : (old new : List ℕ) (tag n : ℕ) → length old ≡ 16 → n ≤ length new → length new ≡ 15 → drop n new ≡ drop n (mid_of 1 15 (set old 0 tag))
    → drop (1 + n) (put_mid 1 15 (set old 0 tag) new) ≡ drop (1 + n) old
drop-pair [] new tag n long inside room rest = absurd (omega arith)
drop-pair (x ∷ xs) new tag n long inside room rest =
    let e : 1 + n ≡ suc n = omega arith in
    let whole : take 15 xs ≡ xs = take_all 15 xs (omega arith) in
    let none : drop 15 xs ≡ [] = drop_all 15 xs (omega arith) in
    let same : drop n new ≡ drop n xs = rest ∙ ap (drop n) whole in
    rw (e, drop-append-le n new (drop 15 xs) inside, none, append-nil, same) refl

pub head-pair : (number len : ℕ) → number < 16 → head_of number len ≡ (number * 8 + 2) ∷ varint len
head-pair number len small = rw (varint-small (number * 8 + 2) (omega arith)) refl

pub message-zero : (number : ℕ) (value : ℤ) → cast_unsigned w64 value ≡ 0 → message_of (number_field number value) ≡ []
unfolding message_of
message-zero number value e =
    let test : eqb (cast_unsigned w64 value) 0 ≡ true = grind (arith, nat_tests) in
    rw test refl

pub message-number : (number : ℕ) (value : ℤ) (v : ℕ) → number < 16 → v ≡ cast_unsigned w64 value → (cast_unsigned w64 value ≡ 0 → ⊥) → message_of (number_field number value) ≡ (number * 8) ∷ varint v
unfolding message_of
message-number number value v small is some =
    let test : eqb (cast_unsigned w64 value) 0 ≡ false = grind (arith, nat_tests) in
    let tag : varint (number * 8 + 0) ≡ (number * 8) ∷ [] = ap varint (omega arith) ∙ varint-small (number * 8) (omega arith) in
    rw (test, append-nil, tag, is) refl
