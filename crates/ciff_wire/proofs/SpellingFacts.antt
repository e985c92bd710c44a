-- What stands at the front of bytes that begin with a spelling, and the varint of a number of 64 bits as a spelling of it.
use Rattle.std.proofs.Common.{◌≡◌, ℕ, ◌-◌, ◌%◌, ◌^◌, ◌<◌, ◌≤◌, List, ◌++◌, length, get_or, take, drop, refl, sym, ap, subst, ◌∙◌, arith, length-append}
use Rattle.std.proofs.lemmas.List.{take_at, drop_at, take-append-drop, length-take, get_or-take, get_or_append_left}
use Rattle.ciff_wire.specs.Varint.{sum_of, varint, IsSpelling, Spells, Reads, EndsEarly, RunsOn}
use Rattle.ciff_wire.proofs.Spellings.{none_is_front, varint_is_shortest}

-- two lists of one length at the front of one list are one
pub same_parts : (a b x y : List ℕ) → length a ≡ length b → a ++ x ≡ b ++ y → (a ≡ b) × (x ≡ y)
same_parts a b x y e h =
    let front : take (length a) (a ++ x) ≡ a = take_at a x (length a) refl in
    let back : drop (length a) (a ++ x) ≡ x = drop_at a x (length a) refl in
    let front2 : take (length a) (b ++ y) ≡ b = take_at b y (length a) (sym e) in
    let back2 : drop (length a) (b ++ y) ≡ y = drop_at b y (length a) (sym e) in
    (sym front ∙ ap (take (length a)) h ∙ front2, sym back ∙ ap (drop (length a)) h ∙ back2)

-- a spelling has an end
ends_at : (a x : List ℕ) → IsSpelling a → get_or (a ++ x) (length a - 1) 0 < 128
ends_at a x s =
    omega (arith, s.ends, s.some, get_or_append_left a x 0 (length a - 1) (omega (arith, s.some)))

-- a spelling at the front is what is read there
pub read_once : (a x bytes : List ℕ) (value used : ℕ) → IsSpelling a → a ++ x ≡ bytes → Reads bytes value used → (take used bytes ≡ a) × (drop used bytes ≡ x) × (value ≡ sum_of a % 2 ^ 64) × (used ≡ length a)
read_once a x bytes value used s e r =
    let same = none_is_front (take used bytes) a (drop used bytes) x r.spells.spelling s (take-append-drop used bytes ∙ sym e) in
    let value-is : value ≡ sum_of a % 2 ^ 64 = sym (subst (λ (w : List ℕ). sum_of w % 2 ^ 64 ≡ value) same.0 r.spells.sum) in
    let len : length (take used bytes) ≡ length a = ap length same.0 in
    (same.0, same.1, value-is, omega (arith, len, length-take used bytes, r.within))

-- and then the bytes do not end early, nor run on
pub not_early : (a x bytes : List ℕ) → IsSpelling a → a ++ x ≡ bytes → EndsEarly bytes → ⊥
not_early a x bytes s e f =
    let low : get_or (a ++ x) (length a - 1) 0 < 128 = ends_at a x s in
    let same : get_or (a ++ x) (length a - 1) 0 ≡ get_or bytes (length a - 1) 0 = ap (λ (w : List ℕ). get_or w (length a - 1) 0) e in
    let len : length (a ++ x) ≡ length bytes = ap length e in
    let high : 128 ≤ get_or bytes (length a - 1) 0 = f.unended (length a - 1) 0 (omega (arith, len, length-append a x, s.some)) in
    omega (arith, low, same, high)

pub not_long : (a x bytes : List ℕ) → IsSpelling a → a ++ x ≡ bytes → RunsOn bytes → ⊥
not_long a x bytes s e f =
    let low : get_or (a ++ x) (length a - 1) 0 < 128 = ends_at a x s in
    let same : get_or (a ++ x) (length a - 1) 0 ≡ get_or bytes (length a - 1) 0 = ap (λ (w : List ℕ). get_or w (length a - 1) 0) e in
    let high : 128 ≤ get_or (take 10 bytes) (length a - 1) 0 = f.unended (length a - 1) 0 (omega (arith, length-take 10 bytes, f.many, s.some, s.most)) in
    omega (arith, low, same, high, get_or-take 10 bytes (length a - 1) 0 (omega (arith, s.some, s.most)))

-- the varint of a number of 64 bits spells it
pub varint_spells : (v : ℕ) → v < 2 ^ 64 → Spells (varint v) v
varint_spells v lt =
    let s = varint_is_shortest v lt in
    record { spelling = s.0; sum = rw s.1 (omega (arith, lt)) }
