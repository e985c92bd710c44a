-- The canonical spelling of fields, and how long it is.
use Rattle.std.proofs.Common.{◌≡◌, ℕ, zero, suc, ◌+◌, ◌*◌, ◌/◌, ◌%◌, ◌<◌, ◌≤◌, ℤ, pos, negsuc, to_z, of_z, List, [], ◌∷◌, ◌++◌, length, eqb, true, false, inl, inr, refl, sym, ap, ◌∙◌, append_assoc, length-append, arith}
use mir.Val.{SFits}
use lib.Signed.{lt_z}
use lib.IntN.{nat_abs}
use Rattle.std.specs.Int.{w32, w64, cast_unsigned, to_le_bytes}
use Rattle.std.proofs.lemmas.Int.{to_z-of_z}
use Rattle.std.proofs.lemmas.Bool.{cases_lt, ltb-true}
use Rattle.std.proofs.lemmas.Bool.Decides.{nat_tests}
use Rattle.std.proofs.lemmas.List.{append-nil}
use Rattle.std.proofs.lemmas.List.Concat.{flat_map-append}
use Rattle.ciff_wire.specs.Varint.{varint, groups}
use Rattle.ciff_wire.specs.Field.{Entry}
use Rattle.ciff_wire.specs.Canonical.{message_of, spelling_of, number_field, tag_of, head_of}
use Rattle.ciff_format.specs.Canonical.{text_field, bytes_field, eight_field, posting_fields}

-- ---- varints

pub groups-small : (room v : ℕ) → v < 128 → groups room v ≡ v ∷ []
unfolding groups
groups-small zero v h = refl
groups-small (suc room) v h = grind (arith, nat_tests)

pub groups-large : (room v : ℕ) → 128 ≤ v → groups (suc room) v ≡ (128 + v % 128) ∷ groups room (v / 128)
unfolding groups
groups-large room v h = grind (arith, nat_tests)

length-groups : (room v : ℕ) → length (groups room v) ≤ suc room
unfolding groups
length-groups zero v = omega arith
length-groups (suc room) v =
    elim (cases_lt v 128) [
      | inl small ↦ rw (groups-small (suc room) v small) (omega arith)
      | inr large ↦ rw (groups-large room v large) (omega (arith, length-groups room (v / 128)))
    ]

pub length-varint : (v : ℕ) → length (varint v) ≤ 10
unfolding varint
length-varint v = length-groups 9 v

pub varint-small : (v : ℕ) → v < 128 → varint v ≡ v ∷ []
unfolding varint
varint-small v h = groups-small 9 v h

varint-large : (v : ℕ) → 128 ≤ v → varint v ≡ (128 + v % 128) ∷ groups 8 (v / 128)
unfolding varint
varint-large v h = groups-large 8 v h

-- ---- messages

pub message-append : (a b : List Entry) → message_of (a ++ b) ≡ message_of a ++ message_of b
unfolding message_of
message-append a b = flat_map-append spelling_of a b

pub length-message-append : (a b : List Entry) → length (message_of (a ++ b)) ≡ length (message_of a) + length (message_of b)
length-message-append a b = ap length (message-append a b) ∙ length-append (message_of a) (message_of b)

-- ---- the field of a number

pub number-none : (n : ℕ) (z : ℤ) → cast_unsigned w64 z ≡ 0 → message_of (number_field n z) ≡ []
unfolding message_of
number-none n z e =
    let test : eqb (cast_unsigned w64 z) 0 ≡ true = grind (arith, nat_tests) in
    rw test refl

pub number-some : (n : ℕ) (z : ℤ) → n < 16 → (cast_unsigned w64 z ≡ 0 → ⊥) → message_of (number_field n z) ≡ (n * 8) ∷ varint (cast_unsigned w64 z)
unfolding message_of
number-some n z small some =
    let test : eqb (cast_unsigned w64 z) 0 ≡ false = grind (arith, nat_tests) in
    let tag : varint (n * 8 + 0) ≡ (n * 8) ∷ [] = ap varint (omega arith) ∙ varint-small (n * 8) (omega arith) in
    rw (test, append-nil, tag) refl

-- ---- the field of eight bytes

pub eight-none : (n bits : ℕ) → bits ≡ 0 → message_of (eight_field n bits) ≡ []
unfolding message_of
eight-none n bits e =
    let test : eqb bits 0 ≡ true = grind (arith, nat_tests) in
    rw test refl

pub eight-some : (n bits : ℕ) → (bits ≡ 0 → ⊥) → message_of (eight_field n bits) ≡ tag_of n 1 ++ to_le_bytes w64 bits
unfolding message_of
eight-some n bits some =
    let test : eqb bits 0 ≡ false = grind (arith, nat_tests) in
    rw (test, append-nil) refl

pub length-eight : (n bits : ℕ) → n < 16 → (bits ≡ 0 → ⊥) → length (message_of (eight_field n bits)) ≡ 9
length-eight n bits small some =
    let tag : tag_of n 1 ≡ (n * 8 + 1) ∷ [] = varint-small (n * 8 + 1) (omega arith) in
    ap length (eight-some n bits some) ∙ ap (λ (t : List ℕ). length (t ++ to_le_bytes w64 bits)) tag ∙ refl

-- ---- the field of a text

pub text-none : (n : ℕ) (text : List ℕ) → length text ≡ 0 → message_of (text_field n text) ≡ []
unfolding message_of
text-none n text e =
    let test : eqb (length text) 0 ≡ true = grind (arith, nat_tests) in
    rw test refl

pub text-some : (n : ℕ) (text : List ℕ) → (length text ≡ 0 → ⊥) → message_of (text_field n text) ≡ (tag_of n 2 ++ varint (length text)) ++ text
unfolding message_of
text-some n text some =
    let test : eqb (length text) 0 ≡ false = grind (arith, nat_tests) in
    rw (test, append-nil) (sym (append_assoc (tag_of n 2) (varint (length text)) text))

pub length-text : (n : ℕ) (text : List ℕ) → n < 16 → (length text ≡ 0 → ⊥) → length (message_of (text_field n text)) ≡ 1 + length (varint (length text)) + length text
length-text n text small some =
    let tag : tag_of n 2 ≡ (n * 8 + 2) ∷ [] = varint-small (n * 8 + 2) (omega arith) in
    ap length (text-some n text some)
    ∙ ap (λ (t : List ℕ). length ((t ++ varint (length text)) ++ text)) tag
    ∙ omega (arith, length-append (varint (length text)) text)

-- ---- the field of a posting

pub posting-bytes : (m : List ℕ) → length m < 128 → message_of (bytes_field 4 m) ≡ 34 ∷ length m ∷ m
unfolding message_of
posting-bytes m small =
    let tag : varint 34 ≡ 34 ∷ [] = varint-small 34 (omega arith) in
    let len : varint (length m) ≡ length m ∷ [] = varint-small (length m) small in
    rw (append-nil, tag, len) refl

pub length-posting : (gap : ℕ) (tf : ℤ) → length (message_of (posting_fields gap tf)) ≡ length (message_of (number_field 1 (pos gap))) + length (message_of (number_field 2 tf))
unfolding posting_fields
length-posting gap tf = length-message-append (number_field 1 (pos gap)) (number_field 2 tf)

pub posting-parts : (gap : ℕ) (tf : ℤ) → message_of (posting_fields gap tf) ≡ message_of (number_field 1 (pos gap)) ++ message_of (number_field 2 tf)
unfolding posting_fields
posting-parts gap tf = message-append (number_field 1 (pos gap)) (number_field 2 tf)

-- it is put field by field
pub posting-long : (p q r s : List ℕ) (gap size : ℕ) (tf : ℤ) → size ≡ length (message_of (posting_fields gap tf)) → size ≤ 22 → q ≡ p ++ (34 ∷ size ∷ []) → r ≡ q ++ message_of (number_field 1 (pos gap)) → s ≡ r ++ message_of (number_field 2 tf)
    → s ≡ p ++ message_of (bytes_field 4 (message_of (posting_fields gap tf)))
posting-long p q r s gap size tf len most a b c =
    let m = message_of (posting_fields gap tf) in
    let whole : message_of (bytes_field 4 m) ≡ 34 ∷ size ∷ m = posting-bytes m (omega (arith, len)) ∙ ap (λ (n : ℕ). 34 ∷ n ∷ m) (sym len) in
    rw (whole, posting-parts gap tf, c, b, a) (simp append_assoc)

-- both numbers take one byte
pub message-short : (gap f : ℕ) (tf : ℤ) → 0 < gap → gap < 128 → tf ≡ pos f → 0 < f → f < 128 → message_of (posting_fields gap tf) ≡ 8 ∷ gap ∷ 16 ∷ f ∷ []
message-short gap f tf some-gap small-gap is some-f small-f =
    let one : message_of (number_field 1 (pos gap)) ≡ 8 ∷ gap ∷ [] = number-some 1 (pos gap) (omega arith) (λ none. omega (arith, none)) ∙ ap (λ (v : List ℕ). 8 ∷ v) (varint-small gap small-gap) in
    let two : message_of (number_field 2 (pos f)) ≡ 16 ∷ f ∷ [] = number-some 2 (pos f) (omega arith) (λ none. omega (arith, none)) ∙ ap (λ (v : List ℕ). 16 ∷ v) (varint-small f small-f) in
    rw is (posting-parts gap (pos f) ∙ ap (λ (a : List ℕ). a ++ message_of (number_field 2 (pos f))) one ∙ ap (λ (b : List ℕ). 8 ∷ gap ∷ b) two)

-- so that it is put at once
pub posting-short : (p q : List ℕ) (gap f : ℕ) (tf : ℤ) → 0 < gap → gap < 128 → tf ≡ pos f → 0 < f → f < 128 → q ≡ p ++ (34 ∷ 4 ∷ 8 ∷ gap ∷ 16 ∷ f ∷ [])
    → q ≡ p ++ message_of (bytes_field 4 (message_of (posting_fields gap tf)))
posting-short p q gap f tf some-gap small-gap is some-f small-f e =
    let whole : message_of (bytes_field 4 (8 ∷ gap ∷ 16 ∷ f ∷ [])) ≡ 34 ∷ 4 ∷ 8 ∷ gap ∷ 16 ∷ f ∷ [] = posting-bytes (8 ∷ gap ∷ 16 ∷ f ∷ []) (omega arith) in
    rw (message-short gap f tf some-gap small-gap is some-f small-f, whole) e

-- the gap takes two bytes, and the frequency one
pub message-middle : (gap f : ℕ) (tf : ℤ) → 128 ≤ gap → gap < 16384 → tf ≡ pos f → 0 < f → f < 128 → message_of (posting_fields gap tf) ≡ 8 ∷ (128 + gap % 128) ∷ (gap / 128) ∷ 16 ∷ f ∷ []
message-middle gap f tf large small-gap is some-f small-f =
    let low = 128 + gap % 128 in
    let high = gap / 128 in
    let spelt : varint gap ≡ low ∷ high ∷ [] = varint-large gap large ∙ ap (λ (v : List ℕ). low ∷ v) (groups-small 8 high (omega arith)) in
    let one : message_of (number_field 1 (pos gap)) ≡ 8 ∷ low ∷ high ∷ [] = number-some 1 (pos gap) (omega arith) (λ none. omega (arith, none, large)) ∙ ap (λ (v : List ℕ). 8 ∷ v) spelt in
    let two : message_of (number_field 2 (pos f)) ≡ 16 ∷ f ∷ [] = number-some 2 (pos f) (omega arith) (λ none. omega (arith, none)) ∙ ap (λ (v : List ℕ). 16 ∷ v) (varint-small f small-f) in
    rw is (posting-parts gap (pos f) ∙ ap (λ (a : List ℕ). a ++ message_of (number_field 2 (pos f))) one ∙ ap (λ (b : List ℕ). 8 ∷ low ∷ high ∷ b) two)

pub posting-middle : (p q : List ℕ) (gap f : ℕ) (tf : ℤ) → 128 ≤ gap → gap < 16384 → tf ≡ pos f → 0 < f → f < 128 → q ≡ p ++ (34 ∷ 5 ∷ 8 ∷ (128 + gap % 128) ∷ (gap / 128) ∷ 16 ∷ f ∷ [])
    → q ≡ p ++ message_of (bytes_field 4 (message_of (posting_fields gap tf)))
posting-middle p q gap f tf large small-gap is some-f small-f e =
    let m = 8 ∷ (128 + gap % 128) ∷ (gap / 128) ∷ 16 ∷ f ∷ [] in
    let whole : message_of (bytes_field 4 m) ≡ 34 ∷ 5 ∷ m = posting-bytes m (omega arith) in
    rw (message-middle gap f tf large small-gap is some-f small-f, whole) e

-- ---- values as they are passed

pub passed : (z v : ℤ) → SFits w64 z → z ≡ v → to_z w64 (of_z w64 z) ≡ v
passed z v fits e = to_z-of_z w64 z fits ∙ e

pub widened : (z v : ℤ) → z ≡ to_z w32 (of_z w32 v) → SFits w32 v → z ≡ v
widened z v e fits = e ∙ to_z-of_z w32 v fits

-- a number that passed two tests
pub short-value : (z : ℤ) → lt_z (pos 0) z ≡ true → lt_z z (pos 128) ≡ true → (z ≡ pos (nat_abs z)) × (0 < nat_abs z) × (nat_abs z < 128)
short-value (pos n) low high = (refl, ltb-true 0 n low, ltb-true n 128 high)
short-value (negsuc n) low high = cc

-- what a call says of a value as it is passed
pub number-size : (result n : ℕ) (z v : ℤ) → ((m : ℕ) → 0 < m → m < 16 → result ≡ length (message_of (number_field m (to_z w64 (of_z w64 z))))) → 0 < n → n < 16 → SFits w64 z → z ≡ v → result ≡ length (message_of (number_field n v))
number-size result n z v size some small fits e = size n some small ∙ ap (λ (x : ℤ). length (message_of (number_field n x))) (passed z v fits e)

pub number-put : (p q : List ℕ) (n : ℕ) (z v : ℤ) → q ≡ p ++ message_of (number_field n (to_z w64 (of_z w64 z))) → SFits w64 z → z ≡ v → q ≡ p ++ message_of (number_field n v)
number-put p q n z v put fits e = put ∙ ap (λ (x : ℤ). p ++ message_of (number_field n x)) (passed z v fits e)

-- ---- fields that are put behind others

pub varint-groups : (v : ℕ) → varint v ≡ groups 9 v
unfolding varint
varint-groups v = refl

pub head-put : (p q r : List ℕ) (n len : ℕ) → n < 16 → q ≡ p ++ (n * 8 + 2) ∷ [] → r ≡ q ++ varint len → r ≡ p ++ head_of n len
head-put p q r n len small a b =
    let tag : tag_of n 2 ≡ (n * 8 + 2) ∷ [] = varint-small (n * 8 + 2) (omega arith) in
    rw (b, a, tag) (append_assoc p ((n * 8 + 2) ∷ []) (varint len))

pub none-put : (p : List ℕ) (n : ℕ) (z : ℤ) → cast_unsigned w64 z ≡ 0 → p ≡ p ++ message_of (number_field n z)
none-put p n z e = rw (number-none n z e, append-nil) refl

pub some-put : (p q r : List ℕ) (n : ℕ) (z : ℤ) (v : ℕ) → n < 16 → v ≡ cast_unsigned w64 z → (cast_unsigned w64 z ≡ 0 → ⊥) → q ≡ p ++ (n * 8) ∷ [] → r ≡ q ++ varint v → r ≡ p ++ message_of (number_field n z)
some-put p q r n z v small is some a b = rw (b, a, number-some n z small some, is) (append_assoc p ((n * 8) ∷ []) (varint (cast_unsigned w64 z)))

pub eight-none-put : (p : List ℕ) (n bits : ℕ) → bits ≡ 0 → p ≡ p ++ message_of (eight_field n bits)
eight-none-put p n bits e = rw (eight-none n bits e, append-nil) refl

pub eight-put : (p q r eight : List ℕ) (n bits : ℕ) → n < 16 → (bits ≡ 0 → ⊥) → q ≡ p ++ (n * 8 + 1) ∷ [] → eight ≡ to_le_bytes w64 bits → r ≡ q ++ eight → r ≡ p ++ message_of (eight_field n bits)
eight-put p q r eight n bits small some a is b =
    let tag : tag_of n 1 ≡ (n * 8 + 1) ∷ [] = varint-small (n * 8 + 1) (omega arith) in
    rw (b, a, is, eight-some n bits some, tag) (append_assoc p ((n * 8 + 1) ∷ []) (to_le_bytes w64 bits))
