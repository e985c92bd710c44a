-- The fields of canonical messages: what each number's last field holds, and that they are fields of their message.
use Rattle.std.proofs.Common.{◌≡◌, ◌≢◌, ℕ, zero, suc, ◌+◌, ◌*◌, ◌/◌, ◌%◌, ◌^◌, ◌<◌, ◌≤◌, ◌==◌, Bool, true, false, cond, eqb, ltb, if◌then◌else◌, ℤ, pos, negsuc, List, [], ◌∷◌, ◌++◌, length, flat_map, FitsSigned, Option, Some, None, refl, sym, ap, subst, ◌∙◌, arith}
use Rattle.std.specs.Prelude.{IsUtf8}
use Rattle.std.specs.Int.{w32, w64, cast_signed, cast_unsigned}
use Rattle.std.specs.Option.{option_or}
use Rattle.std.specs.List.{AllByRecursion}
use Rattle.std.proofs.lemmas.Bool.{eq-eqb, ne_eqb, eqb-true}
use Rattle.std.proofs.lemmas.Int.{to_z-of_z}
use Rattle.std.proofs.lemmas.Str.{IsUtf8-nil}
use Rattle.std.proofs.lemmas.List.{length-append, nil_from_length}
use Rattle.std.proofs.lemmas.List.Concat.{flat_map-append}
use Rattle.ciff_wire.specs.Varint.{groups, varint}
use Rattle.ciff_wire.specs.Field.{Held, Entry, as_number, as_eight, as_bytes, as_four, wire_of, IsNumber}
use Rattle.ciff_wire.specs.Canonical.{tag_of, spelling_of, spelling_of_held, message_of}
use Rattle.ciff_wire.specs.Laws.{FitsEntry}
use Rattle.ciff_format.specs.Fields.{Kind, int32, int64, double, text, message, Known, HasItsType, IsTextOf, IsKnownText, HasText, held_at, number_or_zero, eight_or_zero, bytes_or_none, int32_at, int64_at, double_at, text_at, bytes_where, each_at}

-- ---- two's complement

pub fits_more : (z : ℤ) → FitsSigned w32 z → FitsSigned w64 z
fits_more z h = record { sfits = omega (arith, h.sfits) }

spelt_small : (z : ℤ) → FitsSigned w64 z → cast_unsigned w64 z < 2 ^ 64
spelt_small (pos n) h = omega (arith, h.sfits)
spelt_small (negsuc n) h = omega (arith, h.sfits)

low_bits : (z : ℤ) → FitsSigned w32 z → cast_unsigned w64 z % 2 ^ 32 ≡ cast_unsigned w32 z
low_bits (pos n) h = omega (arith, h.sfits)
low_bits (negsuc n) h = omega (arith, h.sfits)

-- ---- what fields hold

or_none : {A : Type 0} (o : Option A) → option_or o None ≡ o
or_none None = refl
or_none (Some x) = refl

or_assoc : {A : Type 0} (a b c : Option A) → option_or (option_or a b) c ≡ option_or a (option_or b c)
or_assoc None b c = refl
or_assoc (Some x) b c = refl

-- a later field wins
pub held_join : (number : ℕ) (a b : List Entry) → held_at number (a ++ b) ≡ option_or (held_at number b) (held_at number a)
unfolding held_at
held_join number [] b = sym (or_none (held_at number b))
held_join number (e ∷ es) b = ap (λ (o : Option Held). option_or o (if e.number == number then Some e.held else None)) (held_join number es b) ∙ or_assoc (held_at number b) (held_at number es) (if e.number == number then Some e.held else None)

-- ---- a field that may be left out

pub record Slot : Type 0 where
  pub number : ℕ
  pub absent : Bool
  pub held : Held

abbrev pub slot_entry : Slot → Entry
slot_entry slot = record { number = slot.number; held = slot.held }

abbrev pub slot_fields : Slot → List Entry
slot_fields slot = cond slot.absent [] (slot_entry slot ∷ [])

abbrev pub slot_held : Slot → Option Held
slot_held slot = cond slot.absent None (Some slot.held)

abbrev pub number_slot : ℕ → ℤ → Slot
number_slot n z = record { number = n; absent = cast_unsigned w64 z == 0; held = as_number (cast_unsigned w64 z) }

abbrev pub eight_slot : ℕ → ℕ → Slot
eight_slot n bits = record { number = n; absent = bits == 0; held = as_eight bits }

abbrev pub text_slot : ℕ → List ℕ → Slot
text_slot n bytes = record { number = n; absent = length bytes == 0; held = as_bytes bytes }

-- fields that may be left out, and others behind them
abbrev pub row_fields : List Slot → List Entry → List Entry
row_fields [] tail = tail
row_fields (slot ∷ slots) tail = slot_fields slot ++ row_fields slots tail

-- ---- the last field of a number

-- each number is larger
abbrev Beyond : ℕ → List Entry → Type 0
Beyond k entries = AllByRecursion (λ entry. k < entry.number) entries

abbrev Ahead : ℕ → List Slot → Type 0
Ahead k slots = AllByRecursion (λ slot. k < slot.number) slots

-- the numbers rise below this one
abbrev pub Rising : ℕ → List Slot → Type 0
Rising m [] = Unit {0}
Rising m (slot ∷ slots) = (slot.number < m) × Ahead slot.number slots × Rising m slots

abbrev pub AtLeast : ℕ → List Entry → Type 0
AtLeast m entries = AllByRecursion (λ entry. m ≤ entry.number) entries

beyond_none : (k : ℕ) (entries : List Entry) → Beyond k entries → held_at k entries ≡ None
unfolding held_at
beyond_none k [] beyond = refl
beyond_none k (entry ∷ entries) beyond =
    let other : entry.number ≢ k = λ same. omega (arith, same, beyond.0) in
    ap (λ (o : Option Held). option_or o (if entry.number == k then Some entry.held else None)) (beyond_none k entries beyond.1)
    ∙ ap (λ b. cond b (Some entry.held) None) (ne_eqb entry.number k other)

beyond_tail : (k m : ℕ) (tail : List Entry) → k < m → AtLeast m tail → Beyond k tail
beyond_tail k m [] less least = tt
beyond_tail k m (entry ∷ tail) less least = (omega (arith, less, least.0), beyond_tail k m tail less least.1)

beyond_slot : (k : ℕ) (b : Bool) (entry : Entry) (rest : List Entry) → k < entry.number → Beyond k rest → Beyond k (cond b [] (entry ∷ []) ++ rest)
beyond_slot k true entry rest less beyond = beyond
beyond_slot k false entry rest less beyond = (less, beyond)

beyond_row : (k m : ℕ) (slots : List Slot) (tail : List Entry) → Ahead k slots → k < m → AtLeast m tail → Beyond k (row_fields slots tail)
beyond_row k m [] tail ahead less least = beyond_tail k m tail less least
beyond_row k m (slot ∷ slots) tail ahead less least = beyond_slot k slot.absent (slot_entry slot) (row_fields slots tail) ahead.0 (beyond_row k m slots tail ahead.1 less least)

-- the field of a number, found from the front
abbrev pub first_at : ℕ → List Slot → Option Held → Option Held
first_at n [] other = other
first_at n (slot ∷ slots) other = if slot.number == n then slot_held slot else first_at n slots other

slot_at : (n : ℕ) (b : Bool) (entry : Entry) (t : Bool) → eqb entry.number n ≡ t → held_at n (cond b [] (entry ∷ [])) ≡ cond t (cond b None (Some entry.held)) None
unfolding held_at
slot_at n true entry true e = refl
slot_at n true entry false e = refl
slot_at n false entry t e = ap (λ s. cond s (Some entry.held) None) e

pub held_slot : (slot : Slot) → held_at slot.number (slot_fields slot) ≡ slot_held slot
held_slot slot = slot_at slot.number slot.absent (slot_entry slot) true (eq-eqb slot.number slot.number refl)

held_by_test : (n m : ℕ) (slot : Slot) (slots : List Slot) (tail : List Entry) → Rising m (slot ∷ slots) → AtLeast m tail → held_at n (row_fields slots tail) ≡ first_at n slots (held_at n tail)
    → (t : Bool) → eqb slot.number n ≡ t → option_or (held_at n (row_fields slots tail)) (held_at n (slot_fields slot)) ≡ cond t (slot_held slot) (first_at n slots (held_at n tail))
held_by_test n m slot slots tail rising least others true e =
    let same : slot.number ≡ n = eqb-true slot.number n e in
    let none : held_at n (row_fields slots tail) ≡ None = beyond_none n (row_fields slots tail) (beyond_row n m slots tail (subst (λ k. Ahead k slots) same rising.1) (omega (arith, same, rising.0)) least) in
    ap (λ (o : Option Held). option_or o (held_at n (slot_fields slot))) none ∙ slot_at n slot.absent (slot_entry slot) true e
held_by_test n m slot slots tail rising least others false e =
    ap (option_or (held_at n (row_fields slots tail))) (slot_at n slot.absent (slot_entry slot) false e) ∙ or_none (held_at n (row_fields slots tail)) ∙ others

pub held_row : (n m : ℕ) (slots : List Slot) (tail : List Entry) → Rising m slots → AtLeast m tail → held_at n (row_fields slots tail) ≡ first_at n slots (held_at n tail)
held_row n m [] tail rising least = refl
held_row n m (slot ∷ slots) tail rising least =
    held_join n (slot_fields slot) (row_fields slots tail) ∙ held_by_test n m slot slots tail rising least (held_row n m slots tail rising.2 least) (eqb slot.number n) refl

-- ---- the values

number_value : (b : Bool) (v : ℕ) → eqb v 0 ≡ b → number_or_zero (cond b None (Some (as_number v))) ≡ v
number_value true v e = sym (eqb-true v 0 e)
number_value false v e = refl

eight_value : (b : Bool) (v : ℕ) → eqb v 0 ≡ b → eight_or_zero (cond b None (Some (as_eight v))) ≡ v
eight_value true v e = sym (eqb-true v 0 e)
eight_value false v e = refl

text_value : (b : Bool) (bytes : List ℕ) → eqb (length bytes) 0 ≡ b → bytes_or_none (cond b None (Some (as_bytes bytes))) ≡ bytes
text_value true bytes e = sym (nil_from_length bytes (eqb-true (length bytes) 0 e))
text_value false bytes e = refl

-- the fields of this number hold what is written there
pub record Has (n : ℕ) (fields : List Entry) (slot : Slot) : Type 0 where
  pub at : held_at n fields ≡ slot_held slot

pub int32_has : (n : ℕ) (fields : List Entry) (z : ℤ) → FitsSigned w32 z → Has n fields (number_slot n z) → int32_at n fields ≡ z
int32_has n fields z fits has =
    ap (λ (o : Option Held). cast_signed w32 (number_or_zero o % 2 ^ 32)) has.at
    ∙ ap (λ v. cast_signed w32 (v % 2 ^ 32)) (number_value (eqb (cast_unsigned w64 z) 0) (cast_unsigned w64 z) refl)
    ∙ ap (cast_signed w32) (low_bits z fits) ∙ to_z-of_z w32 z fits

pub int64_has : (n : ℕ) (fields : List Entry) (z : ℤ) → FitsSigned w64 z → Has n fields (number_slot n z) → int64_at n fields ≡ z
int64_has n fields z fits has =
    ap (λ (o : Option Held). cast_signed w64 (number_or_zero o)) has.at
    ∙ ap (cast_signed w64) (number_value (eqb (cast_unsigned w64 z) 0) (cast_unsigned w64 z) refl) ∙ to_z-of_z w64 z fits

pub double_has : (n : ℕ) (fields : List Entry) (bits : ℕ) → Has n fields (eight_slot n bits) → double_at n fields ≡ bits
double_has n fields bits has = ap eight_or_zero has.at ∙ eight_value (eqb bits 0) bits refl

pub text_has : (n : ℕ) (fields : List Entry) (bytes : List ℕ) → Has n fields (text_slot n bytes) → text_at n fields ≡ bytes
text_has n fields bytes has = ap bytes_or_none has.at ∙ text_value (eqb (length bytes) 0) bytes refl

-- ---- fields of a message

-- the fields can be spelt, have their types, and their texts are UTF-8
pub record Fine (table : List Known) (entries : List Entry) : Type 0 where
  pub fits : AllByRecursion FitsEntry entries
  pub types : AllByRecursion (HasItsType table) entries
  pub texts : AllByRecursion (HasText table) entries

pub record FineEntry (table : List Known) (entry : Entry) : Type 0 where
  pub fits : FitsEntry entry
  pub type_is : HasItsType table entry
  pub text_is : HasText table entry

pub fine_none : (table : List Known) → Fine table []
fine_none table = record { fits = tt; types = tt; texts = tt }

pub fine_cons : (table : List Known) (entry : Entry) (entries : List Entry) → FineEntry table entry → Fine table entries → Fine table (entry ∷ entries)
fine_cons table entry entries one fine = record { fits = (one.fits, fine.fits); types = (one.type_is, fine.types); texts = (one.text_is, fine.texts) }

fine_slot : (table : List Known) (b : Bool) (entry : Entry) (rest : List Entry) → FineEntry table entry → Fine table rest → Fine table (cond b [] (entry ∷ []) ++ rest)
fine_slot table true entry rest one fine = fine
fine_slot table false entry rest one fine = fine_cons table entry rest one fine

pub fine_row : (table : List Known) (slots : List Slot) (tail : List Entry) → AllByRecursion (λ slot. FineEntry table (slot_entry slot)) slots → Fine table tail → Fine table (row_fields slots tail)
fine_row table [] tail all fine = fine
fine_row table (slot ∷ slots) tail all fine = fine_slot table slot.absent (slot_entry slot) (row_fields slots tail) all.0 (fine_row table slots tail all.1 fine)

-- the last slot
pub fine_last : (table : List Known) (slot : Slot) → FineEntry table (slot_entry slot) → Fine table (slot_fields slot)
fine_last table slot one = by_test slot.absent
  where
    by_test : (b : Bool) → Fine table (cond b [] (slot_entry slot ∷ []))
    by_test true = fine_none table
    by_test false = fine_cons table (slot_entry slot) [] one (fine_none table)

-- a number has no text in it
number_text_of : (kind : Kind) (v : ℕ) → IsTextOf kind (as_number v)
number_text_of int32 v = tt
number_text_of int64 v = tt
number_text_of double v = tt
number_text_of text v = ∣ IsUtf8-nil ∣₁
number_text_of message v = tt

eight_text_of : (kind : Kind) (v : ℕ) → IsTextOf kind (as_eight v)
eight_text_of int32 v = tt
eight_text_of int64 v = tt
eight_text_of double v = tt
eight_text_of text v = ∣ IsUtf8-nil ∣₁
eight_text_of message v = tt

utf8_text_of : (kind : Kind) (bytes : List ℕ) → ∥ IsUtf8 bytes ∥₁ → IsTextOf kind (as_bytes bytes)
utf8_text_of int32 bytes utf8 = tt
utf8_text_of int64 bytes utf8 = tt
utf8_text_of double bytes utf8 = tt
utf8_text_of text bytes utf8 = utf8
utf8_text_of message bytes utf8 = tt

each_known : (P : Known → Type 0) → ((known : Known) → P known) → (table : List Known) → AllByRecursion P table
each_known P holds [] = tt
each_known P holds (known ∷ table) = (holds known, each_known P holds table)

pub fine_number : (table : List Known) (n : ℕ) (z : ℤ) → IsNumber n → FitsSigned w64 z → HasItsType table (slot_entry (number_slot n z)) → FineEntry table (slot_entry (number_slot n z))
fine_number table n z number fits type_is = record {
  fits = (number, spelt_small z fits);
  type_is = type_is;
  text_is = each_known (IsKnownText (slot_entry (number_slot n z))) (λ known e. number_text_of known.kind (cast_unsigned w64 z)) table;
}

pub fine_eight : (table : List Known) (n bits : ℕ) → IsNumber n → bits < 2 ^ 64 → HasItsType table (slot_entry (eight_slot n bits)) → FineEntry table (slot_entry (eight_slot n bits))
fine_eight table n bits number fits type_is = record {
  fits = (number, fits);
  type_is = type_is;
  text_is = each_known (IsKnownText (slot_entry (eight_slot n bits))) (λ known e. eight_text_of known.kind bits) table;
}

pub fine_text : (table : List Known) (n : ℕ) (bytes : List ℕ) → IsNumber n → length bytes < 2 ^ 64 → ∥ IsUtf8 bytes ∥₁ → HasItsType table (slot_entry (text_slot n bytes)) → FineEntry table (slot_entry (text_slot n bytes))
fine_text table n bytes number fits utf8 type_is = record {
  fits = (number, fits);
  type_is = type_is;
  text_is = each_known (IsKnownText (slot_entry (text_slot n bytes))) (λ known e. utf8_text_of known.kind bytes utf8) table;
}

-- ---- a repeated field behind others

pub each_row : (n : ℕ) (slots : List Slot) (tail : List Entry) → AllByRecursion (λ slot. eqb slot.number n ≡ false) slots → each_at n (row_fields slots tail) ≡ each_at n tail
unfolding each_at
each_row n [] tail other = refl
each_row n (slot ∷ slots) tail other =
    flat_map-append (bytes_where n) (slot_fields slot) (row_fields slots tail) ∙ by_test slot.absent ∙ each_row n slots tail other.1
  where
    by_test : (b : Bool) → flat_map (bytes_where n) (cond b [] (slot_entry slot ∷ [])) ++ flat_map (bytes_where n) (row_fields slots tail) ≡ flat_map (bytes_where n) (row_fields slots tail)
    by_test true = refl
    by_test false = ap (λ t. (cond t (bytes_or_none (Some slot.held) ∷ []) [] ++ []) ++ flat_map (bytes_where n) (row_fields slots tail)) other.0

-- ---- how long a message is at most

groups_by_test : (room v : ℕ) (b : Bool) (rest : List ℕ) → length rest ≤ suc room → length (cond b (v ∷ []) ((128 + v % 128) ∷ rest)) ≤ suc (suc room)
groups_by_test room v true rest most = omega arith
groups_by_test room v false rest most = omega (arith, most)

groups_most : (room v : ℕ) → length (groups room v) ≤ suc room
unfolding groups
groups_most zero v = omega arith
groups_most (suc room) v = groups_by_test room v (ltb v 128) (groups room (v / 128)) (groups_most room (v / 128))

pub varint_most : (v : ℕ) → length (varint v) ≤ 10
unfolding varint
varint_most v = groups_most 9 v

abbrev pub held_most : Held → ℕ
held_most (as_number v) = 10
held_most (as_eight v) = 8
held_most (as_bytes bytes) = 10 + length bytes
held_most (as_four v) = 4

spelling_held_most : (held : Held) → length (spelling_of_held held) ≤ held_most held
spelling_held_most (as_number v) = varint_most v
spelling_held_most (as_eight v) = omega arith
spelling_held_most (as_bytes bytes) = omega (arith, length-append (varint (length bytes)) bytes, varint_most (length bytes))
spelling_held_most (as_four v) = omega arith

pub spelling_most : (entry : Entry) → length (spelling_of entry) ≤ 10 + held_most entry.held
spelling_most entry =
    omega (arith, length-append (tag_of entry.number (wire_of entry.held)) (spelling_of_held entry.held), varint_most (entry.number * 8 + wire_of entry.held), spelling_held_most entry.held)

abbrev pub row_most : List Slot → ℕ
row_most [] = 0
row_most (slot ∷ slots) = 10 + held_most slot.held + row_most slots

slot_most : (b : Bool) (entry : Entry) (rest : List Entry) → length (message_of (cond b [] (entry ∷ []) ++ rest)) ≤ 10 + held_most entry.held + length (message_of rest)
unfolding message_of
slot_most true entry rest = omega arith
slot_most false entry rest = omega (arith, spelling_most entry, length-append (spelling_of entry) (flat_map spelling_of rest))

pub message_most : (slots : List Slot) (tail : List Entry) → length (message_of (row_fields slots tail)) ≤ row_most slots + length (message_of tail)
message_most [] tail = omega arith
message_most (slot ∷ slots) tail = omega (arith, slot_most slot.absent (slot_entry slot) (row_fields slots tail), message_most slots tail)

pub last_most : (slot : Slot) → length (message_of (slot_fields slot)) ≤ 10 + held_most slot.held
unfolding message_of
last_most slot = by_test slot.absent
  where
    by_test : (b : Bool) → length (message_of (cond b [] (slot_entry slot ∷ []))) ≤ 10 + held_most slot.held
    by_test true = omega arith
    by_test false = omega (arith, spelling_most (slot_entry slot), length-append (spelling_of (slot_entry slot)) [])
