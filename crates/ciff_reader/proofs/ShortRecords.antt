-- A record that is spelt as most are: its number, its name and its length.
use Rattle.std.proofs.Common.{◌≡◌, ℕ, ◌+◌, ◌%◌, ◌^◌, true, List, [], ◌∷◌, length, take, drop, refl, subst, arith}
use Rattle.std.specs.Prelude.{IsUtf8}
use Rattle.std.specs.Int.{w32, cast_signed}
use Rattle.std.proofs.lemmas.List.{take_all}
use Rattle.std.proofs.lemmas.List.Elements.{All-nil, All-cons}
use Rattle.ciff_wire.specs.Field.{Entry, SpellsField}
use Rattle.ciff_wire.specs.Laws.{FieldIsAdded}
use Rattle.ciff_format.specs.Fields.{record_table, HasFields, HasText, AreTexts, held_at}
use Rattle.ciff_format.specs.Growing.{TypesGrow}
use Rattle.ciff_reader.specs.declared.record.RecordFields.{RecordFields}
use Rattle.ciff_reader.specs.Says.{ReadAs, SaysRecord}
use Rattle.ciff_reader.proofs.Fronts.{fields_begin, field_added}
use Rattle.ciff_reader.proofs.RecordFields.{number_fits, name_fits, no_text, good_text}
use Rattle.ciff_reader.proofs.ShortPostings.{number_entry, text_entry}

abbrev name_entry : List ℕ → Entry
name_entry name = text_entry 2 name

abbrev fields_of : ℕ → List ℕ → ℕ → List Entry
fields_of number name size = number_entry 1 number ∷ name_entry name ∷ number_entry 3 size ∷ []

-- ---- the three fields

texts_of : (number size : ℕ) (name : List ℕ) → ∥ IsUtf8 name ∥₁ → AreTexts record_table (fields_of number name size)
texts_of number size name good =
    All-cons (HasText record_table) (number_entry 1 number) (name_entry name ∷ number_entry 3 size ∷ []) (no_text (number_entry 1 number) (omega arith))
    (All-cons (HasText record_table) (name_entry name) (number_entry 3 size ∷ []) (good_text (name_entry name) name refl refl good)
    (All-cons (HasText record_table) (number_entry 3 size) [] (no_text (number_entry 3 size) (omega arith)) (All-nil (HasText record_table))))

fields_say : (number size : ℕ) (name : List ℕ) (kept : RecordFields) → kept.number ≡ cast_signed w32 (number % 2 ^ 32) → kept.name.now ≡ name → kept.length ≡ cast_signed w32 (size % 2 ^ 32)
    → kept.are_texts ≡ true → ∥ IsUtf8 name ∥₁ → SaysRecord (fields_of number name size) kept
unfolding held_at
fields_say number size name kept number_is name_is size_is texts good = record {
  number = number_is;
  name = λ yes. name_is;
  length = size_is;
  texts = (λ yes. texts_of number size name good, λ all. texts);
}

fields_stand : FieldIsAdded → TypesGrow → (message after last : List ℕ) (number size first second third : ℕ) (name : List ℕ) → after ≡ drop first message → last ≡ drop (first + second) message
    → first + second + third ≡ length message
    → SpellsField (take first message) (number_entry 1 number) → SpellsField (take second after) (name_entry name) → SpellsField (take third last) (number_entry 3 size)
    → HasFields record_table message (fields_of number name size)
fields_stand added grow message after last number size first second third name behind behind' all one two three =
    let none : 0 + first ≡ first = omega arith in
    let front : HasFields record_table (take first message) (number_entry 1 number ∷ []) = subst (λ (n : ℕ). HasFields record_table (take n message) (number_entry 1 number ∷ [])) none
    (field_added added grow record_table message message 0 first [] (number_entry 1 number) refl one (number_fits (number_entry 1 number) (omega arith) refl) (fields_begin record_table message)) in
    let more = field_added added grow record_table message after first second (number_entry 1 number ∷ []) (name_entry name) behind two (name_fits (name_entry name) refl refl) front in
    let whole = field_added added grow record_table message last (first + second) third (number_entry 1 number ∷ name_entry name ∷ []) (number_entry 3 size) behind' three (number_fits (number_entry 3 size) (omega arith) refl) more in
    subst (λ (m : List ℕ). HasFields record_table m (fields_of number name size)) (take_all (first + second + third) message (omega (arith, all))) whole

pub fields_read : FieldIsAdded → TypesGrow → (message after last : List ℕ) (number size first second third : ℕ) (name : List ℕ) (kept : RecordFields) → after ≡ drop first message → last ≡ drop (first + second) message
    → first + second + third ≡ length message
    → SpellsField (take first message) (number_entry 1 number) → SpellsField (take second after) (name_entry name) → SpellsField (take third last) (number_entry 3 size)
    → kept.number ≡ cast_signed w32 (number % 2 ^ 32) → kept.name.now ≡ name → kept.length ≡ cast_signed w32 (size % 2 ^ 32) → kept.are_texts ≡ true → ∥ IsUtf8 name ∥₁
    → ReadAs record_table SaysRecord message kept
fields_read added grow message after last number size first second third name kept behind behind' all one two three number_is name_is size_is texts good = record {
  fields = fields_of number name size;
  read = fields_stand added grow message after last number size first second third name behind behind' all one two three;
  says = fields_say number size name kept number_is name_is size_is texts good;
}
