-- What a record's fields say, with one more field.
use Rattle.std.proofs.Common.{◌≡◌, ◌≢◌, ℕ, ◌%◌, ◌^◌, false, ℤ, List, Some, sym, ap, ◌∙◌, arith}
use Rattle.std.specs.Prelude.{IsUtf8}
use Rattle.std.specs.Borrow.{Bor}
use Rattle.std.specs.Int.{w32, cast_signed}
use Rattle.std.proofs.lemmas.Bool.{false≢true}
use Rattle.ciff_wire.specs.Field.{Entry, as_number, as_bytes, wire_of}
use Rattle.ciff_format.specs.Fields.{record_table, HasItsType, HasText}
use Rattle.ciff_format.specs.Growing.{LaterWins, TextsGrow}
use Rattle.ciff_reader.specs.declared.record.RecordFields.{RecordFields}
use Rattle.ciff_reader.specs.Says.{TakesField, SaysRecord}
use Rattle.ciff_reader.proofs.Slots.{int32_same, int32_other, text_same, text_other, texts_stay, texts_end}

-- ---- types and texts

pub number_fits : (entry : Entry) → entry.number ≢ 2 → wire_of entry.held ≡ 0 → HasItsType record_table entry
number_fits entry other wire = (λ e. wire, (λ e. absurd (other (sym e)), (λ e. wire, tt)))

pub name_fits : (entry : Entry) → entry.number ≡ 2 → wire_of entry.held ≡ 2 → HasItsType record_table entry
name_fits entry same wire = (λ e. absurd (omega arith), (λ e. wire, (λ e. absurd (omega arith), tt)))

other_fits : (entry : Entry) → entry.number ≢ 1 → entry.number ≢ 2 → entry.number ≢ 3 → HasItsType record_table entry
other_fits entry one two three = (λ e. absurd (one (sym e)), (λ e. absurd (two (sym e)), (λ e. absurd (three (sym e)), tt)))

pub no_text : (entry : Entry) → entry.number ≢ 2 → HasText record_table entry
no_text entry other = (λ e. tt, (λ e. absurd (other (sym e)), (λ e. tt, tt)))

pub good_text : (entry : Entry) (bytes : List ℕ) → entry.number ≡ 2 → entry.held ≡ as_bytes bytes → ∥ IsUtf8 bytes ∥₁ → HasText record_table entry
good_text entry bytes same is good = (λ e. tt, (λ e. rw is good, (λ e. tt, tt)))

bad_text : (entry : Entry) (bytes : List ℕ) → entry.number ≡ 2 → entry.held ≡ as_bytes bytes → ¬ ∥ IsUtf8 bytes ∥₁ → ¬ HasText record_table entry
bad_text entry bytes same is bad = λ has. let had = has.1.0 (sym same) in bad (rw is at had)

-- ---- one more field

module _ (wins : LaterWins) (grow : TextsGrow) (entry : Entry) (kept : RecordFields) where
  pub takes_number : (v : ℕ) (z size : ℤ) → entry.number ≡ 1 → entry.held ≡ as_number v → z ≡ cast_signed w32 (v % 2 ^ 32) → size ≡ kept.length
      → TakesField record_table SaysRecord entry kept (Some (record { number = z; name = kept.name; length = size; are_texts = kept.are_texts }))
  takes_number v z size same is value stays = (
    number_fits entry (omega arith) (ap wire_of is),
    λ fields says. record {
      number = int32_same wins 1 fields entry same v z is value;
      name = λ yes. text_other wins 2 fields entry (omega arith) kept.name.now (says.name yes);
      length = int32_other wins 3 fields entry (omega arith) size (stays ∙ says.length);
      texts = texts_stay grow record_table fields entry kept.are_texts (no_text entry (omega arith)) says.texts;
    },
  )

  pub takes_length : (v : ℕ) (number z : ℤ) → entry.number ≡ 3 → entry.held ≡ as_number v → z ≡ cast_signed w32 (v % 2 ^ 32) → number ≡ kept.number
      → TakesField record_table SaysRecord entry kept (Some (record { number = number; name = kept.name; length = z; are_texts = kept.are_texts }))
  takes_length v number z same is value stays = (
    number_fits entry (omega arith) (ap wire_of is),
    λ fields says. record {
      number = int32_other wins 1 fields entry (omega arith) number (stays ∙ says.number);
      name = λ yes. text_other wins 2 fields entry (omega arith) kept.name.now (says.name yes);
      length = int32_same wins 3 fields entry same v z is value;
      texts = texts_stay grow record_table fields entry kept.are_texts (no_text entry (omega arith)) says.texts;
    },
  )

  pub takes_name : (bytes : List ℕ) (name : Bor (List ℕ)) (number size : ℤ) → entry.number ≡ 2 → entry.held ≡ as_bytes bytes → name.now ≡ bytes → ∥ IsUtf8 bytes ∥₁
      → number ≡ kept.number → size ≡ kept.length
      → TakesField record_table SaysRecord entry kept (Some (record { number = number; name = name; length = size; are_texts = kept.are_texts }))
  takes_name bytes name number size same is text good stays same_size = (
    name_fits entry same (ap wire_of is),
    λ fields says. record {
      number = int32_other wins 1 fields entry (omega arith) number (stays ∙ says.number);
      name = λ yes. text_same wins 2 fields entry same bytes name.now is text;
      length = int32_other wins 3 fields entry (omega arith) size (same_size ∙ says.length);
      texts = texts_stay grow record_table fields entry kept.are_texts (good_text entry bytes same is good) says.texts;
    },
  )

  pub takes_bad_name : (bytes : List ℕ) (number size : ℤ) → entry.number ≡ 2 → entry.held ≡ as_bytes bytes → ¬ ∥ IsUtf8 bytes ∥₁
      → number ≡ kept.number → size ≡ kept.length
      → TakesField record_table SaysRecord entry kept (Some (record { number = number; name = kept.name; length = size; are_texts = false }))
  takes_bad_name bytes number size same is bad stays same_size = (
    name_fits entry same (ap wire_of is),
    λ fields says. record {
      number = int32_other wins 1 fields entry (omega arith) number (stays ∙ says.number);
      name = λ no. absurd (false≢true no);
      length = int32_other wins 3 fields entry (omega arith) size (same_size ∙ says.length);
      texts = texts_end grow record_table fields entry (bad_text entry bytes same is bad);
    },
  )

  pub takes_other : entry.number ≢ 1 → entry.number ≢ 2 → entry.number ≢ 3 → TakesField record_table SaysRecord entry kept (Some kept)
  takes_other one two three = (
    other_fits entry one two three,
    λ fields says. record {
      number = int32_other wins 1 fields entry one kept.number says.number;
      name = λ yes. text_other wins 2 fields entry two kept.name.now (says.name yes);
      length = int32_other wins 3 fields entry three kept.length says.length;
      texts = texts_stay grow record_table fields entry kept.are_texts (no_text entry two) says.texts;
    },
  )
