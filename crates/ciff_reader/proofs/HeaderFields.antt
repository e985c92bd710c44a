-- What the header's fields say, with one more field.
use Rattle.std.proofs.Common.{◌≡◌, ◌≢◌, ℕ, ℤ, pos, negsuc, ◌%◌, ◌^◌, zero, suc, ◌+◌, ◌<◌, ◌≤◌, ◌⊎◌, inl, inr, true, false, IsTrue, List, [], ◌∷◌, length, set, get_or, Some, refl, sym, ap, ◌∙◌, arith}
use Rattle.std.specs.Prelude.{IsUtf8}
use Rattle.std.specs.Borrow.{Bor}
use Rattle.std.specs.Int.{w32, w64, cast_signed, FitsUnsignedBits}
use lib.IntN.{nat_abs}
use Rattle.ciff_format.specs.Messages.{header_of}
use Rattle.std.proofs.lemmas.List.{get_or-set_other}
use Rattle.std.proofs.lemmas.List.Elements.{All-nil}
use Rattle.std.proofs.lemmas.Grind.{get_or-set_at}
use Rattle.std.proofs.lemmas.Bool.{cases_eq, false≢true}
use Rattle.ciff_wire.specs.Field.{Entry, as_number, as_eight, as_bytes, wire_of}
use Rattle.ciff_format.specs.Fields.{header_table, HasItsType, HasText, number_or_zero, eight_or_zero, bytes_or_none, int32_at, int64_at, double_at, text_at}
use Rattle.ciff_format.specs.Growing.{NothingHeld, LaterWins, TextsGrow}
use Rattle.ciff_reader.specs.declared.header.HeaderFields.{HeaderFields}
use Rattle.ciff_reader.specs.Says.{TakesField, SaysHeader}
use Rattle.ciff_reader.proofs.Slots.{number_same, number_other, double_same, double_other, text_same, text_other, texts_stay, texts_end}

-- ---- types and texts

number_fits : (entry : Entry) → entry.number ≤ 6 → wire_of entry.held ≡ 0 → HasItsType header_table entry
number_fits entry few wire = (λ e. wire, (λ e. wire, (λ e. wire, (λ e. wire, (λ e. wire, (λ e. wire, (λ e. absurd (omega arith), (λ e. absurd (omega arith), tt))))))))

average_fits : (entry : Entry) → entry.number ≡ 7 → wire_of entry.held ≡ 1 → HasItsType header_table entry
average_fits entry same wire = (λ e. absurd (omega arith), (λ e. absurd (omega arith), (λ e. absurd (omega arith), (λ e. absurd (omega arith), (λ e. absurd (omega arith), (λ e. absurd (omega arith), (λ e. wire, (λ e. absurd (omega arith), tt))))))))

description_fits : (entry : Entry) → entry.number ≡ 8 → wire_of entry.held ≡ 2 → HasItsType header_table entry
description_fits entry same wire = (λ e. absurd (omega arith), (λ e. absurd (omega arith), (λ e. absurd (omega arith), (λ e. absurd (omega arith), (λ e. absurd (omega arith), (λ e. absurd (omega arith), (λ e. absurd (omega arith), (λ e. wire, tt))))))))

no_text : (entry : Entry) → entry.number ≢ 8 → HasText header_table entry
no_text entry other = (λ e. tt, (λ e. tt, (λ e. tt, (λ e. tt, (λ e. tt, (λ e. tt, (λ e. tt, (λ e. absurd (other (sym e)), tt))))))))

good_text : (entry : Entry) (bytes : List ℕ) → entry.held ≡ as_bytes bytes → ∥ IsUtf8 bytes ∥₁ → HasText header_table entry
good_text entry bytes is good = (λ e. tt, (λ e. tt, (λ e. tt, (λ e. tt, (λ e. tt, (λ e. tt, (λ e. tt, (λ e. rw is good, tt))))))))

bad_text : (entry : Entry) (bytes : List ℕ) → entry.number ≡ 8 → entry.held ≡ as_bytes bytes → ¬ ∥ IsUtf8 bytes ∥₁ → ¬ HasText header_table entry
bad_text entry bytes same is bad = λ has. let had = has.1.1.1.1.1.1.1.0 (sym same) in bad (rw is at had)

-- ---- one more field

module _ (wins : LaterWins) (grow : TextsGrow) (entry : Entry) (kept : HeaderFields) where
  pub takes_number : (v at : ℕ) → length kept.numbers ≡ 6 → entry.number ≡ at + 1 → at < 6 → entry.held ≡ as_number v
      → TakesField header_table SaysHeader entry kept (Some (record { numbers = set kept.numbers at v; average_bits = kept.average_bits; description = kept.description; are_texts = kept.are_texts }))
  takes_number v at six same low is = (
    number_fits entry (omega arith) (ap wire_of is),
    λ fields says. record {
      numbers = λ n few. elim (cases_eq n at) [
        | inl here ↦ get_or-set_at kept.numbers at n v 0 here (omega arith) ∙ number_same wins (n + 1) fields entry (omega arith) v is
        | inr else ↦ get_or-set_other kept.numbers at n v 0 else ∙ number_other wins (n + 1) fields entry (omega arith) (get_or kept.numbers n 0) (says.numbers n few)
      ];
      average = double_other wins 7 fields entry (omega arith) kept.average_bits says.average;
      description = λ yes. text_other wins 8 fields entry (omega arith) kept.description.now (says.description yes);
      texts = texts_stay grow header_table fields entry kept.are_texts (no_text entry (omega arith)) says.texts;
    },
  )

  pub takes_average : (v : ℕ) → entry.number ≡ 7 → entry.held ≡ as_eight v
      → TakesField header_table SaysHeader entry kept (Some (record { numbers = kept.numbers; average_bits = v; description = kept.description; are_texts = kept.are_texts }))
  takes_average v same is = (
    average_fits entry same (ap wire_of is),
    λ fields says. record {
      numbers = λ n few. number_other wins (n + 1) fields entry (omega arith) (get_or kept.numbers n 0) (says.numbers n few);
      average = double_same wins 7 fields entry same v is;
      description = λ yes. text_other wins 8 fields entry (omega arith) kept.description.now (says.description yes);
      texts = texts_stay grow header_table fields entry kept.are_texts (no_text entry (omega arith)) says.texts;
    },
  )

  pub takes_text : (bytes : List ℕ) (text : Bor (List ℕ)) → entry.number ≡ 8 → entry.held ≡ as_bytes bytes → text.now ≡ bytes → ∥ IsUtf8 bytes ∥₁
      → TakesField header_table SaysHeader entry kept (Some (record { numbers = kept.numbers; average_bits = kept.average_bits; description = text; are_texts = kept.are_texts }))
  takes_text bytes text same is text_is good = (
    description_fits entry same (ap wire_of is),
    λ fields says. record {
      numbers = λ n few. number_other wins (n + 1) fields entry (omega arith) (get_or kept.numbers n 0) (says.numbers n few);
      average = double_other wins 7 fields entry (omega arith) kept.average_bits says.average;
      description = λ yes. text_same wins 8 fields entry same bytes text.now is text_is;
      texts = texts_stay grow header_table fields entry kept.are_texts (good_text entry bytes is good) says.texts;
    },
  )

  pub takes_bad_text : (bytes : List ℕ) → entry.number ≡ 8 → entry.held ≡ as_bytes bytes → ¬ ∥ IsUtf8 bytes ∥₁
      → TakesField header_table SaysHeader entry kept (Some (record { numbers = kept.numbers; average_bits = kept.average_bits; description = kept.description; are_texts = false }))
  takes_bad_text bytes same is bad = (
    description_fits entry same (ap wire_of is),
    λ fields says. record {
      numbers = λ n few. number_other wins (n + 1) fields entry (omega arith) (get_or kept.numbers n 0) (says.numbers n few);
      average = double_other wins 7 fields entry (omega arith) kept.average_bits says.average;
      description = λ no. absurd (false≢true no);
      texts = texts_end grow header_table fields entry (bad_text entry bytes same is bad);
    },
  )

  pub takes_other : (entry.number ≡ 0) ⊎ (8 < entry.number) → TakesField header_table SaysHeader entry kept (Some kept)
  takes_other none = (
    (λ e. absurd (omega arith), (λ e. absurd (omega arith), (λ e. absurd (omega arith), (λ e. absurd (omega arith), (λ e. absurd (omega arith), (λ e. absurd (omega arith), (λ e. absurd (omega arith), (λ e. absurd (omega arith), tt)))))))),
    λ fields says. record {
      numbers = λ n few. number_other wins (n + 1) fields entry (omega arith) (get_or kept.numbers n 0) (says.numbers n few);
      average = double_other wins 7 fields entry (omega arith) kept.average_bits says.average;
      description = λ yes. text_other wins 8 fields entry (omega arith) kept.description.now (says.description yes);
      texts = texts_stay grow header_table fields entry kept.are_texts (no_text entry (omega arith)) says.texts;
    },
  )

-- no number is held yet
pub none_yet : (n : ℕ) → n < 6 → get_or {A = ℕ} (0 ∷ 0 ∷ 0 ∷ 0 ∷ 0 ∷ 0 ∷ []) n 0 ≡ 0
none_yet zero few = refl
none_yet (suc zero) few = refl
none_yet (suc (suc zero)) few = refl
none_yet (suc (suc (suc zero))) few = refl
none_yet (suc (suc (suc (suc zero)))) few = refl
none_yet (suc (suc (suc (suc (suc zero))))) few = refl
none_yet (suc (suc (suc (suc (suc (suc n)))))) few = absurd (omega (arith, few))

pub no_header : NothingHeld → (kept : HeaderFields) → kept.numbers ≡ 0 ∷ 0 ∷ 0 ∷ 0 ∷ 0 ∷ 0 ∷ [] → kept.average_bits ≡ 0 → kept.description.now ≡ [] → kept.are_texts ≡ true
    → SaysHeader [] kept
no_header nothing kept numbers average description texts = record {
  numbers = λ n few. ap (λ (ns : List ℕ). get_or ns n 0) numbers ∙ none_yet n few ∙ sym (ap number_or_zero (nothing (n + 1)).0);
  average = average ∙ sym (ap eight_or_zero (nothing 7).0);
  description = λ yes. description ∙ sym (ap bytes_or_none (nothing 8).0);
  texts = (λ yes. All-nil (HasText header_table), λ all. texts);
}

-- ---- the header

pub is_header : (kept : HeaderFields) (fields : List Entry) (version lists documents terms : ℤ) (text : List ℕ) → SaysHeader fields kept → IsTrue kept.are_texts
    → version ≡ cast_signed w32 (get_or kept.numbers 0 0 % 2 ^ 32) → lists ≡ cast_signed w32 (get_or kept.numbers 3 0 % 2 ^ 32) → documents ≡ cast_signed w32 (get_or kept.numbers 4 0 % 2 ^ 32)
    → terms ≡ cast_signed w64 (get_or kept.numbers 5 0) → text ≡ kept.description.now
    → record { version = version; total_lists = lists; total_docs = documents; total_terms = terms; average_bits = kept.average_bits; description = text } ≡ header_of fields
is_header kept fields version lists documents terms text says texts version_is lists_are documents_are terms_are text_is =
    let one : version ≡ int32_at 1 fields = version_is ∙ ap (λ (n : ℕ). cast_signed w32 (n % 2 ^ 32)) (says.numbers 0 (omega arith)) in
    let four : lists ≡ int32_at 4 fields = lists_are ∙ ap (λ (n : ℕ). cast_signed w32 (n % 2 ^ 32)) (says.numbers 3 (omega arith)) in
    let five : documents ≡ int32_at 5 fields = documents_are ∙ ap (λ (n : ℕ). cast_signed w32 (n % 2 ^ 32)) (says.numbers 4 (omega arith)) in
    let six : terms ≡ int64_at 6 fields = terms_are ∙ ap (λ (n : ℕ). cast_signed w64 n) (says.numbers 5 (omega arith)) in
    let seven : kept.average_bits ≡ double_at 7 fields = says.average in
    let eight : text ≡ text_at 8 fields = text_is ∙ says.description texts in
    cc

pub count_is : (kept : HeaderFields) (fields : List Entry) (n : ℕ) (z : ℤ) → n < 6 → SaysHeader fields kept → z ≡ cast_signed w32 (get_or kept.numbers n 0 % 2 ^ 32) → z ≡ int32_at (n + 1) fields
count_is kept fields n z few says is = is ∙ ap (λ (v : ℕ). cast_signed w32 (v % 2 ^ 32)) (says.numbers n few)

pub natural : (z : ℤ) (n : ℕ) → FitsUnsignedBits 32 z → n ≡ nat_abs z → z ≡ pos n
natural (pos m) n fits same = ap pos (sym same)
natural (negsuc m) n fits same = absurd fits
