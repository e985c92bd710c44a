-- What the last field of a number holds, and whether texts are good, where a field is added.
use Rattle.std.proofs.Common.{◌≡◌, ◌≢◌, ◌↔◌, ℕ, ◌%◌, ◌^◌, Bool, false, cond, IsTrue, ℤ, List, [], ◌∷◌, ◌++◌, Option, Some, sym, ap, ◌∙◌}
use Rattle.std.specs.Int.{w32, w64, cast_signed}
use Rattle.std.proofs.lemmas.Bool.{eq-eqb, ne_eqb, false≢true}
use Rattle.ciff_wire.specs.Field.{Held, Entry, as_number, as_eight, as_bytes}
use Rattle.ciff_format.specs.Fields.{Known, HasText, AreTexts, held_at, number_or_zero, eight_or_zero, bytes_or_none, int32_at, int64_at, double_at, text_at}
use Rattle.ciff_format.specs.Growing.{LaterWins, TextsGrow}

held_same : LaterWins → (n : ℕ) (fields : List Entry) (entry : Entry) → entry.number ≡ n → held_at n (fields ++ entry ∷ []) ≡ Some entry.held
held_same wins n fields entry same =
    wins n fields entry ∙ ap (λ (b : Bool). cond b (Some entry.held) (held_at n fields)) (eq-eqb entry.number n same)

held_other : LaterWins → (n : ℕ) (fields : List Entry) (entry : Entry) → entry.number ≢ n → held_at n (fields ++ entry ∷ []) ≡ held_at n fields
held_other wins n fields entry other =
    wins n fields entry ∙ ap (λ (b : Bool). cond b (Some entry.held) (held_at n fields)) (ne_eqb entry.number n other)

-- ---- the field has the number

module _ (wins : LaterWins) (n : ℕ) (fields : List Entry) (entry : Entry) (same : entry.number ≡ n) where
  holds : (held : Held) → entry.held ≡ held → held_at n (fields ++ entry ∷ []) ≡ Some held
  holds held is = held_same wins n fields entry same ∙ ap Some is

  pub number_same : (v : ℕ) → entry.held ≡ as_number v → v ≡ number_or_zero (held_at n (fields ++ entry ∷ []))
  number_same v is = sym (ap number_or_zero (holds (as_number v) is))

  pub int32_same : (v : ℕ) (z : ℤ) → entry.held ≡ as_number v → z ≡ cast_signed w32 (v % 2 ^ 32) → z ≡ int32_at n (fields ++ entry ∷ [])
  int32_same v z is value = value ∙ ap (λ (x : ℕ). cast_signed w32 (x % 2 ^ 32)) (number_same v is)

  pub int64_same : (v : ℕ) (z : ℤ) → entry.held ≡ as_number v → z ≡ cast_signed w64 v → z ≡ int64_at n (fields ++ entry ∷ [])
  int64_same v z is value = value ∙ ap (λ (x : ℕ). cast_signed w64 x) (number_same v is)

  pub double_same : (v : ℕ) → entry.held ≡ as_eight v → v ≡ double_at n (fields ++ entry ∷ [])
  double_same v is = sym (ap eight_or_zero (holds (as_eight v) is))

  pub text_same : (bytes text : List ℕ) → entry.held ≡ as_bytes bytes → text ≡ bytes → text ≡ text_at n (fields ++ entry ∷ [])
  text_same bytes text is value = value ∙ sym (ap bytes_or_none (holds (as_bytes bytes) is))

-- ---- the field has another one

module _ (wins : LaterWins) (n : ℕ) (fields : List Entry) (entry : Entry) (other : entry.number ≢ n) where
  pub number_other : (v : ℕ) → v ≡ number_or_zero (held_at n fields) → v ≡ number_or_zero (held_at n (fields ++ entry ∷ []))
  number_other v is = is ∙ sym (ap number_or_zero (held_other wins n fields entry other))

  pub int32_other : (z : ℤ) → z ≡ int32_at n fields → z ≡ int32_at n (fields ++ entry ∷ [])
  int32_other z is = is ∙ sym (ap (λ (h : Option Held). cast_signed w32 (number_or_zero h % 2 ^ 32)) (held_other wins n fields entry other))

  pub int64_other : (z : ℤ) → z ≡ int64_at n fields → z ≡ int64_at n (fields ++ entry ∷ [])
  int64_other z is = is ∙ sym (ap (λ (h : Option Held). cast_signed w64 (number_or_zero h)) (held_other wins n fields entry other))

  pub double_other : (v : ℕ) → v ≡ double_at n fields → v ≡ double_at n (fields ++ entry ∷ [])
  double_other v is = is ∙ sym (ap eight_or_zero (held_other wins n fields entry other))

  pub text_other : (text : List ℕ) → text ≡ text_at n fields → text ≡ text_at n (fields ++ entry ∷ [])
  text_other text is = is ∙ sym (ap bytes_or_none (held_other wins n fields entry other))

-- ---- texts

pub texts_stay : TextsGrow → (table : List Known) (fields : List Entry) (entry : Entry) (good : Bool) → HasText table entry
    → (IsTrue good ↔ AreTexts table fields) → (IsTrue good ↔ AreTexts table (fields ++ entry ∷ []))
texts_stay grow table fields entry good text are = (
  λ yes. (grow table fields entry).1 (are.0 yes, text),
  λ all. are.1 ((grow table fields entry).0 all).0,
)

pub texts_end : TextsGrow → (table : List Known) (fields : List Entry) (entry : Entry) → ¬ HasText table entry
    → (IsTrue false ↔ AreTexts table (fields ++ entry ∷ []))
texts_end grow table fields entry bad = (λ no. absurd (false≢true no), λ all. absurd (bad ((grow table fields entry).0 all).1))
