-- What a parsed word says of the number that its digits spell.
use Rattle.std.proofs.Common.{◌≡◌, ◌≢◌, ◌↔◌, ℕ, ◌^◌, ◌<◌, ◌≤◌, List, length, get_or, Option, Some, None, Result, Ok, Err, sym, ap, subst, ◌∙◌, arith, [], ◌∷◌, lit<}
use Rattle.std.proofs.Math.Nat.{pow-le-pow_right}
use Rattle.std.specs.Result.{result_ok, OkIff}
use Rattle.std.specs.Str.Parse.{ParsesUnsigned, IsNumeral, digits_value}
use Rattle.std.proofs.lemmas.Str.Parse.{without_leading_plus_none}
use Rattle.std.proofs.lemmas.Int.Digits.{digits_value-lt}
use Rattle.std.proofs.lemmas.Option.{none-some, same_Some}
use Rattle.command_words.specs.Line.{Finds, Spells, Means, range}

-- ten digits make a number below 2^64
small : (k n : ℕ) → k ≤ 10 → n < 10 ^ k → n < 2 ^ 64
small k n h b = let more : 10 ^ k ≤ 10 ^ 10 = pow-le-pow_right {n = 10} (lit< tt) h in omega arith

-- a word that doesn't begin with the one byte of a plus
pub no_plus : (word : List ℕ) → ((rest : List ℕ) → word ≡ 43 ∷ rest → ⊥) → get_or word 0 0 ≢ 43
no_plus [] none e = omega (arith, e)
no_plus (first ∷ rest) none e = none rest (ap (λ x. x ∷ rest) e)

abbrev Parsed : List ℕ → Type 0
Parsed word = IsNumeral 10 word × (digits_value 10 word < 2 ^ 64)

from_plain : {E : Type 0} (word : List ℕ) (r : Result ℕ E) (number : ℕ) → length word ≤ 10 → OkIff r (Parsed word) (digits_value 10 word) → (result_ok r ≡ Some number) ↔ Spells word number
from_plain word (Ok x) number size p = (
  (λ e. record { digits = p.0.0; size = size; value = sym (same_Some x number e) ∙ p.1 }),
  (λ s. ap (λ n. Some n) (p.1 ∙ sym s.value)),
)
from_plain word (Err e) number size p = (
  (λ is. absurd (none-some number is)),
  (λ s. absurd (p (s.digits, small (length word) (digits_value 10 word) size (digits_value-lt 10 word s.digits.1)))),
)

-- a word with no sign, of at most ten bytes
pub digits_iff : {E : Type 0} (word : List ℕ) (r : Result ℕ E) (number : ℕ) → get_or word 0 0 ≢ 43 → length word ≤ 10
    → ParsesUnsigned 64 10 word r → (result_ok r ≡ Some number) ↔ Spells word number
digits_iff word r number plus size parses =
    from_plain word r number size (subst (λ w. OkIff r (Parsed w) (digits_value 10 w)) (without_leading_plus_none word plus) parses)

-- ---- the range

-- what was read of the word is this
abbrev pub Read : Option ℕ → List ℕ → Type 0
Read found word = Finds found (Spells word)

pub range_none : (least most : ℕ) (word : List ℕ) (number : ℕ) → Read None word → Means (range least most) word number → ⊥
range_none least most word number read m = none-some number ((read number).1 m.0)

pub range_out : (least most n : ℕ) (word : List ℕ) (number : ℕ) → Read (Some n) word → (least ≤ n → n ≤ most → ⊥) → Means (range least most) word number → ⊥
range_out least most n word number read out m =
    let same : n ≡ number = same_Some n number ((read number).1 m.0) in
    out (omega arith) (omega arith)

pub range_in : {E : Type 0} (least most n : ℕ) (word : List ℕ) (r : Result ℕ E) (number : ℕ) → Read (Some n) word → least ≤ n → n ≤ most → most < 2 ^ 32 → OkIff r (n < 2 ^ 32) n
    → (result_ok r ≡ Some number) ↔ Means (range least most) word number
range_in least most n word (Ok x) number read low high fits p = (
  (λ e. let same : n ≡ number = sym p.1 ∙ same_Some x number e in
      ((read number).0 (ap (λ k. Some k) same), omega arith, omega arith)),
  (λ m. let same : n ≡ number = same_Some n number ((read number).1 m.0) in ap (λ k. Some k) (p.1 ∙ same)),
)
range_in least most n word (Err e) number read low high fits p = absurd (p (omega arith))
