-- What one token more, or the end, says of a whole text.
use Rattle.std.proofs.Common.{◌≡◌, ℕ, ◌+◌, ◌<◌, Bool, ◌||◌, not, true, false, IsTrue, List, [], ◌∷◌, ◌++◌, length, refl, sym, ◌∙◌, ap, subst, append_assoc, length-append, arith}
use Rattle.std.proofs.lemmas.List.{append-nil}
use Rattle.std.proofs.lemmas.Bool.{false≢true}
use Rattle.bool_query.specs.Token.{Token, is_blank, is_word_byte, AreBlank, Spells, paren_opens, paren_closes, quoted, word, IsWithinWord, no_token, one_more, AreFirstTokens, AreTokens, AreTokensBefore}
use Rattle.bool_query.specs.Scan.{IsToken, IsOpenQuote}

-- the last byte behind a byte
abbrev pub final : ℕ → List ℕ → ℕ
final byte [] = byte
final byte (b ∷ bs) = final b bs

pub final_last : (front : List ℕ) (byte last : ℕ) → final byte (front ++ last ∷ []) ≡ last
final_last [] byte last = refl
final_last (b ∷ front) byte last = final_last front b last

final_append : (front : List ℕ) (byte b : ℕ) (bs : List ℕ) → final byte (front ++ b ∷ bs) ≡ final b bs
final_append [] byte b bs = refl
final_append (f ∷ front) byte b bs = final_append front f b bs

record EndsSo (b : ℕ) (bs : List ℕ) : Type 0 where
  front : List ℕ
  ends : b ∷ bs ≡ front ++ final b bs ∷ []

ends_so : (b : ℕ) (bs : List ℕ) → EndsSo b bs
ends_so b [] = record { front = []; ends = refl }
ends_so b (c ∷ bs) = let e = ends_so c bs in record { front = b ∷ e.front; ends = ap (λ (l : List ℕ). b ∷ l) e.ends }

blank_final : (b : ℕ) (bs : List ℕ) → AreBlank (b ∷ bs) → IsTrue (is_blank (final b bs))
blank_final b [] blank = blank.0
blank_final b (c ∷ bs) blank = blank_final c bs blank.1

no_word_byte : (blank x y z : Bool) → IsTrue blank → IsTrue (not (blank || x || y || z)) → ⊥
no_word_byte true x y z holds_so in_word = false≢true in_word
no_word_byte false x y z holds_so in_word = false≢true holds_so

-- a seam stays whole over blanks
seam_blanks : (bytes blanks spelling behind : List ℕ) → ¬ IsWithinWord bytes (blanks ++ spelling ++ behind) → AreBlank blanks → ¬ IsWithinWord (bytes ++ blanks) spelling
seam_blanks bytes [] spelling behind seam blank = λ w. seam (record {
  front = w.front;
  last = w.last;
  first = w.first;
  rest = w.rest ++ behind;
  ends = sym (append-nil bytes) ∙ w.ends;
  begins = ap (λ (l : List ℕ). l ++ behind) w.begins;
  last_in_word = w.last_in_word;
  first_in_word = w.first_in_word;
})
seam_blanks bytes (b ∷ bs) spelling behind seam blank = λ w.
    let same : final b bs ≡ w.last = sym (final_append bytes 0 b bs) ∙ ap (final 0) w.ends ∙ final_last w.front 0 w.last in
    no_word_byte (is_blank w.last) _ _ _ (subst (λ (n : ℕ). IsTrue (is_blank n)) same (blank_final b bs blank)) w.last_in_word

-- and behind what is longer
seam_more : (before spelling behind : List ℕ) → 0 < length spelling → ¬ IsWithinWord spelling behind → ¬ IsWithinWord (before ++ spelling) behind
seam_more before [] behind filled seam = absurd (omega arith)
seam_more before (s ∷ ss) behind filled seam = λ w.
    let e = ends_so s ss in
    let same : w.last ≡ final s ss = sym (final_last w.front 0 w.last) ∙ sym (ap (final 0) w.ends) ∙ final_append before 0 s ss in
    seam (record {
      front = e.front;
      last = final s ss;
      first = w.first;
      rest = w.rest;
      ends = e.ends;
      begins = w.begins;
      last_in_word = subst (λ (n : ℕ). IsTrue (is_word_byte n)) same w.last_in_word;
      first_in_word = w.first_in_word;
    })

pub spells_some : {spelling : List ℕ} {at : ℕ} {token : Token} → Spells spelling at token → 0 < length spelling
spells_some paren_opens = omega arith
spells_some paren_closes = omega arith
spells_some (quoted none) = omega arith
spells_some (word filled bytes) = filled

nothing_within : (behind : List ℕ) → ¬ IsWithinWord [] behind
nothing_within behind = λ w. no_end w.front w.last w.ends
  where
    no_end : (front : List ℕ) (last : ℕ) → [] ≡ front ++ last ∷ [] → ⊥
    no_end [] last e = cc
    no_end (f ∷ front) last e = cc

-- each text begins with no token
pub first_none : (text : List ℕ) → AreFirstTokens text [] text
first_none text = record { bytes = []; cut = no_token; spelt = refl; seam = nothing_within text }

-- one token more
pub first_more : {text rest behind : List ℕ} {tokens : List Token} {token : Token} {at : ℕ} (first : AreFirstTokens text tokens rest) → at ≡ length first.bytes → IsToken rest at token behind → AreFirstTokens text (tokens ++ token ∷ []) behind
first_more {behind = behind} {token = token} first e next =
    let regrouped : first.bytes ++ ((next.blanks ++ next.spelling) ++ behind) ≡ ((first.bytes ++ next.blanks) ++ next.spelling) ++ behind = simp append_assoc in
    record {
      bytes = first.bytes ++ next.blanks ++ next.spelling;
      cut = one_more next.blanks next.spelling first.cut next.blank
          (subst (λ (n : ℕ). Spells next.spelling n token) (ap (λ (n : ℕ). n + length next.blanks) e ∙ sym (length-append first.bytes next.blanks)) next.spells)
          (seam_blanks first.bytes next.blanks next.spelling behind (subst (λ (l : List ℕ). ¬ IsWithinWord first.bytes l) next.spelt first.seam) next.blank);
      spelt = first.spelt ∙ ap (λ (l : List ℕ). first.bytes ++ l) next.spelt ∙ regrouped;
      seam = seam_more (first.bytes ++ next.blanks) next.spelling behind (spells_some next.spells) next.seam;
    }

-- the place of the rest
pub first_place : {text rest : List ℕ} {tokens : List Token} (first : AreFirstTokens text tokens rest) → length first.bytes + length rest ≡ length text
first_place {rest = rest} first = sym (ap length first.spelt ∙ length-append first.bytes rest)

pub tokens_whole : {text rest : List ℕ} {tokens : List Token} → AreFirstTokens text tokens rest → AreBlank rest → AreTokens text tokens
tokens_whole {rest = rest} first blank = record { rest = rest; first = first; blank = blank }

pub tokens_before : {text rest : List ℕ} {tokens : List Token} {at place : ℕ} (first : AreFirstTokens text tokens rest) → at ≡ length first.bytes → IsOpenQuote rest at place → AreTokensBefore place text tokens
tokens_before first e quote = record {
  blanks = quote.blanks;
  rest = quote.rest;
  first = record {
    bytes = first.bytes;
    cut = first.cut;
    spelt = first.spelt ∙ ap (λ (l : List ℕ). first.bytes ++ l) quote.spelt;
    seam = subst (λ (l : List ℕ). ¬ IsWithinWord first.bytes l) quote.spelt first.seam;
  };
  blank = quote.blank;
  no_quote = quote.no_quote;
  stands = quote.stands ∙ ap (λ (n : ℕ). n + length quote.blanks) e;
}
