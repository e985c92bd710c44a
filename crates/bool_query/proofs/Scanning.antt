-- What stands at the front of a text is one thing: nothing but blanks, an open `"`, or a token.
use Rattle.std.proofs.Common.{◌≡◌, ℕ, suc, ◌+◌, ◌<◌, ◌||◌, false, cond, nat_eq, IsTrue, List, [], ◌∷◌, ◌++◌, length, refl, sym, ◌∙◌, ap, append_assoc, arith}
use Rattle.std.specs.List.{AllByRecursion}
use Rattle.std.proofs.lemmas.List.{append-nil}
use Rattle.std.proofs.lemmas.Bool.{cond-true, cond-false, ne_eqb, false_from_ne_true, not-true, or_parts}
use Rattle.bool_query.specs.Token.{Token, term, open_paren, close_paren, is_blank, is_word_byte, AreBlank, HasNoQuote, word_token, Spells, paren_opens, paren_closes, quoted, word, IsWithinWord}
use Rattle.bool_query.specs.Scan.{BeginsInWord, IsToken, IsOpenQuote}

pub data Front : Type 0 where
  nothing : Front
  a_quote : ℕ → Front
  a_token : Token → List ℕ → Front

-- the bytes behind a `"`, of which some are passed
abbrev in_quotes : List ℕ → List ℕ → ℕ → Front
in_quotes passed [] at = a_quote at
in_quotes passed (b ∷ bs) at = cond (nat_eq b 34) (a_token (term passed at) bs) (in_quotes (passed ++ b ∷ []) bs at)

-- a word, of which some bytes are passed
abbrev in_word : List ℕ → List ℕ → ℕ → Front
in_word passed [] at = a_token (word_token passed at) []
in_word passed (b ∷ bs) at = cond (is_word_byte b) (in_word (passed ++ b ∷ []) bs at) (a_token (word_token passed at) (b ∷ bs))

abbrev begun : ℕ → List ℕ → ℕ → Front
begun b bs at =
    cond (nat_eq b 40) (a_token (open_paren at) bs)
    (cond (nat_eq b 41) (a_token (close_paren at) bs)
    (cond (nat_eq b 34) (in_quotes [] bs at) (in_word [] (b ∷ bs) at)))

-- what stands at the front of a text that begins at this place
abbrev pub front : List ℕ → ℕ → Front
front [] at = nothing
front (b ∷ bs) at = cond (is_blank b) (front bs (suc at)) (begun b bs at)

past_blanks : (blanks rest : List ℕ) (at : ℕ) → AreBlank blanks → front (blanks ++ rest) at ≡ front rest (at + length blanks)
past_blanks [] rest at blank = ap (front rest) (omega arith)
past_blanks (b ∷ bs) rest at blank =
    cond-true (is_blank b) (front (bs ++ rest) (suc at)) (begun b (bs ++ rest) at) blank.0
    ∙ past_blanks bs rest (suc at) blank.1
    ∙ ap (front rest) (omega arith)

pub front_blank : (text : List ℕ) (at : ℕ) → AreBlank text → front text at ≡ nothing
front_blank [] at blank = refl
front_blank (b ∷ bs) at blank = cond-true (is_blank b) (front bs (suc at)) (begun b bs at) blank.0 ∙ front_blank bs (suc at) blank.1

-- the tests that a byte passes which is part of a word
pub record InWord (b : ℕ) : Type 0 where
  pub no_blank : is_blank b ≡ false
  pub no_open : nat_eq b 40 ≡ false
  pub no_close : nat_eq b 41 ≡ false
  pub no_quote : nat_eq b 34 ≡ false

pub word_tests : (b : ℕ) → IsTrue (is_word_byte b) → InWord b
word_tests b in_word =
    let last = or_parts (is_blank b || nat_eq b 40 || nat_eq b 41) (nat_eq b 34) (not-true _ in_word) in
    let middle = or_parts (is_blank b || nat_eq b 40) (nat_eq b 41) last.0 in
    let first = or_parts (is_blank b) (nat_eq b 40) middle.0 in
    record { no_blank = first.0; no_open = first.1; no_close = middle.1; no_quote = last.1 }

-- `"` first and none behind it
never_closed : (passed bytes : List ℕ) (at : ℕ) → HasNoQuote bytes → in_quotes passed bytes at ≡ a_quote at
never_closed passed [] at none = refl
never_closed passed (b ∷ bs) at none =
    cond-false (nat_eq b 34) (a_token (term passed at) bs) (in_quotes (passed ++ b ∷ []) bs at) (ne_eqb b 34 none.0)
    ∙ never_closed (passed ++ b ∷ []) bs at none.1

closed : (passed bytes rest : List ℕ) (at : ℕ) → HasNoQuote bytes → in_quotes passed (bytes ++ 34 ∷ rest) at ≡ a_token (term (passed ++ bytes) at) rest
closed passed [] rest at none = ap (λ (l : List ℕ). a_token (term l at) rest) (sym (append-nil passed))
closed passed (b ∷ bs) rest at none =
    cond-false (nat_eq b 34) (a_token (term passed at) (bs ++ 34 ∷ rest)) (in_quotes (passed ++ b ∷ []) (bs ++ 34 ∷ rest) at) (ne_eqb b 34 none.0)
    ∙ closed (passed ++ b ∷ []) bs rest at none.1
    ∙ ap (λ (l : List ℕ). a_token (term l at) rest) (append_assoc passed (b ∷ []) bs)

-- the rest begins with no byte of a word
word_over : (passed rest : List ℕ) (at : ℕ) → ¬ BeginsInWord rest → in_word passed rest at ≡ a_token (word_token passed at) rest
word_over passed [] at seam = refl
word_over passed (b ∷ bs) at seam =
    cond-false (is_word_byte b) (in_word (passed ++ b ∷ []) bs at) (a_token (word_token passed at) (b ∷ bs))
    (false_from_ne_true (is_word_byte b) (λ e. seam (record { first = b; rest = bs; spelt = refl; in_word = e })))

word_ends : (passed bytes rest : List ℕ) (at : ℕ) → AllByRecursion (λ byte. IsTrue (is_word_byte byte)) bytes → ¬ BeginsInWord rest → in_word passed (bytes ++ rest) at ≡ a_token (word_token (passed ++ bytes) at) rest
word_ends passed [] rest at bytes seam = word_over passed rest at seam ∙ ap (λ (l : List ℕ). a_token (word_token l at) rest) (sym (append-nil passed))
word_ends passed (b ∷ bs) rest at bytes seam =
    cond-true (is_word_byte b) (in_word (passed ++ b ∷ []) (bs ++ rest) at) (a_token (word_token passed at) (b ∷ bs ++ rest)) bytes.0
    ∙ word_ends (passed ++ b ∷ []) bs rest at bytes.1 seam
    ∙ ap (λ (l : List ℕ). a_token (word_token l at) rest) (append_assoc passed (b ∷ []) bs)

-- behind a whole word no byte of one stands
record WordLast (bytes : List ℕ) : Type 0 where
  front : List ℕ
  last : ℕ
  ends : bytes ≡ front ++ last ∷ []
  in_word : IsTrue (is_word_byte last)

word_last : (b : ℕ) (bs : List ℕ) → AllByRecursion (λ byte. IsTrue (is_word_byte byte)) (b ∷ bs) → WordLast (b ∷ bs)
word_last b [] bytes = record { front = []; last = b; ends = refl; in_word = bytes.0 }
word_last b (c ∷ bs) bytes =
    let w = word_last c bs bytes.1 in
    record { front = b ∷ w.front; last = w.last; ends = ap (λ (l : List ℕ). b ∷ l) w.ends; in_word = w.in_word }

word_seam : (b : ℕ) (bs rest : List ℕ) → AllByRecursion (λ byte. IsTrue (is_word_byte byte)) (b ∷ bs) → ¬ IsWithinWord (b ∷ bs) rest → ¬ BeginsInWord rest
word_seam b bs rest bytes seam = λ begins.
    let w = word_last b bs bytes in
    seam (record {
      front = w.front;
      last = w.last;
      first = begins.first;
      rest = begins.rest;
      ends = w.ends;
      begins = begins.spelt;
      last_in_word = w.in_word;
      first_in_word = begins.in_word;
    })

whole_word : (bytes rest : List ℕ) (at : ℕ) → 0 < length bytes → AllByRecursion (λ byte. IsTrue (is_word_byte byte)) bytes → ¬ IsWithinWord bytes rest → front (bytes ++ rest) at ≡ a_token (word_token bytes at) rest
whole_word [] rest at filled bytes seam = absurd (omega arith)
whole_word (b ∷ bs) rest at filled bytes seam =
    let t = word_tests b bytes.0 in
    cond-false (is_blank b) _ _ t.no_blank ∙ cond-false (nat_eq b 40) _ _ t.no_open ∙ cond-false (nat_eq b 41) _ _ t.no_close ∙ cond-false (nat_eq b 34) _ _ t.no_quote
    ∙ word_ends [] (b ∷ bs) rest at bytes (word_seam b bs rest bytes seam)

spelt_front : {spelling : List ℕ} {at : ℕ} {token : Token} → Spells spelling at token → (rest : List ℕ) → ¬ IsWithinWord spelling rest → front (spelling ++ rest) at ≡ a_token token rest
spelt_front paren_opens rest seam = refl
spelt_front paren_closes rest seam = refl
spelt_front (quoted {bytes = bytes} {at = at} none) rest seam =
    ap (λ (l : List ℕ). in_quotes [] l at) (append_assoc bytes (34 ∷ []) rest) ∙ closed [] bytes rest at none
spelt_front (word {bytes = bytes} {at = at} filled in_word) rest seam = whole_word bytes rest at filled in_word seam

pub front_token : {text rest : List ℕ} {at : ℕ} {token : Token} → IsToken text at token rest → front text at ≡ a_token token rest
front_token {text} {rest} {at} {token} t =
    ap (λ (l : List ℕ). front l at) (t.spelt ∙ append_assoc t.blanks t.spelling rest)
    ∙ past_blanks t.blanks (t.spelling ++ rest) at t.blank
    ∙ spelt_front t.spells rest t.seam

pub front_quote : {text : List ℕ} {at place : ℕ} → IsOpenQuote text at place → front text at ≡ a_quote place
front_quote {text} {at} {place} q =
    ap (λ (l : List ℕ). front l at) q.spelt
    ∙ past_blanks q.blanks (34 ∷ q.rest) at q.blank
    ∙ never_closed [] q.rest (at + length q.blanks) q.no_quote
    ∙ ap a_quote (sym q.stands)
