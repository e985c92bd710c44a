-- At the front of each text stands nothing but blanks, an open `"`, or a token.
use Rattle.std.proofs.Common.{◌≡◌, ℕ, suc, ◌+◌, ◌<◌, inl, inr, false, nat_eq, IsTrue, List, [], ◌∷◌, ◌++◌, length, refl, sym, ◌∙◌, ap, subst, append_assoc, length-append, arith}
use Rattle.std.proofs.lemmas.Bool.{false≢true, cases_Bool, cases_eq, ne_eqb, or_from, not_from_false}
use Rattle.bool_query.specs.Token.{Token, term, open_paren, close_paren, is_blank, is_word_byte, AreBlank, HasNoQuote, word_token, Spells, paren_opens, paren_closes, quoted, word, IsWithinWord}
use Rattle.bool_query.specs.Scan.{BeginsInWord, IsWordSplit, IsToken, IsOpenQuote}
use Rattle.bool_query.proofs.Texts.{final, final_last}

pub data Scanned (text : List ℕ) (at : ℕ) : Type 0 where
  all_blank : AreBlank text → Scanned text at
  quote_left : (place : ℕ) → IsOpenQuote text at place → Scanned text at
  next_token : (token : Token) (rest : List ℕ) → IsToken text at token rest → length rest < length text → Scanned text at

past_blank : (b : ℕ) (bs : List ℕ) (at : ℕ) → IsTrue (is_blank b) → Scanned bs (suc at) → Scanned (b ∷ bs) at
past_blank b bs at e (all_blank blank) = all_blank (e, blank)
past_blank b bs at e (quote_left place q) =
    let here : suc at + length q.blanks ≡ at + suc (length q.blanks) = omega arith in
    quote_left place (record {
      blanks = b ∷ q.blanks;
      rest = q.rest;
      blank = (e, q.blank);
      no_quote = q.no_quote;
      spelt = ap (λ (l : List ℕ). b ∷ l) q.spelt;
      stands = q.stands ∙ here;
    })
past_blank b bs at e (next_token token rest t shorter) =
    let here : suc at + length t.blanks ≡ at + suc (length t.blanks) = omega arith in
    next_token token rest (record {
      blanks = b ∷ t.blanks;
      spelling = t.spelling;
      blank = (e, t.blank);
      spells = subst (λ (n : ℕ). Spells t.spelling n token) here t.spells;
      spelt = ap (λ (l : List ℕ). b ∷ l) t.spelt;
      seam = t.seam;
    }) (omega arith)

-- no word goes on behind a byte that is in none
no_word : (spelling front rest : List ℕ) (last : ℕ) → spelling ≡ front ++ last ∷ [] → is_word_byte last ≡ false → ¬ IsWithinWord spelling rest
no_word spelling front rest last e outside = λ w.
    let same : last ≡ w.last = sym (final_last front 0 last) ∙ ap (final 0) (sym e ∙ w.ends) ∙ final_last w.front 0 w.last in
    false≢true (sym outside ∙ ap is_word_byte same ∙ w.last_in_word)

scan_open : (bs : List ℕ) (at : ℕ) → Scanned (40 ∷ bs) at
scan_open bs at = next_token (open_paren (at + 0)) bs
    (record { blanks = []; spelling = 40 ∷ []; blank = tt; spells = paren_opens; spelt = refl; seam = no_word (40 ∷ []) [] bs 40 refl refl })
    (omega arith)

scan_close : (bs : List ℕ) (at : ℕ) → Scanned (41 ∷ bs) at
scan_close bs at = next_token (close_paren (at + 0)) bs
    (record { blanks = []; spelling = 41 ∷ []; blank = tt; spells = paren_closes; spelt = refl; seam = no_word (41 ∷ []) [] bs 41 refl refl })
    (omega arith)

-- the first `"` of the bytes, if there is one
data Quoted (bytes : List ℕ) : Type 0 where
  ended : (inner rest : List ℕ) → HasNoQuote inner → bytes ≡ inner ++ 34 ∷ rest → Quoted bytes
  never : HasNoQuote bytes → Quoted bytes

quote_first : (bs : List ℕ) → Quoted (34 ∷ bs)
quote_first bs = ended [] bs tt refl

quote_later : (b : ℕ) (bs : List ℕ) → ¬ (b ≡ 34) → Quoted bs → Quoted (b ∷ bs)
quote_later b bs other (ended inner rest none e) = ended (b ∷ inner) rest (other, none) (ap (λ (l : List ℕ). b ∷ l) e)
quote_later b bs other (never none) = never (other, none)

find_quote : (bytes : List ℕ) → Quoted bytes
find_quote [] = never tt
find_quote (b ∷ bs) = elim (cases_eq b 34) [
  | inl e ↦ subst (λ (n : ℕ). Quoted (n ∷ bs)) (sym e) (quote_first bs)
  | inr e ↦ quote_later b bs e (find_quote bs)
]

scan_quote : (bs : List ℕ) (at : ℕ) → Quoted bs → Scanned (34 ∷ bs) at
scan_quote bs at (ended inner rest none e) =
    let sizes : length bs ≡ length inner + suc (length rest) = ap length e ∙ length-append inner (34 ∷ rest) in
    next_token (term inner (at + 0)) rest (record {
      blanks = [];
      spelling = 34 ∷ inner ++ 34 ∷ [];
      blank = tt;
      spells = quoted none;
      spelt = ap (λ (l : List ℕ). 34 ∷ l) (e ∙ sym (append_assoc inner (34 ∷ []) rest));
      seam = no_word (34 ∷ inner ++ 34 ∷ []) (34 ∷ inner) rest 34 refl refl;
    }) (omega arith)
scan_quote bs at (never none) = quote_left (at + 0) (record { blanks = []; rest = bs; blank = tt; no_quote = none; spelt = refl; stands = refl })

-- the longest run of bytes of a word
record WordSplit (bytes : List ℕ) : Type 0 where
  word : List ℕ
  rest : List ℕ
  split : IsWordSplit bytes word rest

word_goes_on : (b : ℕ) (bs : List ℕ) → IsTrue (is_word_byte b) → WordSplit bs → WordSplit (b ∷ bs)
word_goes_on b bs e s = record {
  word = b ∷ s.word;
  rest = s.rest;
  split = record { spelt = ap (λ (l : List ℕ). b ∷ l) s.split.spelt; in_word = (e, s.split.in_word); no_more = s.split.no_more };
}

word_stops : (b : ℕ) (bs : List ℕ) → is_word_byte b ≡ false → WordSplit (b ∷ bs)
word_stops b bs e = record {
  word = [];
  rest = b ∷ bs;
  split = record {
    spelt = refl;
    in_word = tt;
    no_more = λ w. let same : b ≡ w.first = cc in false≢true (sym e ∙ ap is_word_byte same ∙ w.in_word);
  };
}

no_bytes : ¬ BeginsInWord []
no_bytes = λ w. let nothing_left : [] ≡ w.first ∷ w.rest = w.spelt in cc

split_word : (bytes : List ℕ) → WordSplit bytes
split_word [] = record { word = []; rest = []; split = record { spelt = refl; in_word = tt; no_more = no_bytes } }
split_word (b ∷ bs) = elim (cases_Bool (is_word_byte b)) [ inl e ↦ word_goes_on b bs e (split_word bs) | inr e ↦ word_stops b bs e ]

scan_word : (b : ℕ) (bs : List ℕ) (at : ℕ) → IsTrue (is_word_byte b) → Scanned (b ∷ bs) at
scan_word b bs at e =
    let s = split_word bs in
    let sizes : length bs ≡ length s.word + length s.rest = ap length s.split.spelt ∙ length-append s.word s.rest in
    next_token (word_token (b ∷ s.word) (at + 0)) s.rest (record {
      blanks = [];
      spelling = b ∷ s.word;
      blank = tt;
      spells = word (omega arith) (e, s.split.in_word);
      spelt = ap (λ (l : List ℕ). b ∷ l) s.split.spelt;
      seam = λ w. s.split.no_more (record { first = w.first; rest = w.rest; spelt = w.begins; in_word = w.first_in_word });
    }) (omega arith)

scan_byte : (b : ℕ) (bs : List ℕ) (at : ℕ) → is_blank b ≡ false → Scanned (b ∷ bs) at
scan_byte b bs at e = elim (cases_eq b 40) [
  | inl f ↦ subst (λ (n : ℕ). Scanned (n ∷ bs) at) (sym f) (scan_open bs at)
  | inr f ↦ elim (cases_eq b 41) [
    | inl g ↦ subst (λ (n : ℕ). Scanned (n ∷ bs) at) (sym g) (scan_close bs at)
    | inr g ↦ elim (cases_eq b 34) [
      | inl h ↦ subst (λ (n : ℕ). Scanned (n ∷ bs) at) (sym h) (scan_quote bs at (find_quote bs))
      | inr h ↦ scan_word b bs at (not_from_false _
          (or_from _ (nat_eq b 34) (or_from _ (nat_eq b 41) (or_from (is_blank b) (nat_eq b 40) e (ne_eqb b 40 f)) (ne_eqb b 41 g)) (ne_eqb b 34 h)))
    ]
  ]
]

pub scan : (text : List ℕ) (at : ℕ) → Scanned text at
scan [] at = all_blank tt
scan (b ∷ bs) at = elim (cases_Bool (is_blank b)) [ inl e ↦ past_blank b bs at e (scan bs (suc at)) | inr e ↦ scan_byte b bs at e ]
