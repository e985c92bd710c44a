-- Where a text is cut, and the token that stands before the cut.
use Rattle.std.proofs.Common.{◌≡◌, ◌≢◌, ℕ, zero, suc, ◌+◌, ◌-◌, ◌<◌, ◌≤◌, Bool, true, false, cond, IsTrue, List, [], ◌∷◌, ◌++◌, length, get_or, take, drop, IsUtf8, refl, sym, ◌∙◌, ap, subst, ⊎_elim, append_assoc, add-zero, length-append, length-drop, take-append-drop, get_or-drop, arith}
use Rattle.std.specs.List.{AllByRecursion, prefix_len, take_while}
use Rattle.std.specs.Str.{IsCharBoundary}
use Rattle.std.proofs.lemmas.Bool.{false≢true}
use Rattle.std.proofs.lemmas.Bool.Decides.{nat_tests}
use Rattle.std.proofs.lemmas.List.Sums.{prefix_len-le-length, prefix_len_passes, prefix_len_stops, take_while-cons}
use Rattle.std.proofs.lemmas.Str.{IsCharBoundary-start, IsCharBoundary-end, IsCharBoundary-before_ascii, IsCharBoundary-after_ascii}
use Rattle.std.proofs.str.Laws.{order}
use Rattle.bool_query.specs.Token.{Token, term, open_paren, close_paren, is_blank, is_word_byte, word_token, AreBlank, HasNoQuote, Spells, paren_opens, paren_closes, quoted, word, IsWithinWord}
use Rattle.bool_query.specs.Scan.{BeginsWithBlank, IsPastBlanks, IsWordSplit, IsToken, IsOpenQuote}
use Rattle.bool_query.specs.Scanned.{token_seen, IsScanned}
use Rattle.bool_query.specs.declared.token.Scanned as code_scanned
use Rattle.bool_query.specs.declared.token.Scanned.TheVariants as scanned
use Rattle.bool_query.proofs.Texts.{final, final_last}

-- the longest front whose bytes pass a test

module _ (p : ℕ → Bool) where
  abbrev AllPass : List ℕ → Type 0
  AllPass xs = AllByRecursion (λ byte. IsTrue (p byte)) xs

  one_more_passes : (x : ℕ) (xs : List ℕ) (b : Bool) → p x ≡ b → AllPass xs → AllPass (cond b (x ∷ xs) [])
  one_more_passes x xs true e rest = (e, rest)
  one_more_passes x xs false e rest = tt

  pub front_passes : (xs : List ℕ) → AllByRecursion (λ byte. IsTrue (p byte)) (take (prefix_len p xs) xs)
  front_passes [] = tt
  front_passes (x ∷ xs) = subst AllPass (sym (take_while-cons p x xs)) (one_more_passes x (take_while p xs) (p x) refl (front_passes xs))

  pub front_stops : (xs : List ℕ) (x : ℕ) (rest : List ℕ) → drop (prefix_len p xs) xs ≡ x ∷ rest → p x ≡ false
  front_stops xs x rest e =
      let n = prefix_len p xs in
      let there : n < length xs = omega (arith, length-drop n xs, ap length e) in
      let read : get_or xs n 0 ≡ x = ap (λ i. get_or xs i 0) (sym (add-zero n)) ∙ sym (get_or-drop n xs 0 0) ∙ ap (λ (l : List ℕ). get_or l 0 0) e in
      sym (ap p read) ∙ prefix_len_stops p xs 0 there

  -- a cut behind bytes that are ASCII, or before one
  pub cut_behind : ((b : ℕ) → p b ≡ true → b < 128) → (xs : List ℕ) → IsUtf8 xs → IsCharBoundary xs (prefix_len p xs)
  cut_behind ascii xs utf8 = at_length (prefix_len p xs) refl
    where
      at_length : (n : ℕ) → n ≡ prefix_len p xs → IsCharBoundary xs n
      at_length zero e = IsCharBoundary-start xs utf8
      at_length (suc k) e =
          let less : k < prefix_len p xs = omega (arith, e) in
          let within : k < length xs = omega (arith, e, prefix_len-le-length p xs) in
          let one : k + 1 ≡ suc k = omega arith in
          subst (IsCharBoundary xs) one (IsCharBoundary-after_ascii xs k utf8 within (ascii (get_or xs k 0) (prefix_len_passes p xs k 0 less)))

  pub cut_before : ((b : ℕ) → p b ≡ false → b < 128) → (xs : List ℕ) → IsCharBoundary xs (prefix_len p xs)
  cut_before ascii xs = ⊎_elim
      (λ (within : prefix_len p xs < length xs). IsCharBoundary-before_ascii xs (prefix_len p xs) within (ascii (get_or xs (prefix_len p xs) 0) (prefix_len_stops p xs 0 within)))
      (λ (past : length xs ≤ prefix_len p xs). let whole : length xs ≡ prefix_len p xs = omega (arith, prefix_len-le-length p xs) in subst (IsCharBoundary xs) whole (IsCharBoundary-end xs))
      (order (prefix_len p xs) (length xs))

blank_ascii : (b : ℕ) → is_blank b ≡ true → b < 128
blank_ascii b e = grind (arith, nat_tests)

other_ascii : (b : ℕ) → is_word_byte b ≡ false → b < 128
other_ascii b e = grind (arith, nat_tests)

pub blanks_cut : (text : List ℕ) → IsUtf8 text → IsCharBoundary text (prefix_len is_blank text)
blanks_cut text utf8 = cut_behind is_blank blank_ascii text utf8

pub word_cut : (text : List ℕ) → IsCharBoundary text (prefix_len is_word_byte text)
word_cut text = cut_before is_word_byte other_ascii text

pub past_blanks : (text rest : List ℕ) (n : ℕ) → n ≡ prefix_len is_blank text → rest ≡ drop n text → IsPastBlanks text rest
past_blanks text rest n e behind =
    let stands : drop (prefix_len is_blank text) text ≡ rest = ap (λ i. drop i text) (sym e) ∙ sym behind in
    record {
      blanks = take (prefix_len is_blank text) text;
      blank = front_passes is_blank text;
      spelt = sym (take-append-drop (prefix_len is_blank text) text) ∙ ap (λ (l : List ℕ). take (prefix_len is_blank text) text ++ l) stands;
      no_more = λ more. false≢true (sym (front_stops is_blank text more.first more.rest (stands ∙ more.spelt)) ∙ more.blank);
    }

pub word_split : (text own rest : List ℕ) (n : ℕ) → n ≡ prefix_len is_word_byte text → own ≡ take n text → rest ≡ drop n text → IsWordSplit text own rest
word_split text own rest n e front behind =
    let stands : drop (prefix_len is_word_byte text) text ≡ rest = ap (λ i. drop i text) (sym e) ∙ sym behind in
    let same : take (prefix_len is_word_byte text) text ≡ own = ap (λ i. take i text) (sym e) ∙ sym front in
    record {
      spelt = sym (take-append-drop (prefix_len is_word_byte text) text) ∙ ap (λ (l : List ℕ). take (prefix_len is_word_byte text) text ++ l) stands ∙ ap (λ (l : List ℕ). l ++ rest) same;
      in_word = subst (AllByRecursion (λ byte. IsTrue (is_word_byte byte))) same (front_passes is_word_byte text);
      no_more = λ more. false≢true (sym (front_stops is_word_byte text more.first more.rest (stands ∙ more.spelt)) ∙ more.in_word);
    }

-- tokens at the front of a text

-- no word goes on behind a byte of none
seam_behind : (bytes : List ℕ) (last : ℕ) (behind : List ℕ) → is_word_byte last ≡ false → ¬ IsWithinWord (bytes ++ last ∷ []) behind
seam_behind bytes last behind other = λ w.
    let same : last ≡ w.last = sym (final_last bytes 0 last) ∙ ap (final 0) w.ends ∙ final_last w.front 0 w.last in
    false≢true (sym other ∙ ap is_word_byte same ∙ w.last_in_word)

at_front : (at : ℕ) (spelling : List ℕ) (token : Token) → Spells spelling at token → Spells spelling (at + length {A = ℕ} []) token
at_front at spelling token spells = subst (λ (n : ℕ). Spells spelling n token) (sym (add-zero at)) spells

pub opens_first : (text behind : List ℕ) (at : ℕ) → text ≡ 40 ∷ behind → IsToken text at (open_paren at) behind
opens_first text behind at e = record {
  blanks = [];
  spelling = 40 ∷ [];
  blank = tt;
  spells = at_front at (40 ∷ []) (open_paren at) paren_opens;
  spelt = e;
  seam = seam_behind [] 40 behind refl;
}

pub closes_first : (text behind : List ℕ) (at : ℕ) → text ≡ 41 ∷ behind → IsToken text at (close_paren at) behind
closes_first text behind at e = record {
  blanks = [];
  spelling = 41 ∷ [];
  blank = tt;
  spells = at_front at (41 ∷ []) (close_paren at) paren_closes;
  spelt = e;
  seam = seam_behind [] 41 behind refl;
}

pub no_quote : (bytes : List ℕ) → ((i : ℕ) → i < length bytes → get_or bytes i 0 ≢ 34) → HasNoQuote bytes
no_quote [] none = tt
no_quote (b ∷ bytes) none = (none 0 (omega arith), no_quote bytes (λ i less. none (suc i) (omega arith)))

pub quoted_first : (rest own behind : List ℕ) (at : ℕ) → rest ≡ own ++ 34 ∷ behind → ((i : ℕ) → i < length own → get_or own i 0 ≢ 34) → IsToken (34 ∷ rest) at (term own at) behind
quoted_first rest own behind at e none = record {
  blanks = [];
  spelling = 34 ∷ own ++ 34 ∷ [];
  blank = tt;
  spells = at_front at (34 ∷ own ++ 34 ∷ []) (term own at) (quoted (no_quote own none));
  spelt = ap (λ (l : List ℕ). 34 ∷ l) (e ∙ sym (append_assoc own (34 ∷ []) behind));
  seam = seam_behind (34 ∷ own) 34 behind refl;
}

pub quote_left : (rest : List ℕ) (at : ℕ) → ((i : ℕ) → i < length rest → get_or rest i 0 ≢ 34) → IsOpenQuote (34 ∷ rest) at at
quote_left rest at none = record {
  blanks = [];
  rest = rest;
  blank = tt;
  no_quote = no_quote rest none;
  spelt = refl;
  stands = sym (add-zero at);
}

-- the byte is of a word, since it is none of the others
in_word : (b : ℕ) → is_blank b ≢ true → b ≢ 40 → b ≢ 41 → b ≢ 34 → is_word_byte b ≡ true
in_word b blank paren close quote = grind (arith, nat_tests)

-- a word stands where no blank, parenthesis or quote does
word_filled : (text own rest : List ℕ) → 0 < length text → ¬ BeginsWithBlank text
    → ((l : List ℕ) → text ≢ 40 ∷ l) → ((l : List ℕ) → text ≢ 41 ∷ l) → ((l : List ℕ) → text ≢ 34 ∷ l)
    → IsWordSplit text own rest → 0 < length own
word_filled text (b ∷ own) rest filled blank paren close quote split = omega arith
word_filled [] [] rest filled blank paren close quote split = absurd (omega arith)
word_filled (b ∷ text) [] rest filled blank paren close quote split =
    let not_blank : is_blank b ≢ true = λ e. blank (record { first = b; rest = text; spelt = refl; blank = e }) in
    let in_one : is_word_byte b ≡ true = in_word b not_blank (λ e. paren text (ap (λ n. n ∷ text) e)) (λ e. close text (ap (λ n. n ∷ text) e)) (λ e. quote text (ap (λ n. n ∷ text) e)) in
    absurd (split.no_more (record { first = b; rest = text; spelt = sym split.spelt; in_word = in_one }))

pub word_first : (text own rest : List ℕ) (at : ℕ) → 0 < length text → ¬ BeginsWithBlank text
    → ((l : List ℕ) → text ≢ 40 ∷ l) → ((l : List ℕ) → text ≢ 41 ∷ l) → ((l : List ℕ) → text ≢ 34 ∷ l)
    → IsWordSplit text own rest → IsToken text at (word_token own at) rest
word_first text own rest at filled blank paren close quote split = record {
  blanks = [];
  spelling = own;
  blank = tt;
  spells = at_front at own (word_token own at) (word (word_filled text own rest filled blank paren close quote split) split.in_word);
  spelt = split.spelt;
  seam = λ w. split.no_more (record { first = w.first; rest = w.rest; spelt = w.begins; in_word = w.first_in_word });
}

-- behind blanks

all_append : (p : ℕ → Type 0) (xs ys : List ℕ) → AllByRecursion p xs → AllByRecursion p ys → AllByRecursion p (xs ++ ys)
all_append p [] ys front back = back
all_append p (x ∷ xs) ys front back = (front.0, all_append p xs ys front.1 back)

pub scanned_behind : {text rest : List ℕ} (past : IsPastBlanks text rest) (from at : ℕ) → at ≡ from + (length text - length rest) → (r : code_scanned.Scanned) → IsScanned rest at r → IsScanned text from r
scanned_behind {text} {rest} past from at e (scanned.Token token place behind) first =
    let blanks = length-append past.blanks first.blanks in
    let size : length past.blanks + length rest ≡ length text = sym (length-append past.blanks rest) ∙ sym (ap length past.spelt) in
    let stands : at + length first.blanks ≡ from + length (past.blanks ++ first.blanks) = omega arith in
    record {
      blanks = past.blanks ++ first.blanks;
      spelling = first.spelling;
      blank = all_append (λ byte. IsTrue (is_blank byte)) past.blanks first.blanks past.blank first.blank;
      spells = subst (λ (n : ℕ). Spells first.spelling n (token_seen token place)) stands first.spells;
      spelt = past.spelt ∙ ap (λ (l : List ℕ). past.blanks ++ l) first.spelt ∙ simp append_assoc;
      seam = first.seam;
    }
scanned_behind {text} {rest} past from at e (scanned.OpenQuote place) first =
    let blanks = length-append past.blanks first.blanks in
    let size : length past.blanks + length rest ≡ length text = sym (length-append past.blanks rest) ∙ sym (ap length past.spelt) in
    record {
      blanks = past.blanks ++ first.blanks;
      rest = first.rest;
      blank = all_append (λ byte. IsTrue (is_blank byte)) past.blanks first.blanks past.blank first.blank;
      no_quote = first.no_quote;
      spelt = past.spelt ∙ ap (λ (l : List ℕ). past.blanks ++ l) first.spelt ∙ simp append_assoc;
      stands = omega (arith, first.stands);
    }
scanned_behind {text} {rest} past from at e scanned.End first =
    subst AreBlank (sym past.spelt) (all_append (λ byte. IsTrue (is_blank byte)) past.blanks rest past.blank first)
