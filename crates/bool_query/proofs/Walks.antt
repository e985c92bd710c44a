-- The first tokens of a text, one after the other from the left: of two lists of them one is a front of the other.
use Rattle.std.proofs.Common.{◌≡◌, ℕ, ◌+◌, ◌<◌, IsTrue, List, [], ◌∷◌, ◌++◌, length, refl, sym, ◌∙◌, ap, subst, append_assoc, length-append, arith}
use Rattle.std.proofs.lemmas.List.{append-nil}
use Rattle.std.proofs.lemmas.Bool.{false≢true}
use Rattle.bool_query.specs.Token.{Token, is_blank, is_word_byte, AreBlank, Spells, IsWithinWord, AreCut, no_token, one_more, AreFirstTokens}
use Rattle.bool_query.specs.Scan.{IsToken}
use Rattle.bool_query.proofs.Texts.{spells_some}
use Rattle.bool_query.proofs.Scanning.{word_tests, front, a_token, front_token}

-- the tokens stand first in the text, and the rest behind them; the end of the text is at this place
pub data Walk (end : ℕ) : List ℕ → List Token → List ℕ → Type 0 where
  stop : {text : List ℕ} → Walk end text [] text
  step : {text middle rest : List ℕ} {token : Token} {tokens : List Token} (at : ℕ)
      → at + length text ≡ end → IsToken text at token middle → Walk end middle tokens rest
      → Walk end text (token ∷ tokens) rest

walk_more : {end : ℕ} {text middle rest : List ℕ} {tokens : List Token} {token : Token} → Walk end text tokens middle → (at : ℕ) → at + length middle ≡ end → IsToken middle at token rest → Walk end text (tokens ++ token ∷ []) rest
walk_more stop at e t = step at e t stop
walk_more (step at' e' t' walk) at e t = step at' e' t' (walk_more walk at e t)

-- the seams before and behind a token
seam_before : (before blanks spelling rest : List ℕ) → AreBlank blanks → 0 < length spelling → ¬ IsWithinWord (before ++ blanks) spelling → ¬ IsWithinWord before (blanks ++ spelling ++ rest)
seam_before before (b ∷ bs) spelling rest blank filled seam = λ w.
    let same : w.first ≡ b = cc in
    false≢true (sym (word_tests w.first w.first_in_word).no_blank ∙ ap is_blank same ∙ blank.0)
seam_before before [] (s ∷ ss) rest blank filled seam = λ w.
    let same : w.first ≡ s = cc in
    seam (record {
      front = w.front;
      last = w.last;
      first = s;
      rest = ss;
      ends = append-nil before ∙ w.ends;
      begins = refl;
      last_in_word = w.last_in_word;
      first_in_word = subst (λ (n : ℕ). IsTrue (is_word_byte n)) same w.first_in_word;
    })
seam_before before [] [] rest blank filled seam = absurd (omega arith)

seam_behind : (front spelling rest : List ℕ) → ¬ IsWithinWord (front ++ spelling) rest → ¬ IsWithinWord spelling rest
seam_behind front spelling rest seam = λ w. seam (record {
  front = front ++ w.front;
  last = w.last;
  first = w.first;
  rest = w.rest;
  ends = ap (λ (l : List ℕ). front ++ l) w.ends ∙ sym (append_assoc front w.front (w.last ∷ []));
  begins = w.begins;
  last_in_word = w.last_in_word;
  first_in_word = w.first_in_word;
})

cut_walk : {bytes : List ℕ} {tokens : List Token} → AreCut bytes tokens → (rest text : List ℕ) → text ≡ bytes ++ rest → ¬ IsWithinWord bytes rest → Walk (length text) text tokens rest
cut_walk no_token rest text e seam = subst (λ (l : List ℕ). Walk (length text) text [] l) e stop
cut_walk (one_more {before = before} {token = token} blanks spelling cut blank spells inner) rest text e seam =
    let regrouped : (before ++ blanks ++ spelling) ++ rest ≡ before ++ (blanks ++ spelling ++ rest) = simp append_assoc in
    let split : text ≡ before ++ (blanks ++ spelling ++ rest) = e ∙ regrouped in
    walk_more
    (cut_walk cut (blanks ++ spelling ++ rest) text split (seam_before before blanks spelling rest blank (spells_some spells) inner))
    (length before)
    (sym (ap length split ∙ length-append before (blanks ++ spelling ++ rest)))
    (record {
      blanks = blanks;
      spelling = spelling;
      blank = blank;
      spells = subst (λ (n : ℕ). Spells spelling n token) (length-append before blanks) spells;
      spelt = refl;
      seam = seam_behind (before ++ blanks) spelling rest seam;
    })

pub first_walk : {text rest : List ℕ} {tokens : List Token} → AreFirstTokens text tokens rest → Walk (length text) text tokens rest
first_walk {text} {rest} first = cut_walk first.cut rest text first.spelt first.seam

-- one of two lists of first tokens is a front of the other
pub data Compared (end : ℕ) (a b : List Token) (r s : List ℕ) : Type 0 where
  same : a ≡ b → r ≡ s → Compared end a b r s
  more_right : (token : Token) (more : List Token) → b ≡ a ++ token ∷ more → Walk end r (token ∷ more) s → Compared end a b r s
  more_left : (token : Token) (more : List Token) → a ≡ b ++ token ∷ more → Walk end s (token ∷ more) r → Compared end a b r s

further : {end : ℕ} {a b : List Token} {r s : List ℕ} (token other : Token) → token ≡ other → Compared end a b r s → Compared end (token ∷ a) (other ∷ b) r s
further token other e (same p q) = same (cc) q
further token other e (more_right next more p walk) = more_right next more (cc) walk
further token other e (more_left next more p walk) = more_left next more (cc) walk

record SameToken (token other : Token) (middle behind : List ℕ) : Type 0 where
  same_token : token ≡ other
  same_rest : middle ≡ behind

token_once : {end : ℕ} {text middle behind : List ℕ} {token other : Token} (at place : ℕ) → at + length text ≡ end → place + length text ≡ end → IsToken text at token middle → IsToken text place other behind → SameToken token other middle behind
token_once {text = text} {middle = middle} {behind = behind} {token = token} {other = other} at place e f t u =
    let here : at ≡ place = omega arith in
    let one : a_token token middle ≡ a_token other behind = sym (front_token t) ∙ ap (front text) here ∙ front_token u in
    record { same_token = cc; same_rest = cc }

pub compare : {end : ℕ} {text r s : List ℕ} {a b : List Token} → Walk end text a r → Walk end text b s → Compared end a b r s
compare stop stop = same refl refl
compare stop (step {token = token} {tokens = tokens} at e t walk) = more_right token tokens refl (step at e t walk)
compare (step {token = token} {tokens = tokens} at e t walk) stop = more_left token tokens refl (step at e t walk)
compare {end = end} {s = s} (step {token = token} at e t walk) (step {token = other} {tokens = others} place f u trail) =
    let one = token_once at place e f t u in
    further token other one.same_token (compare walk (subst (λ (l : List ℕ). Walk end l others s) (sym one.same_rest) trail))
