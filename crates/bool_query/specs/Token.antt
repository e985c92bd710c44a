-- The tokens of a text. A text is the list of its bytes.
use Rattle.std.specs.Prelude.{◌≡◌, ◌≢◌, ℕ, ◌+◌, ◌<◌, Bool, ◌||◌, not, IsTrue, List, [], ◌∷◌, ◌++◌, length, codes, nat_eq, bytes_eq, if◌then◌else◌}
use Rattle.std.specs.List.{AllByRecursion}

-- a token, with the place of its first byte
pub data Token : Type 0 where
  term : List ℕ → ℕ → Token
  open_paren : ℕ → Token
  close_paren : ℕ → Token
  and_word : ℕ → Token
  or_word : ℕ → Token
  not_word : ℕ → Token

abbrev pub place_of : Token → ℕ
place_of (term bytes at) = at
place_of (open_paren at) = at
place_of (close_paren at) = at
place_of (and_word at) = at
place_of (or_word at) = at
place_of (not_word at) = at

-- a space or a tab
abbrev pub is_blank : ℕ → Bool
is_blank byte = nat_eq byte 32 || nat_eq byte 9

abbrev pub AreBlank : List ℕ → Type 0
AreBlank bytes = AllByRecursion (λ byte. IsTrue (is_blank byte)) bytes

-- a word is made of bytes other than a blank, `(`, `)` and `"`
abbrev pub is_word_byte : ℕ → Bool
is_word_byte byte = not (is_blank byte || nat_eq byte 40 || nat_eq byte 41 || nat_eq byte 34)

-- no `"` stands among the bytes
abbrev pub HasNoQuote : List ℕ → Type 0
HasNoQuote bytes = AllByRecursion (λ byte. byte ≢ 34) bytes

-- what a word is: one of three keywords, or a term
abbrev pub word_token : List ℕ → ℕ → Token
word_token word at =
    if bytes_eq word (codes "AND") then and_word at
    else if bytes_eq word (codes "OR") then or_word at
    else if bytes_eq word (codes "NOT") then not_word at
    else term word at

-- the bytes spell a token that begins at this place; what stands in quotes is a term as it stands
pub data Spells : List ℕ → ℕ → Token → Type 0 where
  paren_opens : {at : ℕ} → Spells (40 ∷ []) at (open_paren at)
  paren_closes : {at : ℕ} → Spells (41 ∷ []) at (close_paren at)
  quoted : {bytes : List ℕ} {at : ℕ} → HasNoQuote bytes → Spells (34 ∷ bytes ++ 34 ∷ []) at (term bytes at)
  word : {bytes : List ℕ} {at : ℕ} → 0 < length bytes
      → AllByRecursion (λ byte. IsTrue (is_word_byte byte)) bytes → Spells bytes at (word_token bytes at)

-- bytes of a word stand on both sides of the seam
pub record IsWithinWord (before behind : List ℕ) : Type 0 where
  pub front : List ℕ
  pub last : ℕ
  pub first : ℕ
  pub rest : List ℕ
  pub ends : before ≡ front ++ last ∷ []
  pub begins : behind ≡ first ∷ rest
  pub last_in_word : IsTrue (is_word_byte last)
  pub first_in_word : IsTrue (is_word_byte first)

-- The bytes fall into these tokens, with nothing but blanks between them. A token's place is the number
-- of bytes before it. No word begins within a word, so each is a longest run.
pub data AreCut : List ℕ → List Token → Type 0 where
  no_token : AreCut [] []
  one_more : {before : List ℕ} {tokens : List Token} {token : Token} (blanks spelling : List ℕ)
      → AreCut before tokens → AreBlank blanks → Spells spelling (length (before ++ blanks)) token
      → ¬ IsWithinWord (before ++ blanks) spelling
      → AreCut (before ++ blanks ++ spelling) (tokens ++ token ∷ [])

-- the text begins with these tokens, behind which this rest of it stands
pub record AreFirstTokens (text : List ℕ) (tokens : List Token) (rest : List ℕ) : Type 0 where
  pub bytes : List ℕ
  pub cut : AreCut bytes tokens
  pub spelt : text ≡ bytes ++ rest
  pub seam : ¬ IsWithinWord bytes rest

-- these are all tokens of the text
pub record AreTokens (text : List ℕ) (tokens : List Token) : Type 0 where
  pub rest : List ℕ
  pub first : AreFirstTokens text tokens rest
  pub blank : AreBlank rest

-- these are the tokens of the text before a `"` at this place, which has no later one
pub record AreTokensBefore (place : ℕ) (text : List ℕ) (tokens : List Token) : Type 0 where
  pub blanks : List ℕ
  pub rest : List ℕ
  pub first : AreFirstTokens text tokens (blanks ++ 34 ∷ rest)
  pub blank : AreBlank blanks
  pub no_quote : HasNoQuote rest
  pub stands : place ≡ length first.bytes + length blanks
