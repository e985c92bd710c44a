-- What stands at the front of a text.
use Rattle.std.specs.Prelude.{◌≡◌, ℕ, ◌+◌, IsTrue, List, ◌∷◌, ◌++◌, length}
use Rattle.std.specs.List.{AllByRecursion}
use Rattle.bool_query.specs.Token.{Token, is_blank, is_word_byte, AreBlank, HasNoQuote, Spells, IsWithinWord}

-- a blank stands first, or a byte of a word
pub record BeginsWithBlank (text : List ℕ) : Type 0 where
  pub first : ℕ
  pub rest : List ℕ
  pub spelt : text ≡ first ∷ rest
  pub blank : IsTrue (is_blank first)

pub record BeginsInWord (text : List ℕ) : Type 0 where
  pub first : ℕ
  pub rest : List ℕ
  pub spelt : text ≡ first ∷ rest
  pub in_word : IsTrue (is_word_byte first)

-- the rest of the text behind the blanks at its front
pub record IsPastBlanks (text rest : List ℕ) : Type 0 where
  pub blanks : List ℕ
  pub blank : AreBlank blanks
  pub spelt : text ≡ blanks ++ rest
  pub no_more : ¬ BeginsWithBlank rest

-- the longest run of bytes of a word at the front of the text, and the rest
pub record IsWordSplit (text word rest : List ℕ) : Type 0 where
  pub spelt : text ≡ word ++ rest
  pub in_word : AllByRecursion (λ byte. IsTrue (is_word_byte byte)) word
  pub no_more : ¬ BeginsInWord rest

-- the token stands first behind blanks, and the rest behind it
pub record IsToken (text : List ℕ) (at : ℕ) (token : Token) (rest : List ℕ) : Type 0 where
  pub blanks : List ℕ
  pub spelling : List ℕ
  pub blank : AreBlank blanks
  pub spells : Spells spelling (at + length blanks) token
  pub spelt : text ≡ blanks ++ spelling ++ rest
  pub seam : ¬ IsWithinWord spelling rest

-- a `"` that has no later one stands first behind blanks
pub record IsOpenQuote (text : List ℕ) (at place : ℕ) : Type 0 where
  pub blanks : List ℕ
  pub rest : List ℕ
  pub blank : AreBlank blanks
  pub no_quote : HasNoQuote rest
  pub spelt : text ≡ blanks ++ 34 ∷ rest
  pub stands : place ≡ at + length blanks
