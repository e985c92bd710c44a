-- Which texts are queries, and the first fault of one that isn't.
use Rattle.std.specs.Prelude.{◌≡◌, ℕ, Bool, true, false, IsTrue, List, [], ◌∷◌, ◌++◌, length}
use Rattle.bool_query.specs.Token.{Token, term, open_paren, close_paren, and_word, or_word, not_word, place_of, AreFirstTokens, AreTokens, AreTokensBefore}
use Rattle.bool_query.specs.Tree.{Tree}
use Rattle.bool_query.specs.Grammar.{Derives, any, not}
use Rattle.bool_query.specs.declared.error.ParseError.{ParseError}
use Rattle.bool_query.specs.declared.error.ParseError.TheVariants.{Fault, OutOfMemory}
use Rattle.bool_query.specs.declared.error.QueryCause.{QueryCause}
use Rattle.bool_query.specs.declared.error.QueryCause.TheVariants.{Ended, Unexpected, OpenQuote, OpenParen, TooDeep}

-- `(` and `NOT`, which are open until their operand is whole
abbrev pub opens : Token → Bool
opens (term bytes at) = false
opens (open_paren at) = true
opens (close_paren at) = false
opens (and_word at) = false
opens (or_word at) = false
opens (not_word at) = true

-- the first of these tokens is open: no front of them is spelt by `not`
pub record IsOpen (token : Token) (behind : List Token) : Type 0 where
  pub opening : IsTrue (opens token)
  pub unfinished : (front rest : List Token) (part : Tree)
      → token ∷ behind ≡ front ++ rest → ¬ Derives not front part

-- which of the tokens are open, in order
pub data AreOpen : List Token → List Token → Type 0 where
  none_open : AreOpen [] []
  first_open : {token : Token} {tokens open_ones : List Token}
      → IsOpen token tokens → AreOpen tokens open_ones → AreOpen (token ∷ tokens) (token ∷ open_ones)
  first_closed : {token : Token} {tokens open_ones : List Token}
      → ¬ IsOpen token tokens → AreOpen tokens open_ones → AreOpen (token ∷ tokens) open_ones

-- no `(` is among the tokens
abbrev pub HasNoParen : List Token → Type 0
HasNoParen [] = Unit {0}
HasNoParen (term bytes at ∷ tokens) = HasNoParen tokens
HasNoParen (open_paren at ∷ tokens) = ⊥
HasNoParen (close_paren at ∷ tokens) = HasNoParen tokens
HasNoParen (and_word at ∷ tokens) = HasNoParen tokens
HasNoParen (or_word at ∷ tokens) = HasNoParen tokens
HasNoParen (not_word at ∷ tokens) = HasNoParen tokens

-- the innermost open `(` of the tokens stands at this place
pub record IsInnermost (tokens : List Token) (place : ℕ) : Type 0 where
  pub outer : List Token
  pub inner : List Token
  pub are_open : AreOpen tokens (outer ++ open_paren place ∷ inner)
  pub innermost : HasNoParen inner

-- some `(` of the tokens is open
abbrev pub HasOpenParen : List Token → Type 0
HasOpenParen tokens = (place : ℕ) × IsInnermost tokens place

-- behind the token an operand is needed
abbrev pub asks : Token → Bool
asks (term bytes at) = false
asks (open_paren at) = true
asks (close_paren at) = false
asks (and_word at) = true
asks (or_word at) = true
asks (not_word at) = true

-- An operand is needed behind the tokens: at the start, and behind `(`, `AND`, `OR` and `NOT`. Elsewhere
-- an operand is whole.
abbrev pub needs_operand : List Token → Bool
needs_operand [] = true
needs_operand (token ∷ []) = asks token
needs_operand (token ∷ next ∷ tokens) = needs_operand (next ∷ tokens)

-- the grammar allows the token behind these tokens
abbrev pub IsAllowed : List Token → Token → Type 0
IsAllowed before (term bytes at) = IsTrue (needs_operand before)
IsAllowed before (open_paren at) = IsTrue (needs_operand before)
IsAllowed before (close_paren at) = (¬ IsTrue (needs_operand before)) × HasOpenParen before
IsAllowed before (and_word at) = ¬ IsTrue (needs_operand before)
IsAllowed before (or_word at) = ¬ IsTrue (needs_operand before)
IsAllowed before (not_word at) = IsTrue (needs_operand before)

-- the token opens, where it is allowed, and 64 of the tokens before it are open
pub record IsTooDeep (before : List Token) (token : Token) : Type 0 where
  pub allowed : IsAllowed before token
  pub opening : IsTrue (opens token)
  pub open_ones : List Token
  pub are_open : AreOpen before open_ones
  pub full : length open_ones ≡ 64

-- the token behind these tokens is at fault, for this cause
abbrev pub IsTokenFault : List Token → Token → QueryCause → Type 0
IsTokenFault before token Unexpected = ¬ IsAllowed before token
IsTokenFault before token TooDeep = IsTooDeep before token
IsTokenFault before token Ended = ⊥
IsTokenFault before token OpenQuote = ⊥
IsTokenFault before token OpenParen = ⊥

-- none of the tokens is at fault
abbrev pub AreSound : List Token → Type 0
AreSound tokens =
    (before behind : List Token) (token : Token) (cause : QueryCause)
    → tokens ≡ before ++ token ∷ behind → ¬ IsTokenFault before token cause

-- the first fault of the text: the first token at fault, or what the text lacks at its end
pub data IsFault (text : List ℕ) : ℕ → QueryCause → Type 0 where
  at_token : (before : List Token) (token : Token) {rest : List ℕ} {cause : QueryCause}
      → AreFirstTokens text (before ++ token ∷ []) rest → AreSound before
      → IsTokenFault before token cause → IsFault text (place_of token) cause
  open_quote : {tokens : List Token} {place : ℕ}
      → AreTokensBefore place text tokens → AreSound tokens → IsFault text place OpenQuote
  no_operand : {tokens : List Token}
      → AreTokens text tokens → AreSound tokens → IsTrue (needs_operand tokens)
      → IsFault text (length text) Ended
  paren_left : {tokens : List Token} {place : ℕ}
      → AreTokens text tokens → AreSound tokens → ¬ IsTrue (needs_operand tokens)
      → IsInnermost tokens place → IsFault text place OpenParen

-- the text has no fault, and is spelt by the grammar as this tree
pub record IsQueryOf (text : List ℕ) (query : Tree) : Type 0 where
  pub tokens : List Token
  pub are_tokens : AreTokens text tokens
  pub sound : AreSound tokens
  pub ended : ¬ IsTrue (needs_operand tokens)
  pub closed : ¬ HasOpenParen tokens
  pub derived : Derives any tokens query

-- an answer that isn't a query is the first fault of the text, or memory ran out
abbrev pub IsAnswer : List ℕ → ParseError → Type 0
IsAnswer text (Fault fault) = IsFault text fault.at fault.cause
IsAnswer text OutOfMemory = Unit {0}
