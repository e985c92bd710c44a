-- What contracts see of a parser's state.
use Rattle.std.specs.Prelude.{◌≡◌, ℕ, Bool, true, false, List, [], ◌∷◌, ◌++◌, map, length}
use Rattle.bool_query.specs.Token.{Token, open_paren, not_word, place_of, AreFirstTokens, AreTokens}
use Rattle.bool_query.specs.Fault.{IsTokenFault, IsQueryOf, IsAnswer}
use Rattle.bool_query.specs.State.{Frame, last_negates, Waits, Holds}
use Rattle.bool_query.specs.View.{tree_of, trees}
use Rattle.bool_query.specs.declared.error.ParseError.{ParseError}
use Rattle.bool_query.specs.declared.error.ParseError.TheVariants.{Fault, OutOfMemory}
use Rattle.bool_query.specs.declared.query.Query.{Query}
use Rattle.bool_query.specs.declared.parser.Open.{Open}
use Rattle.bool_query.specs.declared.parser.Waiting.{Waiting}
use Rattle.bool_query.specs.declared.parser.Whole.{Whole}
use Rattle.bool_query.specs.declared.parser.Parser.{Parser}
use Rattle.bool_query.specs.declared.parser.Parser.TheVariants as parser

-- `NOT` or `(` at a place
abbrev pub opener : Bool → ℕ → Token
opener true at = not_word at
opener false at = open_paren at

-- an open token, with the operands before it at its level
abbrev pub frame_of : Open → Frame
frame_of open_one = record {
  token = opener open_one.negates open_one.at;
  alls = trees open_one.level.alls.items;
  nots = trees open_one.level.nots.items;
}

abbrev pub frames : List Open → List Frame
frames open_ones = map frame_of open_ones

-- an operand is needed behind these tokens
abbrev pub IsWaiting : Waiting → List Token → Type 0
IsWaiting waiting tokens =
    Waits tokens (frames waiting.outer.items)
    (trees waiting.level.alls.items) (trees waiting.level.nots.items)

-- a whole operand stands last
abbrev pub IsHolding : Whole → List Token → Type 0
IsHolding whole tokens =
    Holds tokens (frames whole.outer.items)
    (trees whole.level.alls.items) (trees whole.level.nots.items) (tree_of whole.operand)

-- a `NOT` waits for the operand
abbrev pub negates : Whole → Bool
negates whole = last_negates false (frames whole.outer.items)

-- a whole operand stands last, for which no `NOT` waits
pub record IsWhole (whole : Whole) (tokens : List Token) : Type 0 where
  pub holds : IsHolding whole tokens
  pub settled : negates whole ≡ false

-- the state behind these tokens
abbrev pub IsBehind : Parser → List Token → Type 0
IsBehind (parser.Waits waiting) tokens = IsWaiting waiting tokens
IsBehind (parser.Holds whole) tokens = IsWhole whole tokens

-- the token behind these is at fault, or memory ran out
abbrev pub IsRefused : List Token → Token → ParseError → Type 0
IsRefused before token (Fault fault) =
    (fault.at ≡ place_of token) × IsTokenFault before token fault.cause
IsRefused before token OutOfMemory = Unit

-- behind tokens in the first state, this token leads to the second
abbrev pub Leads : (List Token → Type 0) → Token → (List Token → Type 0) → Type 0
Leads before token after = (tokens : List Token) → before tokens → after (tokens ++ token ∷ [])

-- behind tokens in this state, the token is at fault
abbrev pub Refuses : (List Token → Type 0) → Token → ParseError → Type 0
Refuses before token error = (tokens : List Token) → before tokens → IsRefused tokens token error

-- behind all tokens of a text in this state, the text is this query
abbrev pub Means : (List Token → Type 0) → Query → Type 0
Means state query =
    (text : List ℕ) (tokens : List Token)
    → AreTokens text tokens → state tokens → IsQueryOf text (tree_of query)

-- behind all tokens of a text in this state that ends at a place, this is its fault
abbrev pub Fails : (List Token → Type 0) → ℕ → ParseError → Type 0
Fails state end error =
    (text : List ℕ) (tokens : List Token) → length text ≡ end
    → AreTokens text tokens → state tokens → IsAnswer text error

-- the state behind the tokens of a text up to this rest of it
pub record IsRead (text rest : List ℕ) (state : Parser) : Type 0 where
  pub tokens : List Token
  pub first : AreFirstTokens text tokens rest
  pub behind : IsBehind state tokens
