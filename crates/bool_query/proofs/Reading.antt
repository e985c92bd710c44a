-- What one token more, or the end of the text, does to what is read of it.
use Rattle.std.proofs.Common.{◌≡◌, ℕ, ◌+◌, ◌-◌, ◌<◌, ◌≤◌, Bool, true, false, if◌then◌else◌, bytes_eq, codes, Result, Ok, Err, IfErr, List, [], ◌∷◌, ◌++◌, length, refl, sym, ◌∙◌, ap, subst, length-append, arith}
use Rattle.bool_query.specs.Token.{Token, term, and_word, or_word, not_word, place_of, AreBlank, Spells, paren_opens, paren_closes, quoted, word, AreFirstTokens, AreTokens}
use Rattle.bool_query.specs.Scan.{IsToken, IsOpenQuote}
use Rattle.bool_query.specs.Scanned.{token_seen}
use Rattle.bool_query.specs.Tree.{Tree}
use Rattle.bool_query.specs.Fault.{AreSound, IsFault, at_token, open_quote, no_operand, IsQueryOf, IsAnswer}
use Rattle.bool_query.specs.State.{Frame, Waits}
use Rattle.bool_query.specs.View.{tree_of}
use Rattle.bool_query.specs.Parser.{IsBehind, IsRefused, Leads, Refuses, Means, Fails, IsRead}
use Rattle.bool_query.specs.declared.error.QueryCause.TheVariants.{Ended, OpenQuote}
use Rattle.bool_query.specs.declared.error.ParseError.{ParseError}
use Rattle.bool_query.specs.declared.error.ParseError.TheVariants.{Fault, OutOfMemory}
use Rattle.bool_query.specs.declared.parser.Parser.{Parser}
use Rattle.bool_query.specs.declared.parser.Parser.TheVariants as parser
use Rattle.bool_query.specs.declared.query.Query.{Query}
use Rattle.bool_query.specs.declared.token.Token as code_token
use Rattle.bool_query.specs.declared.token.Token.TheVariants as tokens
use Rattle.bool_query.proofs.Texts.{spells_some, first_none, first_more, first_place, tokens_whole, tokens_before}

-- places of tokens

place_chosen : (bytes : List ℕ) (at : ℕ) (a b c : Bool) → place_of (if a then and_word at else if b then or_word at else if c then not_word at else term bytes at) ≡ at
place_chosen bytes at true b c = refl
place_chosen bytes at false true c = refl
place_chosen bytes at false false true = refl
place_chosen bytes at false false false = refl

spells_place : {spelling : List ℕ} {at : ℕ} {token : Token} → Spells spelling at token → place_of token ≡ at
spells_place paren_opens = refl
spells_place paren_closes = refl
spells_place (quoted none) = refl
spells_place (word {bytes = bytes} {at = at} filled in_word) = place_chosen bytes at (bytes_eq bytes (codes "AND")) (bytes_eq bytes (codes "OR")) (bytes_eq bytes (codes "NOT"))

seen_place : (token : code_token.Token) (at : ℕ) → place_of (token_seen token at) ≡ at
seen_place (tokens.Term w) at = refl
seen_place tokens.OpenParen at = refl
seen_place tokens.CloseParen at = refl
seen_place tokens.And at = refl
seen_place tokens.Or at = refl
seen_place tokens.Not at = refl

token_length : {text rest : List ℕ} {at : ℕ} {token : Token} (t : IsToken text at token rest) → length text ≡ (length t.blanks + length t.spelling) + length rest
token_length {rest = rest} t =
    ap length t.spelt
    ∙ length-append (t.blanks ++ t.spelling) rest
    ∙ ap (λ (n : ℕ). n + length rest) (length-append t.blanks t.spelling)

-- a token leaves less of the text
pub token_shorter : {text rest : List ℕ} {at : ℕ} {token : Token} → IsToken text at token rest → length rest < length text
token_shorter t =
    let some = spells_some t.spells in
    let whole = token_length t in
    omega arith

pub token_within : {text rest : List ℕ} (token : code_token.Token) (from at end : ℕ) → IsToken text from (token_seen token at) rest → from + length text ≤ end → at ≤ end
token_within token from at end t within =
    let place : at ≡ from + length t.blanks = sym (seen_place token at) ∙ spells_place t.spells in
    let whole = token_length t in
    omega arith

-- what is read

sound_behind : (state : Parser) {tokens : List Token} → IsBehind state tokens → AreSound tokens
sound_behind (parser.Waits waiting) behind = behind.sound
sound_behind (parser.Holds whole) behind = behind.holds.sound

pub read_none : (text : List ℕ) (state : Parser) → IsBehind state [] → IsRead text text state
read_none text state behind = record { tokens = []; first = first_none text; behind = behind }

from_place : {text rest : List ℕ} {state : Parser} (read : IsRead text rest state) (from : ℕ) → from ≡ length text - length rest → from ≡ length read.first.bytes
from_place read from e = let place = first_place read.first in omega arith

pub read_within : {text rest : List ℕ} {state : Parser} → IsRead text rest state → (from : ℕ) → from ≡ length text - length rest → from + length rest ≤ length text
read_within read from e = let place = first_place read.first in omega arith

pub read_more : {text rest behind : List ℕ} {state next : Parser} {token : Token} (from : ℕ) → from ≡ length text - length rest → IsRead text rest state → IsToken rest from token behind → Leads (IsBehind state) token (IsBehind next) → IsRead text behind next
read_more {token = token} from e read t leads = record {
  tokens = read.tokens ++ token ∷ [];
  first = first_more read.first (from_place read from e) t;
  behind = leads read.tokens read.behind;
}

refused : {text rest : List ℕ} (before : List Token) (token : Token) → AreFirstTokens text (before ++ token ∷ []) rest → AreSound before → (error : ParseError) → IsRefused before token error → IsAnswer text error
refused {text} before token first sound (Fault fault) r =
    subst (λ (n : ℕ). IsFault text n fault.cause) (sym r.0) (at_token before token first sound r.1)
refused before token first sound OutOfMemory r = tt

pub read_refused : {text rest behind : List ℕ} {state : Parser} (token : Token) (from : ℕ) → from ≡ length text - length rest → IsRead text rest state → IsToken rest from token behind → (error : ParseError) → Refuses (IsBehind state) token error → IsAnswer text error
read_refused {state = state} token from e read t error refuses =
    refused read.tokens token (first_more read.first (from_place read from e) t) (sound_behind state read.behind) error (refuses read.tokens read.behind)

pub read_quote : {text rest : List ℕ} {state : Parser} (from at : ℕ) → from ≡ length text - length rest → IsRead text rest state → IsOpenQuote rest from at → IsFault text at OpenQuote
read_quote {state = state} from at e read quote =
    open_quote (tokens_before read.first (from_place read from e) quote) (sound_behind state read.behind)

pub read_whole : {text rest : List ℕ} {state : Parser} → IsRead text rest state → AreBlank rest → (query : Query) → Means (IsBehind state) query → IsQueryOf text (tree_of query)
read_whole {text} read blank query means = means text read.tokens (tokens_whole read.first blank) read.behind

pub read_left : {text rest : List ℕ} {state : Parser} → IsRead text rest state → AreBlank rest → (error : ParseError) → Fails (IsBehind state) (length text) error → IsAnswer text error
read_left {text} read blank error fails = fails text read.tokens refl (tokens_whole read.first blank) read.behind

-- the text ends where an operand is needed
pub ended : {text : List ℕ} {tokens : List Token} {outer : List Frame} {alls nots : List Tree} {end : ℕ} → length text ≡ end → AreTokens text tokens → Waits tokens outer alls nots → IsFault text end Ended
ended {text} e are waits = subst (λ (n : ℕ). IsFault text n Ended) e (no_operand are waits.sound waits.needed)

pub if_err : {A E : Type 0} {P Q : E → Type 0} (result : Result A E) → IfErr result P → ((x : E) → P x → Q x) → IfErr result Q
if_err (Ok x) h next = tt
if_err (Err e) h next = next e h
