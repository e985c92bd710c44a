-- What contracts see of the tokens of the code.
use Rattle.std.specs.Prelude.{ℕ, List}
use Rattle.bool_query.specs.Token.{Token, term, open_paren, close_paren, and_word, or_word, not_word, AreBlank}
use Rattle.bool_query.specs.Scan.{IsToken, IsOpenQuote}
use Rattle.bool_query.specs.declared.token.Token as code_token
use Rattle.bool_query.specs.declared.token.Token.TheVariants as tokens
use Rattle.bool_query.specs.declared.token.Scanned as code_scanned
use Rattle.bool_query.specs.declared.token.Scanned.TheVariants as scanned

-- a token of the code, at a place
abbrev pub token_seen : code_token.Token → ℕ → Token
token_seen (tokens.Term word) at = term word.now at
token_seen tokens.OpenParen at = open_paren at
token_seen tokens.CloseParen at = close_paren at
token_seen tokens.And at = and_word at
token_seen tokens.Or at = or_word at
token_seen tokens.Not at = not_word at

-- what stands first in the text behind blanks, where the text begins at this place
abbrev pub IsScanned : List ℕ → ℕ → code_scanned.Scanned → Type 0
IsScanned text from (scanned.Token token at behind) = IsToken text from (token_seen token at) behind.now
IsScanned text from (scanned.OpenQuote at) = IsOpenQuote text from at
IsScanned text from scanned.End = AreBlank text
