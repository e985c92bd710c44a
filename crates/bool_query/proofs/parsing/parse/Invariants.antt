use Rattle.std.proofs.Common.{length}
use denote.Text.{Utf8}
use denote.Shadow.{shadow}
use Rattle.bool_query.specs.Parser.{IsRead}
use Rattle.bool_query.proofs.parsing.parse.Given as goal

abbrev pub invariant-tokens : goal.invariant-tokens
invariant-tokens l = shadow (Utf8 l.rest) × IsRead l.fn.text l.rest l.state

abbrev pub decreases-tokens : goal.decreases-tokens
decreases-tokens l = length l.rest
