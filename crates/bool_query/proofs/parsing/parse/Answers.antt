use Rattle.std.proofs.Common.{◌≤◌, ◌^◌, length, refl, sym, subst, arith, rules}
use Rattle.bool_query.specs.Fault.{IsAnswer}
use Rattle.bool_query.specs.Scanned.{token_seen}
use Rattle.bool_query.proofs.OpenTokens.{if_ok}
use Rattle.bool_query.proofs.Reading.{token_shorter, token_within, read_none, read_within, read_more, read_refused, read_quote, read_whole, read_left, if_err}
use Rattle.bool_query.proofs.parsing.parse.Goals as goal

pub tokens-init : goal.tokens-init
tokens-init c = (c.utf8.text, read_none c.args.text.now _ c.new.ensures)

pub overflow_cast-at : goal.overflow_cast-at
overflow_cast-at c =
    let within = token_within c.in-Token.token _ c.in-Token.at (length c.args.text.now) c.in-Token.ensures (read_within c.tokens.invariant.1 _ refl) in
    let few : length c.args.text.now ≤ 2 ^ 24 = c.requires.few in
    omega arith

pub returns-in_err-state-in-Token-clause-fault : goal.returns-in_err-state-in-Token-clause-fault
returns-in_err-state-in-Token-clause-fault c =
    let answer : IsAnswer c.args.text.now c.in_err-state-in-Token.field-0.0 =
    read_refused (token_seen c.in-Token.token c.in-Token.at) _ refl c.tokens.invariant.1 c.in-Token.ensures c.in_err-state-in-Token.field-0.0 c.in_err-state-in-Token.ensures.fault in
    search rules

pub tokens-smaller : goal.tokens-smaller
tokens-smaller c = token_shorter c.in-Token.ensures

pub tokens-preserved : goal.tokens-preserved
tokens-preserved c = (search rules, read_more _ refl c.tokens.invariant.1 c.in-Token.ensures c.in_ok-state-in-Token.ensures.ok)

pub returns-in-OpenQuote-clause-fault : goal.returns-in-OpenQuote-clause-fault
returns-in-OpenQuote-clause-fault c =
    subst (IsAnswer c.args.text.now) (sym c.fault.ensures) (read_quote _ c.in-OpenQuote.at refl c.tokens.invariant.1 c.in-OpenQuote.ensures)

pub returns-in-End-clause-ok : goal.returns-in-End-clause-ok
returns-in-End-clause-ok c = if_ok c.finish.result c.finish.ensures.ok (λ query means. read_whole c.tokens.invariant.1 c.in-End.ensures query means)

pub returns-in-End-clause-fault : goal.returns-in-End-clause-fault
returns-in-End-clause-fault c = if_err c.finish.result c.finish.ensures.fault (λ error fails. read_left c.tokens.invariant.1 c.in-End.ensures error fails)
