use Rattle.std.proofs.Common.{◌<◌, length, sym, subst, arith, false-eqb}
use Rattle.std.proofs.lemmas.Str.Pattern.{strip_prefix_char}
use Rattle.bool_query.specs.Scan.{IsToken}
use Rattle.bool_query.proofs.Seams.{opens_first, closes_first, word_first}
use Rattle.bool_query.proofs.token.first_token.Goals as goal

pub returns-in-Some : goal.returns-in-Some
returns-in-Some c =
    let stripped = strip_prefix_char 40 c.args.text.now c.strip_prefix.result c.strip_prefix.ensures.cases (omega arith) in
    let spelt = rw c.in-Some.is at stripped in
    opens_first c.args.text.now c.in-Some.behind.now c.args.at spelt

pub returns-in-Some-strip_prefix : goal.returns-in-Some-strip_prefix
returns-in-Some-strip_prefix c =
    let stripped = strip_prefix_char 41 c.args.text.now c.strip_prefix-2.result c.strip_prefix-2.ensures.cases (omega arith) in
    let spelt = rw c.in-Some-strip_prefix.is at stripped in
    closes_first c.args.text.now c.in-Some-strip_prefix.behind.now c.args.at spelt

pub returns : goal.returns
returns c =
    let paren = strip_prefix_char 40 c.args.text.now c.strip_prefix.result c.strip_prefix.ensures.cases (omega arith) in
    let no_paren = rw c.in_default.is at paren in
    let close = strip_prefix_char 41 c.args.text.now c.strip_prefix-2.result c.strip_prefix-2.ensures.cases (omega arith) in
    let no_close = rw c.in_default-strip_prefix.is at close in
    let quote = strip_prefix_char 34 c.args.text.now c.strip_prefix-3.result c.strip_prefix-3.ensures.cases (omega arith) in
    let no_quote = rw c.in_default-strip_prefix-2.is at quote in
    let filled : 0 < length c.args.text.now = omega (arith, false-eqb (length c.args.text.now) 0 c.if-is_empty.ensures) in
    subst (λ t. IsToken c.args.text.now c.args.at t c.word_split.result.1.now) (sym (c.word_token-token.ensures c.args.at))
    (word_first c.args.text.now c.word_split.result.0.now c.word_split.result.1.now c.args.at filled c.requires no_paren no_close no_quote c.word_split.ensures)
