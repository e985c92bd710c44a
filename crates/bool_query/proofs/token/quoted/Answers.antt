use Rattle.std.proofs.Common.{arith}
use Rattle.std.proofs.lemmas.Str.Pattern.{split_parts}
use Rattle.bool_query.proofs.Seams.{quoted_first, quote_left}
use Rattle.bool_query.proofs.token.quoted.Goals as goal

pub returns-in-None : goal.returns-in-None
returns-in-None c =
    let parts = split_parts 34 c.args.text.now c.split_once.result c.split_once.ensures.cases (omega arith) in
    let none = rw c.in-None.is at parts in
    quote_left c.args.text.now c.args.at none

pub returns-in-Some : goal.returns-in-Some
returns-in-Some c =
    let parts = split_parts 34 c.args.text.now c.split_once.result c.split_once.ensures.cases (omega arith) in
    let some = rw c.in-Some.is at parts in
    quoted_first c.args.text.now c.in-Some.term.now c.in-Some.behind.now c.args.at some.0 some.1
