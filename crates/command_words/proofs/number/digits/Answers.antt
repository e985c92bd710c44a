use Rattle.std.proofs.Common.{◌≢◌, get_or, arith}
use lib.Utf8.{encode}
use Rattle.command_words.proofs.Digits.{digits_iff, no_plus}
use Rattle.command_words.proofs.number.digits.Goals as goal

pub returns : goal.returns
unfolding encode
returns c = λ number.
    let plus : get_or c.args.word.now 0 0 ≢ 43 = no_plus c.args.word.now c.if-starts_with.ensures.cases in
    rw c.ok.ensures.value (digits_iff c.args.word.now c.parse.result number plus (omega arith) c.parse.ensures.value.0)
