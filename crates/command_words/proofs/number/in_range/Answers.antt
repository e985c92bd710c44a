use Rattle.std.proofs.Common.{◌≤◌, ◌<◌, ◌^◌, arith}
use Rattle.std.proofs.lemmas.Option.{none-some}
use Rattle.command_words.proofs.Digits.{range_none, range_out, range_in}
use Rattle.command_words.proofs.number.in_range.Goals as goal
use Rattle.command_words.proofs.number.in_range.Goals.{then-number-from-via-then-number-from, then-number-from-via-else-number-from+then-number-from-2}

pub returns-in_err-number : goal.returns-in_err-number
returns-in_err-number c = λ number.
    rw c.from_residual.ensures
    ((λ e. absurd (none-some number e)), (λ m. absurd (range_none c.args.least c.args.most c.args.word.now number c.in_err-number.ensures m)))

pub returns-then-number-from : goal.returns-then-number-from
returns-then-number-from c = λ number.
    let n = c.in_ok-number.number in
    let out : c.args.least ≤ n → n ≤ c.args.most → ⊥ = λ low high. elim c.then-number-from.branch [
      | then-number-from-via-then-number-from w ↦ omega arith
      | then-number-from-via-else-number-from+then-number-from-2 w ↦ omega arith
    ] in
    ((λ e. absurd (none-some number e)), (λ m. absurd (range_out c.args.least c.args.most n c.args.word.now number c.in_ok-number.ensures out m)))

pub returns : goal.returns
returns c = λ number.
    let low : c.args.least ≤ c.in_ok-number.number = omega arith in
    let high : c.in_ok-number.number ≤ c.args.most = omega arith in
    let fits : c.args.most < 2 ^ 32 = c.ranges.most.fits in
    rw c.ok.ensures.value (range_in c.args.least c.args.most c.in_ok-number.number c.args.word.now c.try_from.result number c.in_ok-number.ensures low high fits c.try_from.ensures)
