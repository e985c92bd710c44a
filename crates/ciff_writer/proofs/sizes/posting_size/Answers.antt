use Rattle.std.proofs.Common.{◌≡◌, ℤ, pos, length, sym, ap, ◌∙◌, arith, rules}
use mir.Val.{SFits}
use Rattle.std.specs.Int.{w32, w64}
use Rattle.std.proofs.lemmas.Int.{to_z-of_z}
use Rattle.ciff_wire.specs.Canonical.{message_of, number_field}
use Rattle.ciff_writer.proofs.Fields.{passed, widened, length-posting, message-short, message-middle, short-value}
use Rattle.ciff_writer.proofs.sizes.posting_size.Goals as goal

pub returns-then-gap-lt128-clause-same : goal.returns-then-gap-lt128-clause-same
returns-then-gap-lt128-clause-same c =
    let short = short-value _ c.if-tf-gt0.true c.if-tf-lt128.true in
    let is = sym (to_z-of_z w32 c.args.tf c.ranges.tf) ∙ short.0 in
    sym (ap length (message-short c.args.gap _ c.args.tf c.if-gap-gt0.true c.if-gap-lt128.true is short.1 short.2))

pub returns-else-gap-lt128-clause-same : goal.returns-else-gap-lt128-clause-same
returns-else-gap-lt128-clause-same c =
    let short = short-value _ c.if-tf-gt0.true c.if-tf-lt128.true in
    let is = sym (to_z-of_z w32 c.args.tf c.ranges.tf) ∙ short.0 in
    sym (ap length (message-middle c.args.gap _ c.args.tf c.if-gap-lt128.false c.if-gap-lt16384.true is short.1 short.2))

pub returns-else-tf-gt0-clause-same : goal.returns-else-tf-gt0-clause-same
returns-else-tf-gt0-clause-same c =
    let fits : SFits w64 c.from.result = search rules in
    let fits-2 : SFits w64 c.from-else-tf-gt0.result = search rules in
    let gap = passed _ _ fits c.from.ensures in
    let tf = passed _ c.args.tf fits-2 (widened _ c.args.tf c.from-else-tf-gt0.ensures c.ranges.tf) in
    let one : c.number_size.result ≡ length (message_of (number_field 1 (pos c.args.gap))) = c.number_size.ensures.same 1 (omega arith) (omega arith) ∙ ap (λ (z : ℤ). length (message_of (number_field 1 z))) gap in
    let two : c.number_size-else-tf-gt0.result ≡ length (message_of (number_field 2 c.args.tf)) = c.number_size-else-tf-gt0.ensures.same 2 (omega arith) (omega arith) ∙ ap (λ (z : ℤ). length (message_of (number_field 2 z))) tf in
    omega (arith, one, two, length-posting c.args.gap c.args.tf)
