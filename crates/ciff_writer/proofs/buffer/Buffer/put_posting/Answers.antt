use Rattle.std.proofs.Common.{sym, ◌∙◌}
use Rattle.std.specs.Int.{w32}
use Rattle.std.proofs.lemmas.Int.{to_z-of_z}
use Rattle.ciff_writer.proofs.Fields.{posting-short, posting-middle, short-value}
use Rattle.ciff_writer.proofs.buffer.Buffer.put_posting.Goals as goal

pub returns-then-gap-lt128 : goal.returns-then-gap-lt128
returns-then-gap-lt128 g c =
    let short = short-value _ c.if-tf-gt0.true c.if-tf-lt128.true in
    let is = sym (to_z-of_z w32 c.args.tf c.ranges.tf) ∙ short.0 in
    posting-short c.args.self.now c.put.new.self c.args.gap _ c.args.tf c.if-gap-gt0.true c.if-gap-lt128.true is short.1 short.2 c.put.ensures

pub returns-else-gap-lt128 : goal.returns-else-gap-lt128
returns-else-gap-lt128 g c =
    let short = short-value _ c.if-tf-gt0.true c.if-tf-lt128.true in
    let is = sym (to_z-of_z w32 c.args.tf c.ranges.tf) ∙ short.0 in
    posting-middle c.args.self.now c.put-else-gap-lt128.new.self c.args.gap _ c.args.tf c.if-gap-lt128.false c.if-gap-lt16384.true is short.1 short.2 c.put-else-gap-lt128.ensures
