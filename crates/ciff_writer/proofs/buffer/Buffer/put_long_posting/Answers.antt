use Rattle.std.proofs.Common.{◌≡◌, ◌++◌, ℤ, pos, length, ap, ◌∙◌, rules}
use mir.Val.{SFits}
use Rattle.std.specs.Int.{w32, w64}
use Rattle.std.proofs.lemmas.Int.{to_z-of_z}
use Rattle.ciff_format.specs.Canonical.{posting_fields}
use Rattle.ciff_wire.specs.Canonical.{message_of, number_field}
use Rattle.ciff_writer.proofs.Fields.{posting-long, passed, widened}
use Rattle.ciff_writer.proofs.buffer.Buffer.put_long_posting.Goals as goal

pub returns : goal.returns
returns g c =
    let fits : SFits w64 c.from.result = search rules in
    let fits-2 : SFits w64 c.from-2.result = search rules in
    let gap = passed _ _ fits c.from.ensures in
    let tf = passed _ c.args.tf fits-2 (widened _ c.args.tf c.from-2.ensures c.ranges.tf) in
    let one : c.put_number.new.self ≡ c.put.new.self ++ message_of (number_field 1 (pos c.args.gap)) = c.put_number.ensures.bytes ∙ ap (λ (z : ℤ). c.put.new.self ++ message_of (number_field 1 z)) gap in
    let two : c.put_number-2.new.self ≡ c.put_number.new.self ++ message_of (number_field 2 c.args.tf) = c.put_number-2.ensures.bytes ∙ ap (λ (z : ℤ). c.put_number.new.self ++ message_of (number_field 2 z)) tf in
    let size : c.posting_size.result ≡ length (message_of (posting_fields c.args.gap c.args.tf)) = c.posting_size.ensures.same ∙ ap (λ (z : ℤ). length (message_of (posting_fields c.args.gap z))) (to_z-of_z w32 c.args.tf c.ranges.tf) in
    posting-long c.args.self.now _ _ _ c.args.gap _ c.args.tf size c.posting_size.ensures.most c.put.ensures one two
