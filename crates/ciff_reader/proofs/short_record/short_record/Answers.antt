use Rattle.std.proofs.Common.{◌≡◌, ◌+◌, ◌-◌, length, take, drop, refl, ◌∙◌, arith, rules}
use mir.Val.{SFits}
use Rattle.std.specs.Int.{w32}
use Rattle.std.proofs.lemmas.Int.{to_z-of_z}
use Rattle.std.proofs.lemmas.List.{take_rest}
use Rattle.ciff_reader.proofs.ShortRecords.{fields_read}
use Rattle.ciff_reader.proofs.short_record.short_record.Goals as goal

pub returns : goal.returns
returns c =
    let message = c.args.message.now in
    let first = c.in_ok-number.first in
    let second = c.in_ok-name.second in
    let third = c.in_ok-size.third in
    let after = take (length message - first) (drop first message) in
    let last = take (length message - (first + second)) (drop (first + second) message) in
    let number_fits : SFits w32 c.as_i32.result = search rules in
    let size_fits : SFits w32 c.as_i32-2.result = search rules in
    let all : first + second + third ≡ length message = omega arith in
    record {
      read = fields_read c.field_after_field.ensures.added c.fields_grow.ensures.types message after last c.in_ok-number.number c.in_ok-size.size first second third c.in_ok-name.name.now _
          (take_rest message first) (take_rest message (first + second)) all c.in_ok-number.ensures.field c.in_ok-name.ensures.field c.in_ok-size.ensures.field
          (to_z-of_z w32 c.as_i32.result number_fits ∙ c.as_i32.ensures.same) refl (to_z-of_z w32 c.as_i32-2.result size_fits ∙ c.as_i32-2.ensures.same) refl c.in_ok-name.ensures.text;
    }
