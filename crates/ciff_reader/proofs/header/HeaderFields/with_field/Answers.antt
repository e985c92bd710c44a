use Rattle.std.proofs.Common.{◌≡◌, ◌+◌, ◌-◌, ◌<◌, ◌⊎◌, inl, inr, length, arith, rules}
use Rattle.ciff_wire.specs.Field.{entry_of}
use Rattle.ciff_reader.proofs.HeaderFields.{takes_number, takes_average, takes_text, takes_bad_text, takes_other}
use Rattle.ciff_reader.proofs.header.HeaderFields.with_field.Goals as goal
use Rattle.ciff_reader.proofs.header.HeaderFields.with_field.Goals.{in_default-via-then-field-lt1, in_default-via-else-field-lt1+else-field-lt7}

pub returns-in_ok-eight_in-in-7 : goal.returns-in_ok-eight_in-in-7
returns-in_ok-eight_in-in-7 c = record {
  taken = takes_average c.fields_grow.ensures.held c.fields_grow.ensures.texts (entry_of c.args.field) c.args.self c.in_ok-eight_in-in-7.field-0 c.in-7.is c.in_ok-eight_in-in-7.ensures.eight;
}

pub returns-in_ok-value-in-1-to-6 : goal.returns-in_ok-value-in-1-to-6
returns-in_ok-value-in-1-to-6 c =
    let six : length c.args.self.numbers ≡ 6 = search rules in
    let number : c.args.field.number ≡ (c.args.field.number - 1) + 1 = omega arith in
    let low : c.args.field.number - 1 < 6 = omega arith in
    record {
      taken = takes_number c.fields_grow.ensures.held c.fields_grow.ensures.texts (entry_of c.args.field) c.args.self c.in_ok-value-in-1-to-6.value (c.args.field.number - 1) six number low c.in_ok-value-in-1-to-6.ensures.number;
    }

pub returns-in-Some : goal.returns-in-Some
returns-in-Some c = record {
  taken = takes_text c.fields_grow.ensures.held c.fields_grow.ensures.texts (entry_of c.args.field) c.args.self c.in_ok-bytes_in-in-8.field-0.now c.in-Some.description
      c.in-8.is c.in_ok-bytes_in-in-8.ensures.bytes c.in-Some.ensures.same c.in-Some.ensures.text;
}

pub returns-in-None : goal.returns-in-None
returns-in-None c = record {
  taken = takes_bad_text c.fields_grow.ensures.held c.fields_grow.ensures.texts (entry_of c.args.field) c.args.self c.in_ok-bytes_in-in-8.field-0.now
      c.in-8.is c.in_ok-bytes_in-in-8.ensures.bytes c.in-None.ensures.other;
}

pub returns-in_default : goal.returns-in_default
returns-in_default c =
    let n = c.args.field.number in
    let none : (n ≡ 0) ⊎ (8 < n) = elim c.in_default.branch [
      | in_default-via-then-field-lt1 w ↦ inl (omega arith)
      | in_default-via-else-field-lt1+else-field-lt7 w ↦ inr (omega arith)
    ] in
    record { taken = takes_other c.fields_grow.ensures.held c.fields_grow.ensures.texts (entry_of c.args.field) c.args.self none }
