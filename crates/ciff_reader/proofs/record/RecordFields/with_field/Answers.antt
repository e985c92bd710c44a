use Rattle.std.proofs.Common.{◌∙◌, arith, rules}
use mir.Val.{SFits}
use Rattle.std.specs.Int.{w32}
use Rattle.std.proofs.lemmas.Int.{to_z-of_z}
use Rattle.ciff_wire.specs.Field.{entry_of}
use Rattle.ciff_reader.proofs.RecordFields.{takes_number, takes_length, takes_name, takes_bad_name, takes_other}
use Rattle.ciff_reader.proofs.record.RecordFields.with_field.Goals as goal

pub returns-in_ok-number_in-in-1 : goal.returns-in_ok-number_in-in-1
returns-in_ok-number_in-in-1 c =
    let fits : SFits w32 c.as_i32.result = search rules in
    let size : SFits w32 c.args.self.length = search rules in
    record {
      taken = takes_number c.fields_grow.ensures.held c.fields_grow.ensures.texts (entry_of c.args.field) c.args.self c.in_ok-number_in-in-1.field-0 _ _
          c.in-1.is c.in_ok-number_in-in-1.ensures.number (to_z-of_z w32 c.as_i32.result fits ∙ c.as_i32.ensures.same) (to_z-of_z w32 c.args.self.length size);
    }

pub returns-in_ok-number_in-in-3 : goal.returns-in_ok-number_in-in-3
returns-in_ok-number_in-in-3 c =
    let fits : SFits w32 c.as_i32-in-3.result = search rules in
    let number : SFits w32 c.args.self.number = search rules in
    record {
      taken = takes_length c.fields_grow.ensures.held c.fields_grow.ensures.texts (entry_of c.args.field) c.args.self c.in_ok-number_in-in-3.field-0 _ _
          c.in-3.is c.in_ok-number_in-in-3.ensures.number (to_z-of_z w32 c.as_i32-in-3.result fits ∙ c.as_i32-in-3.ensures.same) (to_z-of_z w32 c.args.self.number number);
    }

pub returns-in-Some : goal.returns-in-Some
returns-in-Some c =
    let number : SFits w32 c.args.self.number = search rules in
    let size : SFits w32 c.args.self.length = search rules in
    record {
      taken = takes_name c.fields_grow.ensures.held c.fields_grow.ensures.texts (entry_of c.args.field) c.args.self c.in_ok-bytes_in-in-2.field-0.now c.in-Some.name _ _
          c.in-2.is c.in_ok-bytes_in-in-2.ensures.bytes c.in-Some.ensures.same c.in-Some.ensures.text (to_z-of_z w32 c.args.self.number number) (to_z-of_z w32 c.args.self.length size);
    }

pub returns-in-None : goal.returns-in-None
returns-in-None c =
    let number : SFits w32 c.args.self.number = search rules in
    let size : SFits w32 c.args.self.length = search rules in
    record {
      taken = takes_bad_name c.fields_grow.ensures.held c.fields_grow.ensures.texts (entry_of c.args.field) c.args.self c.in_ok-bytes_in-in-2.field-0.now _ _
          c.in-2.is c.in_ok-bytes_in-in-2.ensures.bytes c.in-None.ensures.other (to_z-of_z w32 c.args.self.number number) (to_z-of_z w32 c.args.self.length size);
    }

pub returns-in_default : goal.returns-in_default
returns-in_default c = record {
  taken = takes_other c.fields_grow.ensures.held c.fields_grow.ensures.texts (entry_of c.args.field) c.args.self (omega arith) (omega arith) (omega arith);
}
