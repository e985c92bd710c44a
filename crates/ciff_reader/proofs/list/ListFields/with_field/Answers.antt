use Rattle.std.proofs.Common.{◌∙◌, arith, rules}
use mir.Val.{SFits}
use Rattle.std.specs.Int.{w64}
use Rattle.std.proofs.lemmas.Int.{to_z-of_z}
use Rattle.ciff_wire.specs.Field.{entry_of}
use Rattle.ciff_reader.proofs.ListFields.{takes_term, takes_bad_term, takes_df, takes_cf, takes_posting, takes_other}
use Rattle.ciff_reader.proofs.list.ListFields.with_field.Goals as goal

pub returns-in-Some : goal.returns-in-Some
returns-in-Some c =
    let df : SFits w64 c.args.self.df = search rules in
    let cf : SFits w64 c.args.self.cf = search rules in
    record {
      taken = takes_term c.fields_grow.ensures.held c.fields_grow.ensures.texts (entry_of c.args.field) c.args.self c.in_ok-bytes_in-in-1.field-0.now c.in-Some.term _ _
          c.in-1.is c.in_ok-bytes_in-in-1.ensures.bytes c.in-Some.ensures.same c.in-Some.ensures.text (to_z-of_z w64 c.args.self.df df) (to_z-of_z w64 c.args.self.cf cf);
    }

pub returns-in-None : goal.returns-in-None
returns-in-None c =
    let df : SFits w64 c.args.self.df = search rules in
    let cf : SFits w64 c.args.self.cf = search rules in
    record {
      taken = takes_bad_term c.fields_grow.ensures.held c.fields_grow.ensures.texts (entry_of c.args.field) c.args.self c.in_ok-bytes_in-in-1.field-0.now _ _
          c.in-1.is c.in_ok-bytes_in-in-1.ensures.bytes c.in-None.ensures.other (to_z-of_z w64 c.args.self.df df) (to_z-of_z w64 c.args.self.cf cf);
    }

pub returns-in_ok-number_in-in-2 : goal.returns-in_ok-number_in-in-2
returns-in_ok-number_in-in-2 c =
    let fits : SFits w64 c.as_i64.result = search rules in
    let cf : SFits w64 c.args.self.cf = search rules in
    record {
      taken = takes_df c.fields_grow.ensures.held c.fields_grow.ensures.texts (entry_of c.args.field) c.args.self c.in_ok-number_in-in-2.field-0 _ _
          c.in-2.is c.in_ok-number_in-in-2.ensures.number (to_z-of_z w64 c.as_i64.result fits ∙ c.as_i64.ensures.same) (to_z-of_z w64 c.args.self.cf cf);
    }

pub returns-in_ok-number_in-in-3 : goal.returns-in_ok-number_in-in-3
returns-in_ok-number_in-in-3 c =
    let fits : SFits w64 c.as_i64-in-3.result = search rules in
    let df : SFits w64 c.args.self.df = search rules in
    record {
      taken = takes_cf c.fields_grow.ensures.held c.fields_grow.ensures.texts (entry_of c.args.field) c.args.self c.in_ok-number_in-in-3.field-0 _ _
          c.in-3.is c.in_ok-number_in-in-3.ensures.number (to_z-of_z w64 c.as_i64-in-3.result fits ∙ c.as_i64-in-3.ensures.same) (to_z-of_z w64 c.args.self.df df);
    }

pub returns-in_ok-bytes_in-in-4 : goal.returns-in_ok-bytes_in-in-4
returns-in_ok-bytes_in-in-4 c = record {
  taken = takes_posting c.fields_grow.ensures.held c.fields_grow.ensures.texts (entry_of c.args.field) c.args.self c.in_ok-bytes_in-in-4.field-0.now c.in-4.is c.in_ok-bytes_in-in-4.ensures.bytes;
}

pub returns-in_default : goal.returns-in_default
returns-in_default c = record {
  taken = takes_other c.fields_grow.ensures.held c.fields_grow.ensures.texts (entry_of c.args.field) c.args.self (omega arith) (omega arith) (omega arith) (omega arith);
}
