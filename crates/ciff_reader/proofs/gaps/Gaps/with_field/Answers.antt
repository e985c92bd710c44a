use Rattle.std.proofs.Common.{[], ◌∷◌, ◌++◌, sym, inl, inr}
use Rattle.ciff_wire.specs.Field.{entry_of}
use Rattle.ciff_reader.proofs.ListFields.{no_posting, one_posting, is_posting}
use Rattle.ciff_reader.proofs.gaps.Gaps.with_field.Goals as goal

pub returns-then-field-ne4-clause-taken : goal.returns-then-field-ne4-clause-taken
returns-then-field-ne4-clause-taken c = λ fields rows says.
    (rows, no_posting c.fields_grow.ensures.each fields (entry_of c.args.field) rows c.args.self c.args.pending.now c.if-field-ne4.true says)

pub returns-in_default-clause-taken : goal.returns-in_default-clause-taken
returns-in_default-clause-taken c = inl (λ has. c.in_default.ensures.other (has.1.1.1.0 (sym c.if-field-ne4.false)))

pub returns-in_default-read_posting-clause-taken : goal.returns-in_default-read_posting-clause-taken
returns-in_default-read_posting-clause-taken c =
    inr (c.in-Some.message.now, is_posting (entry_of c.args.field) c.in-Some.message.now c.if-field-ne4.false c.in-Some.ensures.bytes, c.in_default-read_posting.ensures.read)

pub returns-clause-taken : goal.returns-clause-taken
returns-clause-taken c = λ fields rows says.
    let read = c.in-Some-read_posting.ensures.read in (
      rows ++ read.fields ∷ [],
      one_posting c.fields_grow.ensures.each fields (entry_of c.args.field) rows c.args.self c.args.pending.now c.in-Some.message.now read.fields c.in_ok-with_posting.field-0 c.with_posting.new.pending
          c.if-field-ne4.false c.in-Some.ensures.bytes read.read (c.in_ok-with_posting.ensures.taken rows read.fields read.says says.gaps) says,
    )
