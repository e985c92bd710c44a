use Rattle.std.proofs.Common.{length, ap, sym, ◌∙◌, arith}
use Rattle.std.proofs.lemmas.Bool.{eqb-true, eqb-false}
use Rattle.ciff_writer.proofs.Fields.{text-none, length-text, length-varint}
use Rattle.ciff_writer.proofs.sizes.text_size.Goals as goal

pub returns-then-is_empty-clause-same : goal.returns-then-is_empty-clause-same
returns-then-is_empty-clause-same c = λ n some small.
    sym (ap length (text-none n c.args.text.now (eqb-true (length c.args.text.now) 0 (sym c.is_empty.ensures ∙ c.if-is_empty.true))))

pub overflow_add-result : goal.overflow_add-result
overflow_add-result c = omega (arith, length-varint (length c.args.text.now))

pub overflow_add-result-2 : goal.overflow_add-result-2
overflow_add-result-2 c = omega (arith, length-varint (length c.args.text.now))

pub returns-clause-same : goal.returns-clause-same
returns-clause-same c = λ n some small.
    let e = length-text n c.args.text.now small (eqb-false (length c.args.text.now) 0 (sym c.is_empty.ensures ∙ c.if-is_empty.false)) in
    omega (arith, e)

pub returns-clause-most : goal.returns-clause-most
returns-clause-most c = omega (arith, length-varint (length c.args.text.now))
