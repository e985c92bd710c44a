use Rattle.std.proofs.Common.{◌≡◌, ℕ, length, ap, sym, ◌∙◌, arith}
use Rattle.std.specs.Int.{w64, cast_unsigned}
use Rattle.std.proofs.lemmas.Int.{to_z-of_z}
use Rattle.ciff_wire.specs.Varint.{varint}
use Rattle.ciff_writer.proofs.Fields.{number-none, number-some, length-varint}
use Rattle.ciff_writer.proofs.sizes.number_size.Goals as goal

pub returns-then-value-eq0-clause-same : goal.returns-then-value-eq0-clause-same
returns-then-value-eq0-clause-same c = λ n some small. sym (ap length (number-none n c.args.value c.if-value-eq0.true))

pub overflow_add-result : goal.overflow_add-result
overflow_add-result c = omega (arith, length-varint c.cast_unsigned.result)

pub returns-clause-same : goal.returns-clause-same
returns-clause-same c = λ n some small.
    let v : c.cast_unsigned.result ≡ cast_unsigned w64 c.args.value = c.cast_unsigned.ensures ∙ ap (cast_unsigned w64) (to_z-of_z w64 c.args.value c.ranges.value) in
    let len : c.varint_len.result ≡ length (varint (cast_unsigned w64 c.args.value)) = c.varint_len.ensures.same ∙ ap (λ (u : ℕ). length (varint u)) v in
    omega (arith, len, ap length (number-some n c.args.value small c.if-value-eq0.false))

pub returns-clause-most : goal.returns-clause-most
returns-clause-most c = omega (arith, length-varint c.cast_unsigned.result)
