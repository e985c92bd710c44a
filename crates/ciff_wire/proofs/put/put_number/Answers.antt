use Rattle.std.proofs.Common.{◌≡◌, length, ap, sym, ◌∙◌, arith}
use Rattle.std.specs.Int.{w64, cast_unsigned}
use Rattle.std.proofs.lemmas.Int.{to_z-of_z}
use Rattle.ciff_wire.proofs.Fronts.{message-zero, message-number}
use Rattle.ciff_wire.proofs.put.put_number.Goals as goal

pub returns-then-value-eq0-clause-len : goal.returns-then-value-eq0-clause-len
returns-then-value-eq0-clause-len c = ap length (sym (message-zero c.args.number c.args.value c.if-value-eq0.true))

pub returns-then-value-eq0-clause-front : goal.returns-then-value-eq0-clause-front
returns-then-value-eq0-clause-front c = sym (message-zero c.args.number c.args.value c.if-value-eq0.true)

pub returns-clause-len : goal.returns-clause-len
returns-clause-len c =
    let v : c.cast_unsigned.result ≡ cast_unsigned w64 c.args.value = c.cast_unsigned.ensures ∙ ap (cast_unsigned w64) (to_z-of_z w64 c.args.value c.ranges.value) in
    let e = message-number c.args.number c.args.value c.cast_unsigned.result c.requires.most v c.if-value-eq0.false in
    rw e (omega arith)

pub returns-clause-front : goal.returns-clause-front
returns-clause-front c =
    let v : c.cast_unsigned.result ≡ cast_unsigned w64 c.args.value = c.cast_unsigned.ensures ∙ ap (cast_unsigned w64) (to_z-of_z w64 c.args.value c.ranges.value) in
    c.put_pair.ensures.front ∙ sym (message-number c.args.number c.args.value c.cast_unsigned.result c.requires.most v c.if-value-eq0.false)
