use Rattle.std.proofs.Common.{◌≡◌, ap, ◌∙◌}
use Rattle.std.specs.Int.{w64, cast_unsigned}
use Rattle.std.proofs.lemmas.Int.{to_z-of_z}
use Rattle.ciff_writer.proofs.Fields.{none-put, some-put}
use Rattle.ciff_writer.proofs.buffer.Buffer.put_number.Goals as goal

pub returns-then-value-eq0-clause-bytes : goal.returns-then-value-eq0-clause-bytes
returns-then-value-eq0-clause-bytes g c = none-put c.args.self.now c.args.number c.args.value c.if-value-eq0.true

pub returns-clause-bytes : goal.returns-clause-bytes
returns-clause-bytes g c =
    let v : c.cast_unsigned.result ≡ cast_unsigned w64 c.args.value = c.cast_unsigned.ensures ∙ ap (cast_unsigned w64) (to_z-of_z w64 c.args.value c.ranges.value) in
    some-put c.args.self.now c.put_byte.new.self c.put_varint.new.self c.args.number c.args.value _ c.requires.most v c.if-value-eq0.false c.put_byte.ensures c.put_varint.ensures.bytes
