use Rattle.ciff_writer.proofs.Fields.{eight-none-put, eight-put}
use Rattle.ciff_writer.proofs.buffer.Buffer.put_eight.Goals as goal

pub returns-then-bits-eq0-clause-bytes : goal.returns-then-bits-eq0-clause-bytes
returns-then-bits-eq0-clause-bytes g c = eight-none-put c.args.self.now c.args.number c.args.bits c.if-bits-eq0.true

pub returns-clause-bytes : goal.returns-clause-bytes
returns-clause-bytes g c =
    eight-put c.args.self.now c.put_byte.new.self c.put.new.self c.to_le_bytes.result c.args.number c.args.bits c.requires.most c.if-bits-eq0.false c.put_byte.ensures c.to_le_bytes.ensures c.put.ensures
