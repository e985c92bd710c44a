use Rattle.ciff_writer.proofs.Fields.{head-put}
use Rattle.ciff_writer.proofs.buffer.Buffer.put_head.Goals as goal

pub returns-clause-bytes : goal.returns-clause-bytes
returns-clause-bytes g c = head-put c.args.self.now c.put_byte.new.self c.put_varint.new.self c.args.number c.args.len c.requires.most c.put_byte.ensures c.put_varint.ensures.bytes
