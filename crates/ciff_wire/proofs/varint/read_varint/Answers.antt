use Rattle.std.proofs.Common.{arith}
use Rattle.ciff_wire.proofs.Varints.{Reads-one}
use Rattle.ciff_wire.proofs.varint.read_varint.Goals as goal

pub returns-in-len1-up : goal.returns-in-len1-up
returns-in-len1-up c =
    record {
      read = Reads-one c.args.bytes.now c.from.result (λ k. omega (arith, c.type_inv.bytes k)) (omega arith) c.from.ensures c.if-only-lt128.true;
    }
