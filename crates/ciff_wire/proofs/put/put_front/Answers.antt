use Rattle.std.proofs.Common.{sym, arith}
use Rattle.ciff_wire.proofs.Groups.{length-varint-small, put_one}
use Rattle.ciff_wire.proofs.put.put_front.Goals as goal

pub returns-then-value-lt128-clause-len : goal.returns-then-value-lt128-clause-len
returns-then-value-lt128-clause-len c = sym (length-varint-small c.args.value c.if-value-lt128.true)

pub returns-then-value-lt128-clause-front : goal.returns-then-value-lt128-clause-front
returns-then-value-lt128-clause-front c = put_one c.args.out.now c.args.value (omega arith) c.if-value-lt128.true
