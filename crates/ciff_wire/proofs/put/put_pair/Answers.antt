use Rattle.std.proofs.Common.{arith}
use Rattle.ciff_wire.proofs.Fronts.{take-pair, drop-pair}
use Rattle.ciff_wire.proofs.put.put_pair.Goals as goal

pub returns-clause-front : goal.returns-clause-front
returns-clause-front c = take-pair c.args.out.now c.put_front.new.out _ c.args.tag c.put_front.result c.told-out (omega arith) c.put_front.ensures.front

pub returns-clause-rest : goal.returns-clause-rest
returns-clause-rest c = drop-pair c.args.out.now c.put_front.new.out c.args.tag c.put_front.result c.told-out (omega arith) (omega arith) c.put_front.ensures.rest
