use Rattle.std.proofs.Common.{sym, ◌∙◌, arith}
use Rattle.ciff_wire.proofs.Fronts.{head-pair}
use Rattle.ciff_wire.proofs.put.put_head.Goals as goal

pub returns-clause-len : goal.returns-clause-len
returns-clause-len c = rw (head-pair c.args.number c.args.length c.requires.most) (omega arith)

pub returns-clause-front : goal.returns-clause-front
returns-clause-front c = c.put_pair.ensures.front ∙ sym (head-pair c.args.number c.args.length c.requires.most)
