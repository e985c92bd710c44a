use Rattle.std.proofs.Common.{length, ap, sym}
use Rattle.ciff_writer.proofs.Fields.{eight-none, length-eight}
use Rattle.ciff_writer.proofs.sizes.eight_size.Goals as goal

pub returns-then-bits-eq0-clause-same : goal.returns-then-bits-eq0-clause-same
returns-then-bits-eq0-clause-same c = λ n some small. sym (ap length (eight-none n c.args.bits c.if-bits-eq0.true))

pub returns-else-bits-eq0-clause-same : goal.returns-else-bits-eq0-clause-same
returns-else-bits-eq0-clause-same c = λ n some small. sym (length-eight n c.args.bits small c.if-bits-eq0.false)
