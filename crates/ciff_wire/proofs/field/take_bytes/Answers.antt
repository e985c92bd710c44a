use Rattle.std.proofs.Common.{ap, take, length, arith}
use Rattle.std.proofs.lemmas.List.{take_rest}
use Rattle.ciff_wire.proofs.Taking.{holds_bytes}
use Rattle.ciff_wire.proofs.field.take_bytes.Goals as goal

pub returns-else-value-rest-clause-holds : goal.returns-else-value-rest-clause-holds
returns-else-value-rest-clause-holds c =
    let m = c.args.bytes.now in
    let rest = take_rest m c.in-Done.used in
    holds_bytes m _ c.in-Done.value c.in-Done.used c.in-Done.ensures.read (omega (arith, ap length rest, c.if-value-rest.false)) (ap (take c.in-Done.value) rest)
