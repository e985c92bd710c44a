use Rattle.std.proofs.lemmas.Result.{err_from_is_err_and}
use Rattle.ciff_wire.proofs.Taking.{tag_fault}
use Rattle.ciff_wire.proofs.field.take_tag.Goals as goal

pub returns-in_err-number-in-Done-clause-fault : goal.returns-in_err-number-in-Done-clause-fault
returns-in_err-number-in-Done-clause-fault c =
    let p = err_from_is_err_and c.from_residual.result c.from_residual.ensures.1 in
    rw (p.1, p.2) (tag_fault c.args.bytes.now c.in-Done.value c.in-Done.used _ c.in-Done.ensures.read c.in_err-number-in-Done.ensures.fault)
