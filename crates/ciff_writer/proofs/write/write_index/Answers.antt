use Rattle.ciff_writer.proofs.Sends.{whole_put, whole_broken, on_err}
use Rattle.ciff_writer.proofs.write.write_index.Goals as goal

pub returns-in_err-len-clause-fault : goal.returns-in_err-len-clause-fault
returns-in_err-len-clause-fault g c = on_err _ _ (whole_broken c.pieces_join.ensures.nothing _ _ _ _ _ c.requires c.new-buffer.ensures c.in_err-len.ensures.fault)

pub returns-clause-written : goal.returns-clause-written
returns-clause-written g c = whole_put c.pieces_join.ensures.nothing _ _ _ _ _ c.requires c.new-buffer.ensures c.in_ok-len.ensures.ok
