use Rattle.std.proofs.Common.{List, ℕ, [], subst, arith}
use Rattle.ciff_format.specs.Canonical.{bytes_of}
use Rattle.ciff_writer.specs.Sending.{Puts}
use Rattle.ciff_writer.proofs.Bounds.{file-most, length-file}
use Rattle.ciff_writer.proofs.Parts.{file-parts}
use Rattle.ciff_writer.proofs.Sends.{start, both, next, roomy, cut, cut_room, cut_last, on_err}
use Rattle.ciff_writer.proofs.write.write_file.Goals as goal

pub returns-in_err-header-clause-fault : goal.returns-in_err-header-clause-fault
returns-in_err-header-clause-fault g c = on_err _ _ (cut _ (start (file-parts c.args.index.now)) c.in_err-header.ensures.fault)

pub returns-in_err-lists-clause-fault : goal.returns-in_err-lists-clause-fault
returns-in_err-lists-clause-fault g c = on_err _ _ (cut _ (next (start (file-parts c.args.index.now)) c.in_ok-header.ensures.ok) c.in_err-lists.ensures.fault)

pub returns-in_err-records-clause-fault : goal.returns-in_err-records-clause-fault
returns-in_err-records-clause-fault g c = on_err _ _ (cut_last (next (next (start (file-parts c.args.index.now)) c.in_ok-header.ensures.ok) c.in_ok-lists.ensures.ok) c.in_err-records.ensures.fault)

pub returns-in_err-flush-clause-fault : goal.returns-in_err-flush-clause-fault
returns-in_err-flush-clause-fault g c =
    on_err _ _ (cut_room (both (next (next (start (file-parts c.args.index.now)) c.in_ok-header.ensures.ok) c.in_ok-lists.ensures.ok) c.in_ok-records.ensures.ok) c.in_err-flush.ensures.fault)

pub overflow_add-result : goal.overflow_add-result
overflow_add-result g c =
    omega (arith, c.in_ok-header.ensures.len, c.in_ok-lists.ensures.len, length-file c.args.index.now, file-most c.args.index.now c.is_sound.ensures.sound)

pub overflow_add-result-2 : goal.overflow_add-result-2
overflow_add-result-2 g c =
    omega (arith, c.in_ok-header.ensures.len, c.in_ok-lists.ensures.len, c.in_ok-records.ensures.len, length-file c.args.index.now, file-most c.args.index.now c.is_sound.ensures.sound)

pub returns-clause-len : goal.returns-clause-len
returns-clause-len g c =
    omega (arith, c.in_ok-header.ensures.len, c.in_ok-lists.ensures.len, c.in_ok-records.ensures.len, length-file c.args.index.now)

pub returns-clause-ok : goal.returns-clause-ok
returns-clause-ok g c =
    let pieces = both (next (next (start (file-parts c.args.index.now)) c.in_ok-header.ensures.ok) c.in_ok-lists.ensures.ok) c.in_ok-records.ensures.ok in
    let whole = roomy pieces c.in_ok-flush.ensures.ok in
    subst (λ (q : List ℕ). Puts c.args.name.now (bytes_of c.args.index.now) [] c.args.buffer.now q (g.H.Host.seen c.args.host.now) (g.H.Host.seen c.flush.new.host)) c.in_ok-flush.ensures.empty whole
