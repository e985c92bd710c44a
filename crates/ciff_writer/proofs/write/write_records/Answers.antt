use Rattle.std.proofs.Common.{◌≡◌, ◌<◌, [], length, ap, arith}
use Rattle.ciff_format.specs.Canonical.{framed}
use Rattle.rgb_base.specs.declared.parts.DocRecord.{DocRecord}
use Rattle.ciff_writer.specs.Pieces.{record_bytes}
use Rattle.ciff_writer.specs.Sending.{Puts, Breaks}
use Rattle.ciff_writer.proofs.Bounds.{file-most, length-file}
use Rattle.ciff_writer.proofs.Parts.{no_record, its, records-next, length-records-next, records-end}
use Rattle.ciff_writer.proofs.Sends.{start, both, next, cut, on_err}
use Rattle.ciff_writer.proofs.write.write_records.Goals as goal

pub returns-in_err-len-clause-fault : goal.returns-in_err-len-clause-fault
returns-in_err-len-clause-fault g c =
    let documents = c.args.index.now.documents in
    let at = c.loop-doc.doc in
    let inside : at < length documents = omega (arith, c.documents-doc-end.ensures.same) in
    on_err _ _ (cut _ (both c.loop-doc.invariant.puts (start (records-next documents at inside))) (its (λ (x : DocRecord). Breaks c.args.name.now (framed (record_bytes at x)) c.loop-doc.buffer (g.H.Host.seen c.loop-doc.host) (g.H.Host.seen c.write_record.new.host)) documents at no_record inside c.in_err-len.ensures.fault))

pub overflow_add-len : goal.overflow_add-len
overflow_add-len g c =
    let documents = c.args.index.now.documents in
    let at = c.loop-doc.doc in
    let inside : at < length documents = omega (arith, c.documents-doc-end.ensures.same) in
    let len = its (λ (x : DocRecord). c.in_ok-len.field-0 ≡ length (framed (record_bytes at x))) documents at no_record inside c.in_ok-len.ensures.len in
    omega (arith, len, length-records-next documents at inside, c.loop-doc.invariant.len, length-file c.args.index.now, file-most c.args.index.now c.is_sound.ensures.sound)

pub loop-doc-preserved : goal.loop-doc-preserved
loop-doc-preserved g c =
    let documents = c.args.index.now.documents in
    let at = c.loop-doc.doc in
    let inside : at < length documents = omega (arith, c.documents-doc-end.ensures.same) in
    let len = its (λ (x : DocRecord). c.in_ok-len.field-0 ≡ length (framed (record_bytes at x))) documents at no_record inside c.in_ok-len.ensures.len in
    record {
      len = omega (arith, len, length-records-next documents at inside, c.loop-doc.invariant.len);
      puts = next (both c.loop-doc.invariant.puts (start (records-next documents at inside))) (its (λ (x : DocRecord). Puts c.args.name.now (framed (record_bytes at x)) [] c.loop-doc.buffer c.write_record.new.buffer (g.H.Host.seen c.loop-doc.host) (g.H.Host.seen c.write_record.new.host)) documents at no_record inside c.in_ok-len.ensures.ok);
      there = c.write_record.ensures.there;
    }

pub returns-clause-len : goal.returns-clause-len
returns-clause-len g c = omega (arith, c.loop-doc.invariant.len, ap length (records-end c.args.index.now.documents c.loop-doc.doc (omega (arith, c.documents-doc-end.ensures.same))))

pub returns-clause-ok : goal.returns-clause-ok
returns-clause-ok g c = both c.loop-doc.invariant.puts (start (records-end c.args.index.now.documents c.loop-doc.doc (omega (arith, c.documents-doc-end.ensures.same))))
