use Rattle.std.proofs.Common.{◌≡◌, ◌<◌, [], length, arith}
use Rattle.ciff_format.specs.Canonical.{framed}
use Rattle.rgb_base.specs.declared.parts.TermList.{TermList}
use Rattle.ciff_writer.specs.Pieces.{list_bytes}
use Rattle.ciff_writer.specs.Sending.{Puts, Breaks}
use Rattle.ciff_writer.proofs.Bounds.{file-most, length-file}
use Rattle.ciff_writer.proofs.Parts.{no_list, its, lists-next, length-lists-next}
use Rattle.ciff_writer.proofs.Sends.{start, both, next, cut, on_err}
use Rattle.ciff_writer.proofs.write.write_lists.Goals as goal

pub returns-in_err-len-clause-fault : goal.returns-in_err-len-clause-fault
returns-in_err-len-clause-fault g c =
    let lists = c.args.index.now.lists in
    let at = c.loop-list.list in
    let inside : at < length lists = omega (arith, c.lists-list-end.ensures.same) in
    on_err _ _ (cut _ (both c.loop-list.invariant.puts (start (lists-next lists at inside))) (its (λ (x : TermList). Breaks c.args.name.now (framed (list_bytes x)) c.loop-list.buffer (g.H.Host.seen c.loop-list.host) (g.H.Host.seen c.write_list.new.host)) lists at no_list inside c.in_err-len.ensures.fault))

pub overflow_add-len : goal.overflow_add-len
overflow_add-len g c =
    let lists = c.args.index.now.lists in
    let at = c.loop-list.list in
    let inside : at < length lists = omega (arith, c.lists-list-end.ensures.same) in
    let len = its (λ (x : TermList). c.in_ok-len.field-0 ≡ length (framed (list_bytes x))) lists at no_list inside c.in_ok-len.ensures.len in
    omega (arith, len, length-lists-next lists at inside, c.loop-list.invariant.len, length-file c.args.index.now, file-most c.args.index.now c.is_sound.ensures.sound)

pub loop-list-preserved : goal.loop-list-preserved
loop-list-preserved g c =
    let lists = c.args.index.now.lists in
    let at = c.loop-list.list in
    let inside : at < length lists = omega (arith, c.lists-list-end.ensures.same) in
    let len = its (λ (x : TermList). c.in_ok-len.field-0 ≡ length (framed (list_bytes x))) lists at no_list inside c.in_ok-len.ensures.len in
    record {
      len = omega (arith, len, length-lists-next lists at inside, c.loop-list.invariant.len);
      puts = next (both c.loop-list.invariant.puts (start (lists-next lists at inside))) (its (λ (x : TermList). Puts c.args.name.now (framed (list_bytes x)) [] c.loop-list.buffer c.write_list.new.buffer (g.H.Host.seen c.loop-list.host) (g.H.Host.seen c.write_list.new.host)) lists at no_list inside c.in_ok-len.ensures.ok);
      there = c.write_list.ensures.there;
    }
