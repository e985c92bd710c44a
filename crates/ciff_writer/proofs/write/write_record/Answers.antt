use Rattle.std.proofs.Common.{◌≡◌, ◌+◌, ℕ, List, [], pos, length, get_or, refl, sym, ap, ◌∙◌, arith, rules}
use mir.Val.{SFits}
use Rattle.std.specs.Int.{w32, w64}
use Rattle.ciff_wire.specs.Canonical.{message_of}
use Rattle.ciff_format.specs.Canonical.{framed, text_field}
use Rattle.rgb_base.specs.declared.parts.DocRecord.{DocRecord}
use Rattle.ciff_writer.specs.Pieces.{record_bytes}
use Rattle.ciff_writer.specs.Sending.{Puts, Breaks}
use Rattle.ciff_writer.proofs.Bounds.{record-most, length-framed}
use Rattle.ciff_writer.proofs.Fields.{number-put, widened}
use Rattle.ciff_writer.proofs.Parts.{no_record, told, here, its, short-name, record-parts}
use Rattle.ciff_writer.proofs.Sends.{start, both, next, spelt, spelt_broken, held, roomy, cut, cut_room, on_err}
use Rattle.ciff_writer.proofs.write.write_record.Goals as goal

pub returns-in_err-make_room-clause-fault : goal.returns-in_err-make_room-clause-fault
returns-in_err-make_room-clause-fault g c =
    let documents = c.args.index.now.documents in
    let at = c.args.doc in
    let inside = c.requires.inside in
    on_err _ _ (here (λ (d : DocRecord). Breaks c.args.name.now (framed (record_bytes at d)) c.args.buffer.now (g.H.Host.seen c.args.host.now) (g.H.Host.seen c.make_room.new.host)) documents at no_record inside (cut_room (start refl) c.in_err-make_room.ensures.fault))

pub returns-in_err-write_text-clause-fault : goal.returns-in_err-write_text-clause-fault
returns-in_err-write_text-clause-fault g c =
    let documents = c.args.index.now.documents in
    let at = c.args.doc in
    let inside = c.requires.inside in
    let d = get_or documents at no_record in
    let size = its (λ (d : DocRecord). c.record_size-size.result ≡ length (record_bytes at d)) documents at no_record inside c.record_size-size.ensures.same in
    let room = roomy (start (record-parts at d _ size)) c.in_ok-make_room.ensures.ok in
    let fits : SFits w64 c.from.result = search rules in
    let front = next (next room (held c.put_varint.ensures.bytes)) (held (number-put _ _ 1 c.from.result (pos at) c.put_number.ensures.bytes fits c.from.ensures)) in
    let name = told (λ (d : DocRecord). d.name) documents at no_record c.name.result.now inside c.name.ensures.same in
    let name-is = ap (λ (t : List ℕ). message_of (text_field 2 t)) (sym name) in
    on_err _ _ (here (λ (d : DocRecord). Breaks c.args.name.now (framed (record_bytes at d)) c.args.buffer.now (g.H.Host.seen c.args.host.now) (g.H.Host.seen c.write_text.new.host)) documents at no_record inside (cut _ front (spelt_broken name-is c.in_err-write_text.ensures.fault)))

pub returns-in_err-make_room-2-clause-fault : goal.returns-in_err-make_room-2-clause-fault
returns-in_err-make_room-2-clause-fault g c =
    let documents = c.args.index.now.documents in
    let at = c.args.doc in
    let inside = c.requires.inside in
    let d = get_or documents at no_record in
    let size = its (λ (d : DocRecord). c.record_size-size.result ≡ length (record_bytes at d)) documents at no_record inside c.record_size-size.ensures.same in
    let room = roomy (start (record-parts at d _ size)) c.in_ok-make_room.ensures.ok in
    let fits : SFits w64 c.from.result = search rules in
    let front = next (next room (held c.put_varint.ensures.bytes)) (held (number-put _ _ 1 c.from.result (pos at) c.put_number.ensures.bytes fits c.from.ensures)) in
    let name = told (λ (d : DocRecord). d.name) documents at no_record c.name.result.now inside c.name.ensures.same in
    let name-is = ap (λ (t : List ℕ). message_of (text_field 2 t)) (sym name) in
    let text = next front (spelt name-is c.in_ok-write_text.ensures.ok) in
    on_err _ _ (here (λ (d : DocRecord). Breaks c.args.name.now (framed (record_bytes at d)) c.args.buffer.now (g.H.Host.seen c.args.host.now) (g.H.Host.seen c.make_room-2.new.host)) documents at no_record inside (cut_room text c.in_err-make_room-2.ensures.fault))

pub overflow_add-result : goal.overflow_add-result
overflow_add-result g c =
    let documents = c.args.index.now.documents in
    let at = c.args.doc in
    let inside = c.requires.inside in
    let d = get_or documents at no_record in
    let size = its (λ (d : DocRecord). c.record_size-size.result ≡ length (record_bytes at d)) documents at no_record inside c.record_size-size.ensures.same in
    let short = short-name c.args.index.now at c.name.result.now c.is_sound.ensures.sound.sized.text inside c.name.ensures.same in
    let name = told (λ (d : DocRecord). d.name) documents at no_record c.name.result.now inside c.name.ensures.same in
    omega (arith, length-framed (record_bytes at d) _ size, record-most at d, ap length name)

pub returns-clause-len : goal.returns-clause-len
returns-clause-len g c =
    let documents = c.args.index.now.documents in
    let at = c.args.doc in
    let inside = c.requires.inside in
    let d = get_or documents at no_record in
    let size = its (λ (d : DocRecord). c.record_size-size.result ≡ length (record_bytes at d)) documents at no_record inside c.record_size-size.ensures.same in
    here (λ (d : DocRecord). c.varint_len.result + c.record_size-size.result ≡ length (framed (record_bytes at d))) documents at no_record inside (omega (arith, length-framed (record_bytes at d) _ size))

pub returns-clause-ok : goal.returns-clause-ok
returns-clause-ok g c =
    let documents = c.args.index.now.documents in
    let at = c.args.doc in
    let inside = c.requires.inside in
    let d = get_or documents at no_record in
    let size = its (λ (d : DocRecord). c.record_size-size.result ≡ length (record_bytes at d)) documents at no_record inside c.record_size-size.ensures.same in
    let room = roomy (start (record-parts at d _ size)) c.in_ok-make_room.ensures.ok in
    let fits : SFits w64 c.from.result = search rules in
    let front = next (next room (held c.put_varint.ensures.bytes)) (held (number-put _ _ 1 c.from.result (pos at) c.put_number.ensures.bytes fits c.from.ensures)) in
    let name = told (λ (d : DocRecord). d.name) documents at no_record c.name.result.now inside c.name.ensures.same in
    let name-is = ap (λ (t : List ℕ). message_of (text_field 2 t)) (sym name) in
    let text = next front (spelt name-is c.in_ok-write_text.ensures.ok) in
    let fits-2 : SFits w64 c.from-2.result = search rules in
    let small : SFits w32 c.length.result = search rules in
    let tokens = told (λ (d : DocRecord). d.length) documents at no_record c.length.result inside c.length.ensures.same in
    let number = number-put _ _ 3 c.from-2.result d.length c.put_number-2.ensures.bytes fits-2 (widened _ c.length.result c.from-2.ensures small ∙ sym tokens) in
    here (λ (d : DocRecord). Puts c.args.name.now (framed (record_bytes at d)) [] c.args.buffer.now c.put_number-2.new.self (g.H.Host.seen c.args.host.now) (g.H.Host.seen c.make_room-2.new.host)) documents at no_record inside (both (roomy text c.in_ok-make_room-2.ensures.ok) (held number))
