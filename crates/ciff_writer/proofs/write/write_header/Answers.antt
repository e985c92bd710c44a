use Rattle.std.proofs.Common.{◌≡◌, ℕ, List, refl, ap, ◌∙◌, subst, arith}
use Rattle.ciff_wire.specs.Canonical.{message_of}
use Rattle.ciff_format.specs.Canonical.{text_field}
use Rattle.rgb_base.specs.declared.parts.Header.{Header}
use Rattle.ciff_writer.specs.Pieces.{header_bytes}
use Rattle.ciff_writer.specs.Sending.{Breaks}
use Rattle.ciff_writer.proofs.Bounds.{header-most, length-framed}
use Rattle.ciff_writer.proofs.Sends.{start, both, roomy, held_but, cut_room, cut_last, on_err}
use Rattle.ciff_writer.proofs.write.write_header.Goals as goal

pub returns-in_err-make_room-clause-fault : goal.returns-in_err-make_room-clause-fault
returns-in_err-make_room-clause-fault g c = on_err _ _ (cut_room (start refl) c.in_err-make_room.ensures.fault)

pub returns-in_err-write_text-clause-fault : goal.returns-in_err-write_text-clause-fault
returns-in_err-write_text-clause-fault g c =
    let description : c.as_str-description.result.now ≡ c.args.index.now.header.description = c.as_str-description.ensures.same ∙ ap (λ (h : Header). h.description) c.header.ensures.same in
    let front = both (roomy (start refl) c.in_ok-make_room.ensures.ok) (held_but c.put_header_front.ensures) in
    on_err _ _ (cut_last front (subst (λ (t : List ℕ). Breaks c.args.name.now (message_of (text_field 8 t)) c.put_header_front.new.buffer (g.H.Host.seen c.make_room.new.host) (g.H.Host.seen c.write_text.new.host)) description c.in_err-write_text.ensures.fault))

pub overflow_add-result : goal.overflow_add-result
overflow_add-result g c =
    let sized = c.is_sound.ensures.sound.sized in
    omega (arith, c.header_size-size.ensures.same, length-framed (header_bytes c.args.index.now) _ c.header_size-size.ensures.same, header-most c.args.index.now)

pub returns-clause-len : goal.returns-clause-len
returns-clause-len g c = omega (arith, length-framed (header_bytes c.args.index.now) _ c.header_size-size.ensures.same)
