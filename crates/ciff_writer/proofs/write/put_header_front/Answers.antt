use Rattle.std.proofs.Common.{◌≡◌, ◌++◌, pos, length, sym, ap, subst, ◌∙◌, rules}
use mir.Val.{SFits}
use Rattle.std.specs.Int.{w64}
use Rattle.ciff_wire.specs.Canonical.{message_of}
use Rattle.ciff_format.specs.Canonical.{eight_field}
use Rattle.rgb_base.specs.declared.parts.Header.{Header}
use Rattle.ciff_writer.proofs.Fields.{number-put}
use Rattle.ciff_writer.proofs.Parts.{header-number, header-front}
use Rattle.ciff_writer.proofs.write.put_header_front.Goals as goal

pub returns : goal.returns
returns g c =
    let index = c.args.index.now in
    let seen = c.header-header.result.now in
    let same = c.header-header.ensures.same in
    let fits = c.is_sound.ensures.sound.header in
    let wide : SFits w64 c.from.result = search rules in
    let wide-2 : SFits w64 c.from-2.result = search rules in
    let wide-3 : SFits w64 c.from-3.result = search rules in
    let wide-4 : SFits w64 c.from-4.result = search rules in
    let wide-5 : SFits w64 c.from-5.result = search rules in
    let total_terms : seen.total_terms ≡ index.header.total_terms = ap (λ (h : Header). h.total_terms) same in
    header-front index c.args.size c.args.buffer.now _ _ _ _ _ _ _ _ c.requires.size c.put_varint.ensures.bytes
    (number-put _ _ 1 c.from.result index.header.version c.put_number.ensures.bytes wide (header-number (λ (h : Header). h.version) _ seen index.header c.from.ensures same fits.version))
    (number-put _ _ 2 c.from-2.result (pos (length index.lists)) c.put_number-2.ensures.bytes wide-2 (c.from-2.ensures ∙ ap pos c.lists.ensures.same))
    (number-put _ _ 3 c.from-3.result (pos (length index.documents)) c.put_number-3.ensures.bytes wide-3 (c.from-3.ensures ∙ ap pos c.documents.ensures.same))
    (number-put _ _ 4 c.from-4.result index.header.total_lists c.put_number-4.ensures.bytes wide-4 (header-number (λ (h : Header). h.total_lists) _ seen index.header c.from-4.ensures same fits.total_lists))
    (number-put _ _ 5 c.from-5.result index.header.total_docs c.put_number-5.ensures.bytes wide-5 (header-number (λ (h : Header). h.total_docs) _ seen index.header c.from-5.ensures same fits.total_docs))
    (number-put _ _ 6 seen.total_terms index.header.total_terms c.put_number-6.ensures.bytes (subst (SFits w64) (sym total_terms) fits.total_terms) total_terms)
    (c.put_eight.ensures.bytes ∙ ap (λ (h : Header). c.put_number-6.new.self ++ message_of (eight_field 7 h.average_bits)) same)
