use Rattle.std.proofs.Common.{◌≡◌, ℕ, List, pos, length, sym, ap, subst, ◌∙◌, arith, rules}
use mir.Val.{SFits}
use Rattle.std.specs.Int.{w64}
use Rattle.ciff_wire.specs.Canonical.{message_of}
use Rattle.ciff_format.specs.Canonical.{text_field, eight_field}
use Rattle.rgb_base.specs.declared.parts.Header.{Header}
use Rattle.ciff_writer.proofs.Fields.{number-size}
use Rattle.ciff_writer.proofs.Parts.{header-number, length-header}
use Rattle.ciff_writer.proofs.sizes.header_size.Goals as goal

pub returns : goal.returns
returns c =
    let index = c.args.index.now in
    let seen = c.header-header.result.now in
    let same = c.header-header.ensures.same in
    let fits = c.is_sound.ensures.sound.header in
    let wide : SFits w64 c.from.result = search rules in
    let wide-2 : SFits w64 c.from-2.result = search rules in
    let wide-3 : SFits w64 c.from-3.result = search rules in
    let wide-4 : SFits w64 c.from-4.result = search rules in
    let wide-5 : SFits w64 c.from-5.result = search rules in
    let total_terms : seen.total_terms ≡ index.header.total_terms = ap (λ (h : Header). h.total_terms) same in
    let description : c.as_str.result.now ≡ index.header.description = c.as_str.ensures.same ∙ ap (λ (h : Header). h.description) same in
    let one = number-size _ 1 c.from.result index.header.version c.number_size.ensures.same (omega arith) (omega arith) wide (header-number (λ (h : Header). h.version) _ seen index.header c.from.ensures same fits.version) in
    let two = number-size _ 2 c.from-2.result (pos (length index.lists)) c.number_size-2.ensures.same (omega arith) (omega arith) wide-2 (c.from-2.ensures ∙ ap pos c.lists.ensures.same) in
    let three = number-size _ 3 c.from-3.result (pos (length index.documents)) c.number_size-3.ensures.same (omega arith) (omega arith) wide-3 (c.from-3.ensures ∙ ap pos c.documents.ensures.same) in
    let four = number-size _ 4 c.from-4.result index.header.total_lists c.number_size-4.ensures.same (omega arith) (omega arith) wide-4 (header-number (λ (h : Header). h.total_lists) _ seen index.header c.from-4.ensures same fits.total_lists) in
    let five = number-size _ 5 c.from-5.result index.header.total_docs c.number_size-5.ensures.same (omega arith) (omega arith) wide-5 (header-number (λ (h : Header). h.total_docs) _ seen index.header c.from-5.ensures same fits.total_docs) in
    let six = number-size _ 6 seen.total_terms index.header.total_terms c.number_size-6.ensures.same (omega arith) (omega arith) (subst (SFits w64) (sym total_terms) fits.total_terms) total_terms in
    let seven : c.eight_size.result ≡ length (message_of (eight_field 7 index.header.average_bits)) = c.eight_size.ensures.same 7 (omega arith) (omega arith) ∙ ap (λ (h : Header). length (message_of (eight_field 7 h.average_bits))) same in
    let eight : c.text_size.result ≡ length (message_of (text_field 8 index.header.description)) = c.text_size.ensures.same 8 (omega arith) (omega arith) ∙ ap (λ (t : List ℕ). length (message_of (text_field 8 t))) description in
    record { same = omega (arith, one, two, three, four, five, six, seven, eight, length-header index) }
