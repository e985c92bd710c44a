use Rattle.std.proofs.Common.{◌≡◌, ◌+◌, ℕ, List, pos, length, get_or, sym, ap, ◌∙◌, arith, rules}
use mir.Val.{SFits}
use Rattle.std.specs.Int.{w32, w64}
use Rattle.ciff_wire.specs.Canonical.{message_of}
use Rattle.ciff_format.specs.Canonical.{text_field}
use Rattle.rgb_base.specs.declared.parts.DocRecord.{DocRecord}
use Rattle.ciff_writer.specs.Pieces.{record_bytes}
use Rattle.ciff_writer.proofs.Fields.{number-size, widened}
use Rattle.ciff_writer.proofs.Parts.{no_record, told, here, length-record}
use Rattle.ciff_writer.proofs.sizes.record_size.Goals as goal

pub returns : goal.returns
returns c =
    let documents = c.args.index.now.documents in
    let d = get_or documents c.args.doc no_record in
    let fits : SFits w64 c.from.result = search rules in
    let fits-2 : SFits w64 c.from-2.result = search rules in
    let small : SFits w32 c.length.result = search rules in
    let name = told (λ (d : DocRecord). d.name) documents c.args.doc no_record c.name.result.now c.requires c.name.ensures.same in
    let tokens = told (λ (d : DocRecord). d.length) documents c.args.doc no_record c.length.result c.requires c.length.ensures.same in
    let one = number-size _ 1 c.from.result (pos c.args.doc) c.number_size.ensures.same (omega arith) (omega arith) fits c.from.ensures in
    let two : c.text_size.result ≡ length (message_of (text_field 2 d.name)) = c.text_size.ensures.same 2 (omega arith) (omega arith) ∙ ap (λ (t : List ℕ). length (message_of (text_field 2 t))) (sym name) in
    let three = number-size _ 3 c.from-2.result d.length c.number_size-2.ensures.same (omega arith) (omega arith) fits-2 (widened _ c.length.result c.from-2.ensures small ∙ sym tokens) in
    record { same = here (λ (d : DocRecord). c.number_size.result + c.text_size.result + c.number_size-2.result ≡ length (record_bytes c.args.doc d)) documents c.args.doc no_record c.requires (omega (arith, one, two, three, length-record c.args.doc d)) }
