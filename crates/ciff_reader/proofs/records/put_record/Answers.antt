use Rattle.std.proofs.Common.{◌≡◌, ℤ, ◌<◌, ◌≤◌, pos, length, refl, sym, ap, ◌∙◌, arith, rules}
use mir.Val.{SFits}
use Rattle.std.specs.Int.{w32}
use Rattle.std.proofs.lemmas.Int.{to_z-of_z}
use Rattle.std.proofs.lemmas.Bool.{false≢true}
use Rattle.rgb_base.specs.declared.parts.DocRecord.{DocRecord}
use Rattle.ciff_format.specs.Fields.{int32_at}
use Rattle.ciff_format.specs.Messages.{Numbered, document_of}
use Rattle.ciff_format.specs.Refused.{IsBadNumber}
use Rattle.ciff_reader.proofs.HeaderFields.{natural}
use Rattle.ciff_reader.proofs.Placing.{is_new, is_low, is_waiting, is_high, is_good, one_more_text, one_more_front, same_document}
use Rattle.ciff_reader.proofs.records.put_record.Goals as goal
use Rattle.ciff_reader.proofs.records.put_record.Goals.{then-documents-number-via-then-documents-number, then-documents-number-via-else-documents-number+then-number-records, then-documents-number-via-else-documents-number+else-number-records+then-has}

pub returns-then-documents-number-clause-fault : goal.returns-then-documents-number-clause-fault
returns-then-documents-number-clause-fault c = λ front all.
    let read = c.in-Some.ensures.read in
    let n = c.in-Ok.number in
    let fits : SFits w32 c.in-Some.kept.number = search rules in
    let number : int32_at 1 read.fields ≡ pos n = sym read.says.number ∙ sym (to_z-of_z w32 c.in-Some.kept.number fits) ∙ natural _ n c.in-Ok.ensures.0 c.in-Ok.ensures.1 in
    let bad : IsBadNumber front (int32_at 1 read.fields) = elim c.then-documents-number.branch [
      | then-documents-number-via-then-documents-number w ↦
          is_high front c.args.builder.now c.args.waiting.now all.read n (int32_at 1 read.fields) number (omega (arith, c.documents.ensures.same))
      | then-documents-number-via-else-documents-number+then-number-records w ↦
          is_low front c.args.builder.now c.args.waiting.now all.read n (int32_at 1 read.fields) number (omega (arith, w.records.ensures.same))
      | then-documents-number-via-else-documents-number+else-number-records+then-has w ↦
          is_waiting front c.args.builder.now c.args.waiting.now all.read n (int32_at 1 read.fields) number (w.has.ensures.same.0 w.if-has.true)
    ] in
    (read.fields, read.read, (read.says.texts.0 c.if-not-kept.false, bad))

pub returns-then-text-kept-clause-fault : goal.returns-then-text-kept-clause-fault
returns-then-text-kept-clause-fault c = λ front all.
    let read = c.in-Some.ensures.read in
    let n = c.in-Ok.number in
    let fits : SFits w32 c.in-Some.kept.number = search rules in
    let number : int32_at 1 read.fields ≡ pos n = sym read.says.number ∙ sym (to_z-of_z w32 c.in-Some.kept.number fits) ∙ natural _ n c.in-Ok.ensures.0 c.in-Ok.ensures.1 in (
      read.fields,
      read.read,
      (
        read.says.texts.0 c.if-not-kept.false,
        is_good front c.args.builder.now c.args.waiting.now all.read n (int32_at 1 read.fields) number (omega (arith, c.documents.ensures.same)) (omega (arith, c.records.ensures.same))
            (λ there. false≢true (c.if-has.ensures.same.1 there)),
        λ sized. omega (arith, sized.text, one_more_text front (document_of read.fields), all.text_is, ap length (read.says.name c.if-not-kept.false), c.if-text-kept.true),
      ),
    )

pub returns-in-Ok-place_record-clause-ok : goal.returns-in-Ok-place_record-clause-ok
returns-in-Ok-place_record-clause-ok c = λ front all.
    let read = c.in-Some.ensures.read in
    let n = c.in-Ok.number in
    let fits : SFits w32 c.in-Some.kept.number = search rules in
    let size : SFits w32 c.in-Some.kept.length = search rules in
    let number : int32_at 1 read.fields ≡ pos n = sym read.says.number ∙ sym (to_z-of_z w32 c.in-Some.kept.number fits) ∙ natural _ n c.in-Ok.ensures.0 c.in-Ok.ensures.1 in
    let document : DocRecord = record { name = c.in-Some.kept.name.now; length = c.in-Some.kept.length } in
    let one : Numbered = record { number = n; document = document } in
    let low : n < c.args.builder.now.documents = omega (arith, c.documents.ensures.same) in
    let late : length c.args.builder.now.records ≤ n = omega (arith, c.records.ensures.same) in
    let new = is_new front c.args.builder.now c.args.waiting.now all.read n late (λ there. false≢true (c.if-has.ensures.same.1 there)) in
    record {
      one = one;
      new_number = new;
      below = omega (arith, low, all.read.documents);
      next = λ few. record {
        fields = read.fields;
        read = read.read;
        texts = read.says.texts.0 c.if-not-kept.false;
        number_is = number;
        below = omega (arith, low, all.read.documents);
        document_is = same_document c.in-Some.kept.name.now c.in-Some.kept.length read.fields (read.says.name c.if-not-kept.false) read.says.length;
        new_number = new;
        sized = record {
          postings = few;
          text = omega (arith, one_more_text front document, all.text_is, c.if-text-kept.false, c.requires.little);
        };
      };
      read = record {
        read = c.in-Ok-place_record.ensures.read front one refl (ap (λ (z : ℤ). record { name = c.in-Some.kept.name.now; length = z }) (sym (to_z-of_z w32 c.in-Some.kept.length size))) new all.later all.read;
        later = c.in-Ok-place_record.ensures.later late all.later;
        text_is = omega (arith, one_more_front front one, all.text_is);
      };
    }
