use Rattle.std.proofs.Common.{◌≡◌, refl, sym, ap, ◌∙◌}
use Rattle.rgb_base.specs.Building.{Building}
use Rattle.ciff_reader.specs.Listing.{listing}
use Rattle.ciff_reader.proofs.Counting.{behind, same_documents, counted_fault, counted_list}
use Rattle.ciff_reader.proofs.counted.count_list.Goals as goal

pub returns-in-Err-clause-fault : goal.returns-in-Err-clause-fault
returns-in-Err-clause-fault c = λ full lists counted. c.in-Err.ensures.fault (listing lists full)

pub returns-in-Err-close-clause-fault : goal.returns-in-Err-close-clause-fault
returns-in-Err-close-clause-fault c = λ full lists counted.
    let message = c.args.message.now in
    let kept = c.in-Ok.read.0 in
    let pending = c.read_fields.new.pending in
    let built = c.args.builder.now in
    let documents : full.documents ≡ pending.documents = sym (same_documents full built c.args.tally counted) ∙ sym c.requires.documents ∙ sym (ap (λ (b : Building). b.documents) c.in-Ok.ensures.same) in
    let reads = c.fitting-fit.ensures.read message kept (behind full pending) documents refl (sym counted.sums.postings) c.in-Ok.ensures.read in
    counted_fault message kept c.fitting-fit.result pending full built c.args.tally counted reads lists c.requires.no_record c.in-Err-close.refusal c.in-Err-close.ensures.fault

pub returns-clause-ok : goal.returns-clause-ok
returns-clause-ok c = λ full counted.
    let message = c.args.message.now in
    let kept = c.in-Ok.read.0 in
    let pending = c.read_fields.new.pending in
    let built = c.args.builder.now in
    let documents : full.documents ≡ pending.documents = sym (same_documents full built c.args.tally counted) ∙ sym c.requires.documents ∙ sym (ap (λ (b : Building). b.documents) c.in-Ok.ensures.same) in
    let reads = c.fitting-fit.ensures.read message kept (behind full pending) documents refl (sym counted.sums.postings) c.in-Ok.ensures.read in
    let closes = c.in-Ok-close.ensures.ok in
    counted_list message kept c.fitting-fit.result pending full built c.args.tally counted reads c.close.new.builder c.with_list-after.result c.requires.none_open closes (c.fitting-fit.ensures.few closes.few)
    (λ lists list sums is. c.with_list-after.ensures.more lists list sums (is ∙ sym c.postings.ensures.same))
