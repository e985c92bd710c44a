use Rattle.std.proofs.Common.{refl, sym, ap, subst, ◌∙◌, arith}
use Rattle.rgb_base.specs.Building.{Building, IsBuilding}
use Rattle.ciff_format.specs.Accepted.{Front}
use Rattle.ciff_format.specs.Refused.{IsListFault}
use Rattle.ciff_reader.specs.Listing.{listing, without_postings, IsRefusal, AddsList}
use Rattle.ciff_reader.proofs.Reading.{was_without, listing_stays}
use Rattle.ciff_reader.proofs.Closing.{is_added, new_term, is_closed_fault}
use Rattle.ciff_reader.proofs.list.read_list.Goals as goal

pub returns-in-Err-clause-fault : goal.returns-in-Err-clause-fault
returns-in-Err-clause-fault c = λ lists. c.in-Err.ensures.fault (listing lists c.args.builder.now)

pub returns-in-Ok-close-clause-ok : goal.returns-in-Ok-close-clause-ok
returns-in-Ok-close-clause-ok c =
    let message = c.args.message.now in
    let kept = c.in-Ok.read.0 in
    let fitting = c.in_ok-fitting.fitting in
    let mid = c.fill.new.builder in
    let after = c.close.new.builder in
    let reads = c.in_ok-fitting.ensures.read message kept c.in-Ok.ensures.read in
    let closes = c.in-Ok-close.ensures.ok in
    let sound = subst IsBuilding closes.after_is closes.sound in
    let adds = is_added message kept fitting mid 0 reads closes.texts closes.good closes.few (new_term mid kept.term.now kept.df kept.cf sound) (record { postings = omega (arith, sound.few_postings); text = sound.little_text }) in
    subst (λ (b : Building). AddsList message b after) (was_without c.args.builder.now mid c.requires.none_open c.in_ok-fitting.ensures.same)
    (subst (λ (b : Building). AddsList message (without_postings mid) b) (sym closes.after_is) adds)

pub returns-in-Err-close-clause-fault : goal.returns-in-Err-close-clause-fault
returns-in-Err-close-clause-fault c = λ lists.
    let message = c.args.message.now in
    let kept = c.in-Ok.read.0 in
    let fitting = c.in_ok-fitting.fitting in
    let mid = c.fill.new.builder in
    let same = c.in_ok-fitting.ensures.same in
    let reads = c.in_ok-fitting.ensures.read message kept c.in-Ok.ensures.read in
    subst (λ (front : Front). IsRefusal (IsListFault front message) c.in-Err-close.refusal) (listing_stays lists c.args.builder.now mid same)
    (is_closed_fault message kept fitting mid mid lists reads refl refl (ap (λ (b : Building). b.records) same ∙ c.requires.no_record) c.in-Err-close.refusal c.in-Err-close.ensures.fault)
