use Rattle.std.proofs.Common.{◌≡◌, ◌+◌, ◌-◌, [], length, take, drop, refl, sym, subst, ◌∙◌, ap, arith, rules}
use Rattle.std.specs.Prelude.{FitsSigned, ℕ}
use mir.Val.{SFits}
use Rattle.std.specs.Int.{w32}
use Rattle.std.proofs.lemmas.Int.{ints, to_z-of_z}
use Rattle.std.proofs.lemmas.List.{take_rest, drop-drop, length-take, length-drop, length-set}
use Rattle.rgb_base.specs.Building.{with_postings}
use Rattle.ciff_reader.specs.Listing.{ReadsList}
use Rattle.ciff_reader.proofs.Runs.{none_kept, room_kept, run_begins, run_goes_on, good_gaps, are_good_gaps}
use Rattle.ciff_reader.proofs.run.read_run.Goals as goal

pub postings-init : goal.postings-init
postings-init c =
    let message = c.args.message.now in
    let start = c.args.start in
    let rest = take (length message - start) (drop start message) in
    let behind : rest ≡ drop start message = take_rest message start in
    let long : length rest ≡ length message - start = omega (arith, length-take (length message - start) (drop start message), length-drop start message) in
    let at : length message - length rest ≡ start = omega (arith, long, c.requires.within) in
    let same = are_good_gaps c.args.gaps c.requires.good c.requires.few in
    record {
      count = omega arith;
      behind = omega (arith, at);
      within = omega (arith, long);
      rest = behind ∙ ap (λ (n : ℕ). drop n message) (sym at);
      least = omega arith;
      document = omega arith;
      kept = none_kept c.args.documents (good_gaps c.args.gaps.least c.args.gaps.document);
      read = λ kept building documents reads.
          subst (λ (n : ℕ). ReadsList (take n message) kept (good_gaps c.args.gaps.least c.args.gaps.document) (with_postings building [])) (sym at)
          (run_begins _ kept (good_gaps c.args.gaps.least c.args.gaps.document) building (subst (λ gaps. ReadsList (take start message) kept gaps building) same reads));
    }

pub postings-preserved : goal.postings-preserved
postings-preserved c =
    let message = c.args.message.now in
    let rest = c.postings.rest.now in
    let at = length message - length rest in
    let used = c.in-Some.used in
    let further = take (length rest - used) (drop used rest) in
    let posting = c.in-Some.posting in
    let starts = c.in-Some.ensures.posting in
    let gap_fits : SFits w32 posting.gap = search rules in
    let tf_fits : SFits w32 posting.tf = search rules in
    let fits : FitsSigned w32 posting.tf = search rules in
    let gap : c.from-gap.result ≡ posting.gap = c.from-gap.ensures ∙ to_z-of_z w32 posting.gap gap_fits in
    let tf = to_z-of_z w32 posting.tf tf_fits in
    let long : length further ≡ length rest - used = omega (arith, length-take (length rest - used) (drop used rest), length-drop used rest) in
    let place : at + used ≡ length message - length further = omega (arith, long, starts.within, c.postings.invariant.within) in
    let behind : further ≡ drop (at + used) message =
    take_rest rest used ∙ ap (drop used) c.postings.invariant.rest ∙ drop-drop used at message in
    record {
      count = simp length-set (omega (arith, c.postings-test.true));
      behind = omega (arith, c.postings.invariant.behind, long);
      within = omega (arith, long, c.postings.invariant.within);
      rest = behind ∙ ap (λ (n : ℕ). drop n message) place;
      least = omega arith;
      document = omega (arith, ints, gap);
      kept = room_kept c.args.documents c.postings.count (good_gaps c.postings.least c.postings.document) _ c.postings.room _ c.postings-test.true c.postings.invariant.kept (omega (arith, ints, gap)) (omega (arith, ints, gap)) (subst (FitsSigned w32) (sym tf) fits) refl refl;
      read = λ kept building documents reads.
          run_goes_on c.field_after_field.ensures.added c.fields_grow.ensures.types c.fields_grow.ensures.held c.fields_grow.ensures.texts c.fields_grow.ensures.each c.gaps_grow.ensures.sums c.gaps_grow.ensures.sum c.gaps_grow.ensures.good
          message rest at used (length message - length further) posting kept (good_gaps c.postings.least c.postings.document) _ _ c.postings.room c.postings.count building c.postings-test.true c.postings.invariant.rest starts place refl refl
          (omega (arith, ints, gap)) (omega (arith, ints, gap)) (omega (arith, ints, gap, documents)) tf (c.postings.invariant.read kept building documents reads);
    }

pub postings-smaller : goal.postings-smaller
postings-smaller c = simp length-set (omega (arith, c.postings-test.true))
