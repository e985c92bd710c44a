use Rattle.std.proofs.Common.{◌≡◌, ℕ, ◌+◌, ◌^◌, ◌<◌, List, length, get_or, take, refl, sym, subst, arith, All}
use Rattle.rgb_base.specs.declared.parts.Posting.{Posting}
use Rattle.forward_index.specs.Rows.{times, AreMoved}
use Rattle.forward_index.proofs.Banded.{passed_here, passed_all, below_more}
use Rattle.forward_index.proofs.Steps.{moved_within, moved_past, count_room}
use Rattle.forward_index.proofs.count.count_postings.Goals as goal
use Rattle.forward_index.proofs.count.count_postings.Goals.{then-at-counts, else-at-counts}

pub returns-then-limit-document-clause-passed : goal.returns-then-limit-document-clause-passed
returns-then-limit-document-clause-passed c =
    passed_here c.args.postings.now c.args.limit c.loop-passed.passed _ c.requires.rising.rising c.loop-passed-test.true c.loop-passed.invariant.below c.if-limit-document.true

pub overflow_add-counts : goal.overflow_add-counts
overflow_add-counts c =
    let start = c.args.start.now in
    let first = c.args.first in
    let postings = c.args.postings.now in
    let old = c.args.counts.now in
    let now = c.loop-passed.counts in
    let j = c.loop-passed.passed in
    let taken = below_more postings c.args.limit j _ c.loop-passed-test.true c.loop-passed.invariant.below c.if-limit-document.false in
    let room = count_room start first postings j c.new_of.result c.offset_in-at.result _ old now c.requires.start c.requires.within c.loop-passed.auto.counts c.loop-passed-test.true c.new_of.ensures.same c.new_of.ensures.undoes c.offset_in-at.ensures.behind c.offset_in-at.ensures.before c.loop-passed.invariant.moved c.args.limit (2 ^ 32) c.requires.few taken c.if-at-counts.true in
    record { fits = omega (arith, room) }

pub loop-passed-preserved : goal.loop-passed-preserved
loop-passed-preserved c =
    let start = c.args.start.now in
    let first = c.args.first in
    let postings = c.args.postings.now in
    let old = c.args.counts.now in
    let now = c.loop-passed.counts in
    let j = c.loop-passed.passed in
    let Done : List ℕ → Type 0 = (λ (counts : List ℕ). AreMoved (λ k. times (get_or start (first + k) 0) (take (j + 1) postings)) old counts) in
    record {
      below = below_more postings c.args.limit j _ c.loop-passed-test.true c.loop-passed.invariant.below c.if-limit-document.false;
      moved = elim c.if-at-counts.branch [
        | then-at-counts w ↦ subst Done (sym w.counts-is) (moved_within start first postings j c.new_of.result c.offset_in-at.result _ old now c.requires.start c.requires.within c.loop-passed.auto.counts c.loop-passed-test.true c.new_of.ensures.same c.new_of.ensures.undoes c.offset_in-at.ensures.behind c.offset_in-at.ensures.before c.loop-passed.invariant.moved w.if-at-counts.true)
        | else-at-counts w ↦ subst Done (sym w.counts-is) (moved_past start first postings j c.new_of.result c.offset_in-at.result _ old now c.requires.start c.requires.within c.loop-passed.auto.counts c.loop-passed-test.true c.new_of.ensures.same c.new_of.ensures.undoes c.offset_in-at.ensures.behind c.offset_in-at.ensures.before c.loop-passed.invariant.moved w.if-at-counts.false)
      ];
    }

pub returns-clause-passed : goal.returns-clause-passed
returns-clause-passed c =
    let postings = c.args.postings.now in
    let all : c.loop-passed.passed ≡ length postings = omega (arith, c.loop-passed.auto.passed-end, c.loop-passed-test.false) in
    passed_all postings c.args.limit (length postings) refl (subst (λ (n : ℕ). All (λ (posting : Posting). posting.doc < c.args.limit) (take n postings)) all c.loop-passed.invariant.below)
