use Rattle.std.proofs.Common.{◌≡◌, ℕ, ◌+◌, ◌-◌, ◌<◌, List, length, get_or, set, take, refl, sym, subst, arith, All}
use Rattle.rgb_base.specs.declared.parts.Posting.{Posting}
use Rattle.forward_index.specs.Rows.{times, AreMoved, AreWritten}
use Rattle.forward_index.proofs.Banded.{passed_here, passed_all, below_more}
use Rattle.forward_index.proofs.Steps.{moved_within, moved_past, cursor_room, written_more}
use Rattle.forward_index.proofs.fill.write_postings.Goals as goal
use Rattle.forward_index.proofs.fill.write_postings.Goals.{then-at-cursors, else-at-cursors}

pub returns-then-limit-document-clause-passed : goal.returns-then-limit-document-clause-passed
returns-then-limit-document-clause-passed c =
    passed_here c.args.postings.now c.args.limit c.loop-passed.passed _ c.requires.rising.rising c.loop-passed-test.true c.loop-passed.invariant.below c.if-limit-document.true

pub bounds-entries-cursor : goal.bounds-entries-cursor
bounds-entries-cursor c =
    let start = c.args.start.now in
    let first = c.args.first in
    let base = c.args.base in
    let postings = c.args.postings.now in
    let old = c.args.cursors.now in
    let now = c.loop-passed.cursors in
    let was = c.args.entries.now in
    let j = c.loop-passed.passed in
    let taken = below_more postings c.args.limit j _ c.loop-passed-test.true c.loop-passed.invariant.below c.if-limit-document.false in
    let room = cursor_room start first postings j c.new_of.result c.offset_in-at.result _ old now c.requires.start c.requires.within c.loop-passed.auto.cursors c.loop-passed-test.true c.new_of.ensures.same c.new_of.ensures.undoes c.offset_in-at.ensures.behind c.offset_in-at.ensures.before c.loop-passed.invariant.moved base c.args.limit (base + length was) c.requires.low c.requires.high taken c.if-at-cursors.true in
    let low = room.0 in
    let high = room.1 in
    omega (arith, low, high, c.loop-passed.auto.entries)

pub overflow_add-cursors : goal.overflow_add-cursors
overflow_add-cursors c =
    let start = c.args.start.now in
    let first = c.args.first in
    let base = c.args.base in
    let postings = c.args.postings.now in
    let old = c.args.cursors.now in
    let now = c.loop-passed.cursors in
    let was = c.args.entries.now in
    let j = c.loop-passed.passed in
    let taken = below_more postings c.args.limit j _ c.loop-passed-test.true c.loop-passed.invariant.below c.if-limit-document.false in
    let room = cursor_room start first postings j c.new_of.result c.offset_in-at.result _ old now c.requires.start c.requires.within c.loop-passed.auto.cursors c.loop-passed-test.true c.new_of.ensures.same c.new_of.ensures.undoes c.offset_in-at.ensures.behind c.offset_in-at.ensures.before c.loop-passed.invariant.moved base c.args.limit (base + length was) c.requires.low c.requires.high taken c.if-at-cursors.true in
    let high = room.1 in
    record { fits = omega (arith, high, c.requires.small) }

pub loop-passed-preserved : goal.loop-passed-preserved
loop-passed-preserved c =
    let start = c.args.start.now in
    let first = c.args.first in
    let base = c.args.base in
    let postings = c.args.postings.now in
    let old = c.args.cursors.now in
    let now = c.loop-passed.cursors in
    let was = c.args.entries.now in
    let j = c.loop-passed.passed in
    let taken = below_more postings c.args.limit j _ c.loop-passed-test.true c.loop-passed.invariant.below c.if-limit-document.false in
    let entries = c.loop-passed.entries in
    let term = c.args.term in
    let at = c.offset_in-at.result in
    let Moved : List ℕ → Type 0 = (λ (cursors : List ℕ). AreMoved (λ k. times (get_or start (first + k) 0) (take (j + 1) postings)) old cursors) in
    elim c.if-at-cursors.branch [
      | then-at-cursors w ↦
          let room = cursor_room start first postings j c.new_of.result c.offset_in-at.result _ old now c.requires.start c.requires.within c.loop-passed.auto.cursors c.loop-passed-test.true c.new_of.ensures.same c.new_of.ensures.undoes c.offset_in-at.ensures.behind c.offset_in-at.ensures.before c.loop-passed.invariant.moved base c.args.limit (base + length was) c.requires.low c.requires.high taken w.if-at-cursors.true in
          let low = room.0 in
          let high = room.1 in
          let written = written_more base term at (get_or now at 0 - base) old now was entries c.loop-passed.auto.cursors w.if-at-cursors.true (omega (arith, low)) (omega (arith, low, high, c.loop-passed.auto.entries)) (λ k lt. omega (arith, c.loop-passed.invariant.moved k lt)) c.loop-passed.invariant.written in
          record {
            below = taken;
            moved = subst Moved (sym w.cursors-is) (moved_within start first postings j c.new_of.result c.offset_in-at.result _ old now c.requires.start c.requires.within c.loop-passed.auto.cursors c.loop-passed-test.true c.new_of.ensures.same c.new_of.ensures.undoes c.offset_in-at.ensures.behind c.offset_in-at.ensures.before c.loop-passed.invariant.moved w.if-at-cursors.true);
            written = subst (λ (cursors : List ℕ). AreWritten base term old cursors was c.if-at-cursors.entries) (sym w.cursors-is) (subst (AreWritten base term old (set now at (get_or now at 0 + 1)) was) (sym w.entries-is) written);
          }
      | else-at-cursors w ↦ record {
        below = taken;
        moved = subst Moved (sym w.cursors-is) (moved_past start first postings j c.new_of.result c.offset_in-at.result _ old now c.requires.start c.requires.within c.loop-passed.auto.cursors c.loop-passed-test.true c.new_of.ensures.same c.new_of.ensures.undoes c.offset_in-at.ensures.behind c.offset_in-at.ensures.before c.loop-passed.invariant.moved w.if-at-cursors.false);
        written = subst (λ (cursors : List ℕ). AreWritten base term old cursors was c.if-at-cursors.entries) (sym w.cursors-is) (subst (AreWritten base term old now was) (sym w.entries-is) c.loop-passed.invariant.written);
      }
    ]

pub returns-clause-passed : goal.returns-clause-passed
returns-clause-passed c =
    let postings = c.args.postings.now in
    let all : c.loop-passed.passed ≡ length postings = omega (arith, c.loop-passed.auto.passed-end, c.loop-passed-test.false) in
    passed_all postings c.args.limit (length postings) refl (subst (λ (n : ℕ). All (λ (posting : Posting). posting.doc < c.args.limit) (take n postings)) all c.loop-passed.invariant.below)
