use Rattle.std.proofs.Common.{◌≡◌, ℕ, ◌+◌, ◌<◌, ◌≤◌, List, length, set, sym, subst, ◌∙◌, arith}
use Rattle.generated_index.specs.declared.cursor.Cursor.{Cursor}
use Rattle.generated_index.specs.Generated.{term_drawn, all_terms}
use Rattle.generated_index.specs.Steps.{AreCursors, cursor_at}
use Rattle.generated_index.proofs.Steps.{cursor_below, cursors_drawn, cursors_next}
use Rattle.generated_index.proofs.Counting.{all_terms_are, drawn_term}
use Rattle.generated_index.proofs.passes.count_document.Goals as goal

pub slice_copy_out-cursor : goal.slice_copy_out-cursor
slice_copy_out-cursor c = omega (arith, c.term-term.ensures.below, c.loop-draw.invariant.counted.len, all_terms_are)

pub bounds-cursors-term : goal.bounds-cursors-term
bounds-cursors-term c = omega (arith, c.term-term.ensures.below, c.loop-draw.invariant.counted.len, all_terms_are)

pub advanced-requires-clause-end : goal.advanced-requires-clause-end
advanced-requires-clause-end c =
    let term = c.term-term.result in
    let small : term < all_terms = omega (arith, c.term-term.ensures.below, all_terms_are) in
    let cursors = c.loop-draw.cursors in
    let bounds = cursor_below c.args.draws.now.number c.args.document c.loop-draw._draw term 0 (cursor_at cursors term) (c.loop-draw.invariant.counted.each term small) (omega (arith, c.loop-draw-test.true)) in
    omega (arith, bounds.0, c.requires.few)

pub advanced-requires-clause-draws : goal.advanced-requires-clause-draws
advanced-requires-clause-draws c =
    let term = c.term-term.result in
    let small : term < all_terms = omega (arith, c.term-term.ensures.below, all_terms_are) in
    let cursors = c.loop-draw.cursors in
    let bounds = cursor_below c.args.draws.now.number c.args.document c.loop-draw._draw term 0 (cursor_at cursors term) (c.loop-draw.invariant.counted.each term small) (omega (arith, c.loop-draw-test.true)) in
    omega (arith, bounds.1, c.requires.few)

pub advanced-requires-clause-times : goal.advanced-requires-clause-times
advanced-requires-clause-times c =
    let term = c.term-term.result in
    let small : term < all_terms = omega (arith, c.term-term.ensures.below, all_terms_are) in
    let cursors = c.loop-draw.cursors in
    let bounds = cursor_below c.args.draws.now.number c.args.document c.loop-draw._draw term 0 (cursor_at cursors term) (c.loop-draw.invariant.counted.each term small) (omega (arith, c.loop-draw-test.true)) in
    λ late. omega (arith, bounds.2 late)

pub loop-draw-preserved : goal.loop-draw-preserved
loop-draw-preserved c =
    let number = c.args.draws.now.number in
    let document = c.args.document in
    let draw = c.loop-draw._draw in
    let term = c.term-term.result in
    let cursors = c.loop-draw.cursors in
    let small : term < all_terms = omega (arith, c.term-term.ensures.below, all_terms_are) in
    let here : term_drawn number document draw ≡ term = drawn_term number c.loop-draw.draws.number document draw c.loop-draw.draws.made c.args.draws.now.made c.topic-topic.result term
    c.topic-topic.ensures.drawn c.requires.next c.loop-draw.invariant.same c.loop-draw.invariant.made c.term-term.ensures.drawn in
    record {
      made = omega (arith, c.term-term.ensures.made, c.loop-draw.invariant.made);
      same = c.term-term.ensures.same ∙ c.loop-draw.invariant.same;
      counted = subst (λ (cursor : Cursor). AreCursors number document (draw + 1) (λ _. 0) (set cursors term cursor)) (sym c.advanced.ensures.same)
          (cursors_drawn number document draw term (λ _. 0) cursors c.loop-draw.invariant.counted here small);
    }

pub returns-clause-counted : goal.returns-clause-counted
returns-clause-counted c =
    let number = c.args.draws.now.number in
    let all : c.loop-draw._draw ≡ 20 = omega (arith, c.loop-draw-test.false, c.loop-draw.auto._draw-end) in
    cursors_next number c.args.document (λ _. 0) c.loop-draw.cursors (subst (λ (k : ℕ). AreCursors number c.args.document k (λ _. 0) c.loop-draw.cursors) all c.loop-draw.invariant.counted)
