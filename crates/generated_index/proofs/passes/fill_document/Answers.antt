use Rattle.std.proofs.Common.{rules, ◌≡◌, ℕ, ℤ, ◌^◌, pos, ◌+◌, ◌-◌, ◌<◌, ◌≤◌, List, length, set, sym, ap, subst, ◌∙◌, arith, to_z}
use Rattle.std.specs.Prelude.{FitsSigned}
use Rattle.std.specs.Int.{w32}
use Rattle.std.proofs.lemmas.Int.{to_z_pos}
use Rattle.rgb_base.specs.declared.parts.Posting.{Posting}
use Rattle.generated_index.specs.declared.cursor.Cursor.{Cursor}
use Rattle.generated_index.specs.Generated.{term_drawn, times_drawn, postings_of, all_terms}
use Rattle.generated_index.specs.Steps.{AreCursors, AreFilled, cursor_at, advanced, begins}
use Rattle.generated_index.proofs.Steps.{cursor_below, cursors_drawn, cursors_next, filled_drawn, filled_next, place_within, times_le, begins_more, begins_within}
use Rattle.generated_index.proofs.Counting.{all_terms_are, drawn_term, drawn_place, begins_small}
use Rattle.generated_index.proofs.passes.fill_document.Goals as goal

pub slice_copy_out-before : goal.slice_copy_out-before
slice_copy_out-before c = omega (arith, c.term-term.ensures.below, c.loop-draw.invariant.cursors.len, all_terms_are)

pub bounds-cursors-term : goal.bounds-cursors-term
bounds-cursors-term c = omega (arith, c.term-term.ensures.below, c.loop-draw.invariant.cursors.len, all_terms_are)

pub advanced-cursor-requires-clause-end : goal.advanced-cursor-requires-clause-end
advanced-cursor-requires-clause-end c =
    let number = c.args.draws.now.number in
    let term = c.term-term.result in
    let base = begins number c.args.documents term in
    let small : term < all_terms = omega (arith, c.term-term.ensures.below, all_terms_are) in
    let bounds = cursor_below number c.args.document c.loop-draw._draw term base (cursor_at c.loop-draw.cursors term) (c.loop-draw.invariant.cursors.each term small) (omega (arith, c.loop-draw-test.true)) in
    omega (arith, bounds.0, c.requires.few, c.requires.within, begins_small number c.args.documents term c.requires.few (omega (arith, c.term-term.ensures.below)))

pub advanced-cursor-requires-clause-draws : goal.advanced-cursor-requires-clause-draws
advanced-cursor-requires-clause-draws c =
    let number = c.args.draws.now.number in
    let term = c.term-term.result in
    let base = begins number c.args.documents term in
    let small : term < all_terms = omega (arith, c.term-term.ensures.below, all_terms_are) in
    let bounds = cursor_below number c.args.document c.loop-draw._draw term base (cursor_at c.loop-draw.cursors term) (c.loop-draw.invariant.cursors.each term small) (omega (arith, c.loop-draw-test.true)) in
    omega (arith, bounds.1, c.requires.few, c.requires.within)

pub advanced-cursor-requires-clause-times : goal.advanced-cursor-requires-clause-times
advanced-cursor-requires-clause-times c =
    let number = c.args.draws.now.number in
    let term = c.term-term.result in
    let base = begins number c.args.documents term in
    let small : term < all_terms = omega (arith, c.term-term.ensures.below, all_terms_are) in
    let bounds = cursor_below number c.args.document c.loop-draw._draw term base (cursor_at c.loop-draw.cursors term) (c.loop-draw.invariant.cursors.each term small) (omega (arith, c.loop-draw-test.true)) in
    λ late. omega (arith, bounds.2 late)

pub overflow_sub-cursor : goal.overflow_sub-cursor
overflow_sub-cursor c =
    let number = c.args.draws.now.number in
    let document = c.args.document in
    let documents = c.args.documents in
    let draw = c.loop-draw._draw in
    let term = c.term-term.result in
    let cursors = c.loop-draw.cursors in
    let small : term < all_terms = omega (arith, c.term-term.ensures.below, all_terms_are) in
    let here : term_drawn number document draw ≡ term = drawn_term number c.loop-draw.draws.number document draw c.loop-draw.draws.made c.args.draws.now.made c.topic-topic.result term
    c.topic-topic.ensures.drawn c.requires.next c.loop-draw.invariant.same c.loop-draw.invariant.made c.term-term.ensures.drawn in
    let place = drawn_place number document draw term (begins number documents term) (cursor_at cursors term) (c.loop-draw.invariant.cursors.each term small) here in
    let end : c.advanced-cursor.result.end ≡ begins number documents term + length (postings_of number document term) + 1 = ap (λ (cursor : Cursor). cursor.end) c.advanced-cursor.ensures.same ∙ place.0 in
    omega (arith, end)

pub overflow_cast-table : goal.overflow_cast-table
overflow_cast-table c =
    let number = c.args.draws.now.number in
    let document = c.args.document in
    let documents = c.args.documents in
    let draw = c.loop-draw._draw in
    let term = c.term-term.result in
    let cursors = c.loop-draw.cursors in
    let small : term < all_terms = omega (arith, c.term-term.ensures.below, all_terms_are) in
    let here : term_drawn number document draw ≡ term = drawn_term number c.loop-draw.draws.number document draw c.loop-draw.draws.made c.args.draws.now.made c.topic-topic.result term
    c.topic-topic.ensures.drawn c.requires.next c.loop-draw.invariant.same c.loop-draw.invariant.made c.term-term.ensures.drawn in
    let place = drawn_place number document draw term (begins number documents term) (cursor_at cursors term) (c.loop-draw.invariant.cursors.each term small) here in
    let times : c.advanced-cursor.result.times ≡ times_drawn number term document (draw + 1) = ap (λ (cursor : Cursor). cursor.times) c.advanced-cursor.ensures.same ∙ place.1 in
    let few : c.advanced-cursor.result.times < 2 ^ 31 = omega (arith, times, times_le number term document (draw + 1), c.loop-draw-test.true) in
    search (rules, few)

pub bounds-table-cursor : goal.bounds-table-cursor
bounds-table-cursor c =
    let number = c.args.draws.now.number in
    let document = c.args.document in
    let documents = c.args.documents in
    let draw = c.loop-draw._draw in
    let term = c.term-term.result in
    let cursors = c.loop-draw.cursors in
    let small : term < all_terms = omega (arith, c.term-term.ensures.below, all_terms_are) in
    let here : term_drawn number document draw ≡ term = drawn_term number c.loop-draw.draws.number document draw c.loop-draw.draws.made c.args.draws.now.made c.topic-topic.result term
    c.topic-topic.ensures.drawn c.requires.next c.loop-draw.invariant.same c.loop-draw.invariant.made c.term-term.ensures.drawn in
    let place = drawn_place number document draw term (begins number documents term) (cursor_at cursors term) (c.loop-draw.invariant.cursors.each term small) here in
    let end : c.advanced-cursor.result.end ≡ begins number documents term + length (postings_of number document term) + 1 = ap (λ (cursor : Cursor). cursor.end) c.advanced-cursor.ensures.same ∙ place.0 in
    let room = place_within number document draw documents term (omega (arith, c.loop-draw-test.true)) c.requires.within here in
    omega (arith, end, room, begins_more number documents term, begins_within number documents (term + 1) all_terms (omega (arith, small)), c.loop-draw.invariant.filled.len)

pub loop-draw-preserved : goal.loop-draw-preserved
loop-draw-preserved c =
    let number = c.args.draws.now.number in
    let document = c.args.document in
    let documents = c.args.documents in
    let draw = c.loop-draw._draw in
    let term = c.term-term.result in
    let cursors = c.loop-draw.cursors in
    let small : term < all_terms = omega (arith, c.term-term.ensures.below, all_terms_are) in
    let here : term_drawn number document draw ≡ term = drawn_term number c.loop-draw.draws.number document draw c.loop-draw.draws.made c.args.draws.now.made c.topic-topic.result term
    c.topic-topic.ensures.drawn c.requires.next c.loop-draw.invariant.same c.loop-draw.invariant.made c.term-term.ensures.drawn in
    let place = drawn_place number document draw term (begins number documents term) (cursor_at cursors term) (c.loop-draw.invariant.cursors.each term small) here in
    let end : c.advanced-cursor.result.end ≡ begins number documents term + length (postings_of number document term) + 1 = ap (λ (cursor : Cursor). cursor.end) c.advanced-cursor.ensures.same ∙ place.0 in
    let times : c.advanced-cursor.result.times ≡ times_drawn number term document (draw + 1) = ap (λ (cursor : Cursor). cursor.times) c.advanced-cursor.ensures.same ∙ place.1 in
    let base = begins number documents in
    let front = length (postings_of number document term) in
    let few : c.advanced-cursor.result.times < 2 ^ 31 = omega (arith, times, times_le number term document (draw + 1), c.loop-draw-test.true) in
    let at : base term + front ≡ c.advanced-cursor.result.end - 1 = omega (arith, end) in
    let posting : Posting = record { doc = document; tf = to_z w32 c.advanced-cursor.result.times } in
    let is : posting ≡ record { doc = document; tf = pos (times_drawn number term document (draw + 1)) } =
    ap (λ (tf : ℤ). let p : Posting = record { doc = document; tf = tf } in p) (to_z_pos w32 c.advanced-cursor.result.times few ∙ ap pos times) in
    record {
      made = omega (arith, c.term-term.ensures.made, c.loop-draw.invariant.made);
      same = c.term-term.ensures.same ∙ c.loop-draw.invariant.same;
      cursors = subst (λ (cursor : Cursor). AreCursors number document (draw + 1) base (set cursors term cursor)) (sym c.advanced-cursor.ensures.same)
          (cursors_drawn number document draw term base cursors c.loop-draw.invariant.cursors here small);
      filled = subst (λ (i : ℕ). AreFilled number document (draw + 1) documents (set c.loop-draw.table i posting)) at
          (filled_drawn number document draw documents term c.loop-draw.table posting c.loop-draw.invariant.filled (omega (arith, c.loop-draw-test.true)) c.requires.within here small is);
    }

pub returns-clause-cursors : goal.returns-clause-cursors
returns-clause-cursors c =
    let number = c.args.draws.now.number in
    let base = begins number c.args.documents in
    let all : c.loop-draw._draw ≡ 20 = omega (arith, c.loop-draw-test.false, c.loop-draw.auto._draw-end) in
    cursors_next number c.args.document base c.loop-draw.cursors (subst (λ (k : ℕ). AreCursors number c.args.document k base c.loop-draw.cursors) all c.loop-draw.invariant.cursors)

pub returns-clause-filled : goal.returns-clause-filled
returns-clause-filled c =
    let number = c.args.draws.now.number in
    let all : c.loop-draw._draw ≡ 20 = omega (arith, c.loop-draw-test.false, c.loop-draw.auto._draw-end) in
    filled_next number c.args.document c.args.documents c.loop-draw.table (subst (λ (k : ℕ). AreFilled number c.args.document k c.args.documents c.loop-draw.table) all c.loop-draw.invariant.filled)
