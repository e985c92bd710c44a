use Rattle.std.proofs.Common.{◌≡◌, ℕ, ◌+◌, ◌<◌, List, [], length, get_or, take, refl, sym, ap, subst, arith, All, sum_by}
use Rattle.std.proofs.lemmas.Option.{get_or_from_slice_get}
use Rattle.std.proofs.lemmas.List.Kept.{AllPairs-from_increasing}
use Rattle.std.proofs.lemmas.List.Sums.{sum_by_more}
use Rattle.forward_index.specs.Forward.{row_at}
use Rattle.forward_index.specs.Marks.{AreMarked}
use Rattle.forward_index.proofs.Cells.{next_few, marks_none, marks_more}
use Rattle.forward_index.proofs.cell.mark_rows.Goals as goal

pub loop-place-init : goal.loop-place-init
loop-place-init c = record { total = refl; marks = marks_none c.args.whole.now.rows c.args.marks.now c.requires.noughts }

pub mark_row-requires : goal.mark_row-requires
mark_row-requires c =
    let rows = c.args.whole.now.rows in
    let place = get_or c.args.places.now c.loop-place.place-index 0 in
    let within : place < length rows = c.requires.below c.loop-place.place-index 0 c.loop-place-test.true in
    let read : row_at rows place ≡ c.terms_of-row.result.now = get_or_from_slice_get rows place c.terms_of-row.result.now [] c.terms_of-row.ensures.same in
    let terms : All (λ (t : ℕ). t < c.args.whole.now.terms) c.terms_of-row.result.now = subst (All (λ (t : ℕ). t < c.args.whole.now.terms)) read (c.is_sound.ensures.sound.rows place [] within).below in
    record { below = λ k d lt. omega (arith, terms k d lt, c.loop-place.auto.marks, c.requires.terms) }

pub overflow_cast-total : goal.overflow_cast-total
overflow_cast-total c =
    let rows = c.args.whole.now.rows in
    let places = c.args.places.now in
    let j = c.loop-place.place-index in
    let read : row_at rows (get_or places j 0) ≡ c.terms_of-row.result.now = get_or_from_slice_get rows (get_or places j 0) c.terms_of-row.result.now [] c.terms_of-row.ensures.same in
    let few = next_few rows places j (AllPairs-from_increasing places c.requires.rising) c.requires.below c.loop-place-test.true in
    let all = c.is_sound.ensures.sound.few in
    record { fits = omega (arith, few, all, ap length read) }

pub overflow_add-total : goal.overflow_add-total
overflow_add-total c =
    let rows = c.args.whole.now.rows in
    let places = c.args.places.now in
    let j = c.loop-place.place-index in
    let read : row_at rows (get_or places j 0) ≡ c.terms_of-row.result.now = get_or_from_slice_get rows (get_or places j 0) c.terms_of-row.result.now [] c.terms_of-row.ensures.same in
    let few = next_few rows places j (AllPairs-from_increasing places c.requires.rising) c.requires.below c.loop-place-test.true in
    let all = c.is_sound.ensures.sound.few in
    record { fits = omega (arith, few, all, ap length read, c.loop-place.invariant.total) }

pub loop-place-preserved : goal.loop-place-preserved
loop-place-preserved c =
    let rows = c.args.whole.now.rows in
    let places = c.args.places.now in
    let j = c.loop-place.place-index in
    let read : row_at rows (get_or places j 0) ≡ c.terms_of-row.result.now = get_or_from_slice_get rows (get_or places j 0) c.terms_of-row.result.now [] c.terms_of-row.ensures.same in
    let more : sum_by (λ place. length (row_at rows place)) (take (j + 1) places) ≡ sum_by (λ place. length (row_at rows place)) (take j places) + length (row_at rows (get_or places j 0)) = sum_by_more (λ (p : ℕ). length (row_at rows p)) places j 0 c.loop-place-test.true in
    let sum : c.loop-place.total + length c.terms_of-row.result.now ≡ sum_by (λ place. length (row_at rows place)) (take (j + 1) places) = omega (arith, more, ap length read, c.loop-place.invariant.total) in
    record {
      total = sum;
      marks = marks_more rows places c.loop-place.marks c.mark_row.new.marks j c.loop-place-test.true c.loop-place.invariant.marks (subst (λ (r : List ℕ). AreMarked r c.loop-place.marks c.mark_row.new.marks) (sym read) c.mark_row.ensures.marked);
    }
