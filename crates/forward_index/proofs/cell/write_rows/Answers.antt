use Rattle.std.proofs.Common.{◌≡◌, ℕ, ◌+◌, ◌<◌, [], length, get_or, take, map, ap, subst, ◌∙◌, arith, All, length-append}
use Rattle.std.proofs.lemmas.Option.{get_or_from_slice_get}
use Rattle.std.proofs.lemmas.List.{length-map}
use Rattle.std.proofs.lemmas.List.Kept.{AllPairs-from_increasing}
use Rattle.forward_index.specs.Forward.{row_at}
use Rattle.forward_index.specs.Marks.{renamed_rows}
use Rattle.forward_index.proofs.Filling.{total}
use Rattle.forward_index.proofs.Cells.{next_few, total-renamed, length-flat, written_more}
use Rattle.forward_index.proofs.cell.write_rows.Goals as goal

pub write_row-requires : goal.write_row-requires
write_row-requires c =
    let rows = c.args.whole.now.rows in
    let place = get_or c.args.places.now c.loop-place.place-index 0 in
    let within : place < length rows = c.requires.below c.loop-place.place-index 0 c.loop-place-test.true in
    let read : row_at rows place ≡ c.terms_of.result.now = get_or_from_slice_get rows place c.terms_of.result.now [] c.terms_of.ensures.same in
    let terms : All (λ (t : ℕ). t < c.args.whole.now.terms) c.terms_of.result.now = subst (All (λ (t : ℕ). t < c.args.whole.now.terms)) read (c.is_sound.ensures.sound.rows place [] within).below in
    record { below = λ k d lt. omega (arith, terms k d lt, c.requires.terms) }

pub overflow_cast-len : goal.overflow_cast-len
overflow_cast-len c =
    let rows = c.args.whole.now.rows in
    let places = c.args.places.now in
    let numbers = c.args.numbers.now in
    let j = c.loop-place.place-index in
    let row = c.terms_of.result.now in
    let read : row_at rows (get_or places j 0) ≡ row = get_or_from_slice_get rows (get_or places j 0) row [] c.terms_of.ensures.same in
    let few = next_few rows places j (AllPairs-from_increasing places c.requires.rising) c.requires.below c.loop-place-test.true in
    let all = c.is_sound.ensures.sound.few in
    let before = renamed_rows rows numbers (take j places) in
    let size : length c.loop-place.entries.items ≡ total before = ap length c.loop-place.invariant.filled ∙ length-flat before in
    let longer : length c.write_row.new.entries.items ≡ length c.loop-place.entries.items + length row = ap length c.in_ok-write_row.ensures.ok ∙ length-append c.loop-place.entries.items (map (λ (term : ℕ). get_or numbers term 0) row) ∙ ap (λ (n : ℕ). length c.loop-place.entries.items + n) (length-map row (λ (term : ℕ). get_or numbers term 0)) in
    omega (arith, longer, size, total-renamed rows numbers (take j places), few, all, ap length read, c.len.ensures, c.write_row.new.entries.ok.0)

pub loop-place-preserved : goal.loop-place-preserved
loop-place-preserved c =
    let rows = c.args.whole.now.rows in
    let places = c.args.places.now in
    let numbers = c.args.numbers.now in
    let j = c.loop-place.place-index in
    let row = c.terms_of.result.now in
    let read : row_at rows (get_or places j 0) ≡ row = get_or_from_slice_get rows (get_or places j 0) row [] c.terms_of.ensures.same in
    let size : c.len.result ≡ length c.write_row.new.entries.items = omega (arith, c.len.ensures, c.write_row.new.entries.ok.0) in
    written_more rows places numbers j c.loop-place.ends.items c.push.new.self.items c.loop-place.entries.items c.write_row.new.entries.items row c.len.result c.loop-place-test.true read c.loop-place.invariant c.in_ok-write_row.ensures.ok size c.in_ok-push.ensures.items
