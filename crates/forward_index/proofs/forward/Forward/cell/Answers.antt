use Rattle.std.proofs.Common.{◌≡◌, length, drop, sym, ap, subst, ◌∙◌, arith}
use Rattle.std.proofs.lemmas.List.{take_at}
use Rattle.std.proofs.lemmas.List.Kept.{AllPairs-from_increasing}
use Rattle.forward_index.specs.Forward.{IsForward}
use Rattle.forward_index.specs.Cell.{IsCellOf}
use Rattle.forward_index.specs.Marks.{AreMarks}
use Rattle.forward_index.proofs.Cells.{length_places}
use Rattle.forward_index.proofs.Marks.{few_bits}
use Rattle.forward_index.proofs.Starts.{range_from_each}
use Rattle.forward_index.proofs.Numbered.{cell_sound, cell_of, cell_ends, cell_held}
use Rattle.forward_index.proofs.forward.Forward.cell.Goals as goal

pub sums_before-terms-requires : goal.sums_before-terms-requires
sums_before-terms-requires c =
    let whole = c.args.self.now in
    let places = c.args.places.now in
    let marks = c.deref_mut-2.result.now in
    let sound = c.is_sound.ensures.sound in
    let size : length c.mark_rows-total.new.marks ≡ c.in_ok-numbers.numbers.len = omega (arith, c.mark_rows-total.auto.marks, c.deref_mut.ensures.len) in
    let given : marks ≡ c.mark_rows-total.new.marks = c.deref_mut-2.ensures.value ∙ take_at c.mark_rows-total.new.marks (drop (length c.mark_rows-total.new.marks) c.in_ok-numbers.numbers.items) c.in_ok-numbers.numbers.len size in
    let are : AreMarks whole.rows places marks = subst (AreMarks whole.rows places) (sym given) c.mark_rows-total.ensures.marks in
    let few = few_bits marks are.bits in
    omega (arith, few, ap length given, size, c.in_ok-numbers.ensures.len, c.terms.ensures.same, sound.few_terms)

pub overflow_cast-places : goal.overflow_cast-places
overflow_cast-places c =
    let few = length_places (length c.args.self.now.rows) c.args.places.now 0 (omega arith) (AllPairs-from_increasing c.args.places.now c.requires.rising) c.requires.below (λ k d lt. omega arith) in
    let small = c.is_sound.ensures.sound.ordered.small in
    let len = c.is_sound.ensures.sound.len in
    omega (arith, few, small, len)

pub from_tables-requires-clause-ends : goal.from_tables-requires-clause-ends
from_tables-requires-clause-ends c =
    let whole = c.args.self.now in
    let places = c.args.places.now in
    let marks = c.deref_mut-2.result.now in
    let numbers = c.sums_before-terms.new.numbers in
    let sound = c.is_sound.ensures.sound in
    let rising = AllPairs-from_increasing places c.requires.rising in
    let size : length c.mark_rows-total.new.marks ≡ c.in_ok-numbers.numbers.len = omega (arith, c.mark_rows-total.auto.marks, c.deref_mut.ensures.len) in
    let given : marks ≡ c.mark_rows-total.new.marks = c.deref_mut-2.ensures.value ∙ take_at c.mark_rows-total.new.marks (drop (length c.mark_rows-total.new.marks) c.in_ok-numbers.numbers.items) c.in_ok-numbers.numbers.len size in
    let are : AreMarks whole.rows places marks = subst (AreMarks whole.rows places) (sym given) c.mark_rows-total.ensures.marks in
    let len : length marks ≡ whole.terms = omega (arith, ap length given, size, c.in_ok-numbers.ensures.len, c.terms.ensures.same) in
    let room : length numbers ≡ c.in_ok-numbers.numbers.len = omega (arith, c.sums_before-terms.auto.numbers, ap length given, size) in
    let read : c.deref.result.now ≡ numbers = c.deref.ensures.value ∙ take_at numbers _ c.in_ok-numbers.numbers.len room in
    cell_ends whole places marks numbers sound rising c.requires.below are len c.sums_before-terms.ensures.each c.deref.result.now c.write_rows.new.ends.items c.write_rows.new.entries.items read c.in_ok-write_rows.ensures.ok

pub from_tables-requires-clause-sound : goal.from_tables-requires-clause-sound
from_tables-requires-clause-sound c =
    let whole = c.args.self.now in
    let places = c.args.places.now in
    let marks = c.deref_mut-2.result.now in
    let numbers = c.sums_before-terms.new.numbers in
    let sound = c.is_sound.ensures.sound in
    let rising = AllPairs-from_increasing places c.requires.rising in
    let size : length c.mark_rows-total.new.marks ≡ c.in_ok-numbers.numbers.len = omega (arith, c.mark_rows-total.auto.marks, c.deref_mut.ensures.len) in
    let given : marks ≡ c.mark_rows-total.new.marks = c.deref_mut-2.ensures.value ∙ take_at c.mark_rows-total.new.marks (drop (length c.mark_rows-total.new.marks) c.in_ok-numbers.numbers.items) c.in_ok-numbers.numbers.len size in
    let are : AreMarks whole.rows places marks = subst (AreMarks whole.rows places) (sym given) c.mark_rows-total.ensures.marks in
    let len : length marks ≡ whole.terms = omega (arith, ap length given, size, c.in_ok-numbers.ensures.len, c.terms.ensures.same) in
    let room : length numbers ≡ c.in_ok-numbers.numbers.len = omega (arith, c.sums_before-terms.auto.numbers, ap length given, size) in
    let read : c.deref.result.now ≡ numbers = c.deref.ensures.value ∙ take_at numbers _ c.in_ok-numbers.numbers.len room in
    let documents = range_from_each c.in_ok-documents.documents.items (length places) c.in_ok-documents.ensures.len c.in_ok-documents.ensures.each in
    let held = cell_held whole places marks numbers sound rising c.requires.below are len c.sums_before-terms.ensures.each c.sums_before-terms.result c.deref.result.now c.write_rows.new.ends.items c.write_rows.new.entries.items c.in_ok-documents.documents.items c.sums_before-terms.ensures.all read c.in_ok-write_rows.ensures.ok documents in
    subst IsForward (sym held) (cell_sound whole places marks numbers sound rising c.requires.below are len c.sums_before-terms.ensures.each)

pub returns-clause-ok : goal.returns-clause-ok
returns-clause-ok c =
    let whole = c.args.self.now in
    let places = c.args.places.now in
    let marks = c.deref_mut-2.result.now in
    let numbers = c.sums_before-terms.new.numbers in
    let sound = c.is_sound.ensures.sound in
    let rising = AllPairs-from_increasing places c.requires.rising in
    let size : length c.mark_rows-total.new.marks ≡ c.in_ok-numbers.numbers.len = omega (arith, c.mark_rows-total.auto.marks, c.deref_mut.ensures.len) in
    let given : marks ≡ c.mark_rows-total.new.marks = c.deref_mut-2.ensures.value ∙ take_at c.mark_rows-total.new.marks (drop (length c.mark_rows-total.new.marks) c.in_ok-numbers.numbers.items) c.in_ok-numbers.numbers.len size in
    let are : AreMarks whole.rows places marks = subst (AreMarks whole.rows places) (sym given) c.mark_rows-total.ensures.marks in
    let len : length marks ≡ whole.terms = omega (arith, ap length given, size, c.in_ok-numbers.ensures.len, c.terms.ensures.same) in
    let room : length numbers ≡ c.in_ok-numbers.numbers.len = omega (arith, c.sums_before-terms.auto.numbers, ap length given, size) in
    let read : c.deref.result.now ≡ numbers = c.deref.ensures.value ∙ take_at numbers _ c.in_ok-numbers.numbers.len room in
    let documents = range_from_each c.in_ok-documents.documents.items (length places) c.in_ok-documents.ensures.len c.in_ok-documents.ensures.each in
    let held = cell_held whole places marks numbers sound rising c.requires.below are len c.sums_before-terms.ensures.each c.sums_before-terms.result c.deref.result.now c.write_rows.new.ends.items c.write_rows.new.entries.items c.in_ok-documents.documents.items c.sums_before-terms.ensures.all read c.in_ok-write_rows.ensures.ok documents in
    subst (IsCellOf whole places) (sym (c.from_tables.ensures.same ∙ held)) (cell_of whole places marks numbers sound rising c.requires.below are len c.sums_before-terms.ensures.each)
