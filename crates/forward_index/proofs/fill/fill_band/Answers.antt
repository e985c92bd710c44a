use Rattle.std.proofs.Common.{◌≡◌, ℕ, ◌+◌, ◌<◌, ◌≤◌, List, [], length, get_or, refl, sym, ap, subst, ◌∙◌, arith}
use Rattle.std.proofs.lemmas.Option.{slice_get_within}
use Rattle.std.proofs.lemmas.List.Elements.{All-from_get_or}
use Rattle.forward_index.specs.Rows.{rows_of, block, begins, IsReady}
use Rattle.forward_index.specs.Bands.{row_below, rows_below, band_times}
use Rattle.forward_index.proofs.Rows.{postings_read, rows_at}
use Rattle.forward_index.proofs.Filling.{length-begins, ready_at, ready_apart, ready_within, there_more, at_more}
use Rattle.forward_index.proofs.Banded.{row_in, row_first, row_last, row_next, row_room}
use Rattle.forward_index.proofs.Begun.{mapped_at}
use Rattle.forward_index.proofs.Passing.{list_few, done_more, left_more}
use Rattle.forward_index.proofs.fill.fill_band.Goals as goal

pub loop-list-init : goal.loop-list-init
loop-list-init c =
    let lists = c.args.index.now.lists in
    let min_df = c.args.min_df in
    let start = c.args.start.now in
    let first = c.args.first in
    let band = c.args.band in
    let base = c.args.base in
    let n = length c.args.cursors.now in
    let rows = rows_of min_df lists (block start first n) in
    let same : (k : ℕ) → k < n → get_or (rows_below band.from min_df lists (block start first n)) k [] ≡ row_in band min_df lists 0 (get_or start (first + k) 0) = (λ k lt.
    mapped_at (row_below band.from min_df lists) start first n c.requires.within k lt ∙ sym (row_first band min_df lists (get_or start (first + k) 0))) in
    record {
      done = λ k list lt found enough. absurd (omega (arith, lt));
      left = λ k list le found enough. c.requires.before.each k list found enough;
      cursors = λ k lt. c.requires.begun.at k lt ∙ ap (λ (r : List ℕ). get_or (begins base rows) k 0 + length r) (same k lt);
      entries = λ k i j lt low place.
          c.requires.begun.there k i j lt (subst (λ (r : List ℕ). i < length r) (sym (same k lt)) low) place
          ∙ ap (λ (r : List ℕ). get_or r i 0) (same k lt);
    }

pub write_list-now-requires-clause-few : goal.write_list-now-requires-clause-few
write_list-now-requires-clause-few c =
    list_few c.args.index.now.lists c.loop-list.list c.postings-postings.result.now (omega (arith, c.loop-list-test.true, c.lists-list-end.ensures.same)) c.postings-postings.ensures.same c.is_sound.ensures.sound.sized.postings

pub write_list-now-requires-clause-low : goal.write_list-now-requires-clause-low
write_list-now-requires-clause-low c =
    let lists = c.args.index.now.lists in
    let min_df = c.args.min_df in
    let start = c.args.start.now in
    let first = c.args.first in
    let band = c.args.band in
    let base = c.args.base in
    let n = length c.args.cursors.now in
    let rows = rows_of min_df lists (block start first n) in
    let list = c.loop-list.list in
    let postings = c.postings-postings.result.now in
    let within : list < length lists = omega (arith, c.loop-list-test.true, c.lists-list-end.ensures.same) in
    let ready : IsReady base rows (begins base rows) c.args.entries.now = record { starts = refl; room = c.requires.begun.room; small = c.requires.begun.small } in
    let size : length (begins base rows) ≡ n = length-begins base rows ∙ sym c.requires.begun.len in
    All-from_get_or (λ (cursor : ℕ). base ≤ cursor) c.loop-list.cursors 0 (λ k lt.
    let lt' : k < n = omega (arith, lt, c.loop-list.auto.cursors) in
    omega (arith, c.loop-list.invariant.cursors k lt', ready_at base rows (begins base rows) c.args.entries.now ready k (omega (arith, lt', size))))

pub write_list-now-requires-clause-high : goal.write_list-now-requires-clause-high
write_list-now-requires-clause-high c k lt =
    let lists = c.args.index.now.lists in
    let min_df = c.args.min_df in
    let start = c.args.start.now in
    let first = c.args.first in
    let band = c.args.band in
    let base = c.args.base in
    let n = length c.args.cursors.now in
    let rows = rows_of min_df lists (block start first n) in
    let list = c.loop-list.list in
    let postings = c.postings-postings.result.now in
    let within : list < length lists = omega (arith, c.loop-list-test.true, c.lists-list-end.ensures.same) in
    let ready : IsReady base rows (begins base rows) c.args.entries.now = record { starts = refl; room = c.requires.begun.room; small = c.requires.begun.small } in
    let size : length (begins base rows) ≡ n = length-begins base rows ∙ sym c.requires.begun.len in
    let found = postings_read lists list postings within c.postings-postings.ensures.same in
    let d = get_or start (first + k) 0 in
    let lt' : k < n = omega (arith, lt, c.loop-list.auto.cursors) in
    let whole = ap length (rows_at min_df lists start first n k c.requires.within lt') in
    omega (arith, c.loop-list.invariant.cursors k lt', row_room band min_df lists d list postings within found, whole, ready_within base rows (begins base rows) c.args.entries.now ready k (omega (arith, lt', size)), c.loop-list.auto.entries)

pub loop-list-preserved : goal.loop-list-preserved
loop-list-preserved c =
    let lists = c.args.index.now.lists in
    let min_df = c.args.min_df in
    let start = c.args.start.now in
    let first = c.args.first in
    let band = c.args.band in
    let base = c.args.base in
    let n = length c.args.cursors.now in
    let rows = rows_of min_df lists (block start first n) in
    let list = c.loop-list.list in
    let postings = c.postings-postings.result.now in
    let within : list < length lists = omega (arith, c.loop-list-test.true, c.lists-list-end.ensures.same) in
    let ready : IsReady base rows (begins base rows) c.args.entries.now = record { starts = refl; room = c.requires.begun.room; small = c.requires.begun.small } in
    let size : length (begins base rows) ≡ n = length-begins base rows ∙ sym c.requires.begun.len in
    let read = c.postings-postings.ensures.same in
    let found = postings_read lists list postings within read in
    let inside : list < length c.loop-list.table = omega (arith, within, c.loop-list.auto.table, c.requires.before.len) in
    let document : ℕ → ℕ = (λ k. get_or start (first + k) 0) in
    let row : ℕ → List ℕ = (λ k. row_in band min_df lists list (document k)) in
    let add : ℕ → ℕ = (λ k. band_times band min_df (document k) postings) in
    let room : ℕ → ℕ = (λ k. length (get_or rows k [])) in
    let apart : (p q : ℕ) → p < q → q < length (begins base rows) → get_or (begins base rows) p 0 + room p ≤ get_or (begins base rows) q 0 = ready_apart base rows (begins base rows) c.args.entries.now ready in
    let fits : (k : ℕ) → k < length (begins base rows) → length (row k) + add k ≤ room k = (λ k lt.
    omega (arith, row_room band min_df lists (document k) list postings within found, ap length (rows_at min_df lists start first n k c.requires.within (omega (arith, lt, size))))) in
    let len : length c.loop-list.cursors ≡ length (begins base rows) = c.loop-list.auto.cursors ∙ sym size in
    let at : (k : ℕ) → k < length (begins base rows) → get_or c.loop-list.cursors k 0 ≡ get_or (begins base rows) k 0 + length (row k) = (λ k lt. c.loop-list.invariant.cursors k (omega (arith, lt, size))) in
    let there : (k i j : ℕ) → k < length (begins base rows) → i < length (row k) → base + j ≡ get_or (begins base rows) k 0 + i → get_or c.loop-list.entries j 0 ≡ get_or (row k) i 0 = (λ k i j lt low place. c.loop-list.invariant.entries k i j (omega (arith, lt, size)) low place) in
    let next = (λ (k : ℕ). row_next band min_df lists (document k) list postings within found) in
    record {
      done = done_more min_df band.from band.limit list c.write_list-now.result lists c.loop-list.table postings inside read c.loop-list.invariant.done c.loop-list.invariant.left c.write_list-now.ensures.passed;
      left = left_more min_df band.from band.limit list c.write_list-now.result lists c.loop-list.table postings inside read c.loop-list.invariant.done c.loop-list.invariant.left c.write_list-now.ensures.passed;
      cursors = λ k lt.
          at_more base list (begins base rows) c.loop-list.cursors c.write_list-now.new.cursors c.loop-list.entries c.write_list-now.new.entries row add room len apart fits at there c.write_list-now.ensures.moved c.write_list-now.ensures.written k (omega (arith, lt, size))
          ∙ ap (λ (r : List ℕ). get_or (begins base rows) k 0 + length r) (sym (next k));
      entries = λ k i j lt low place.
          there_more base list (begins base rows) c.loop-list.cursors c.write_list-now.new.cursors c.loop-list.entries c.write_list-now.new.entries row add room len apart fits at there c.write_list-now.ensures.moved c.write_list-now.ensures.written k i j (omega (arith, lt, size)) (subst (λ (r : List ℕ). i < length r) (next k) low) place
          ∙ ap (λ (r : List ℕ). get_or r i 0) (sym (next k));
    }

pub returns-clause-passed : goal.returns-clause-passed
returns-clause-passed c = record {
  len = omega (arith, c.loop-list.auto.table, c.requires.before.len);
  each = λ k list found enough.
      let within = slice_get_within c.args.index.now.lists k list found in
      c.loop-list.invariant.done k list (omega (arith, within, c.loop-list-test.false, c.lists-list-end.ensures.same)) found enough;
}

pub returns-clause-begun : goal.returns-clause-begun
returns-clause-begun c =
    let lists = c.args.index.now.lists in
    let min_df = c.args.min_df in
    let start = c.args.start.now in
    let first = c.args.first in
    let band = c.args.band in
    let base = c.args.base in
    let n = length c.args.cursors.now in
    let rows = rows_of min_df lists (block start first n) in
    let done = rows_below band.limit min_df lists (block start first n) in
    let same : (k : ℕ) → k < n → row_in band min_df lists c.loop-list.list (get_or start (first + k) 0) ≡ get_or done k [] = (λ k lt.
    row_last band min_df lists (get_or start (first + k) 0) c.loop-list.list (omega (arith, c.loop-list-test.false, c.lists-list-end.ensures.same)) c.requires.order
    ∙ sym (mapped_at (row_below band.limit min_df lists) start first n c.requires.within k lt)) in
    record {
      len = c.loop-list.auto.cursors ∙ c.requires.begun.len;
      room = c.loop-list.auto.entries ∙ c.requires.begun.room;
      small = omega (arith, c.requires.begun.small, c.loop-list.auto.entries);
      at = λ k lt.
          let lt' : k < n = omega (arith, lt, c.loop-list.auto.cursors) in
          c.loop-list.invariant.cursors k lt' ∙ ap (λ (r : List ℕ). get_or (begins base rows) k 0 + length r) (same k lt');
      there = λ k i j lt low place.
          let lt' : k < n = omega (arith, lt, c.loop-list.auto.cursors) in
          c.loop-list.invariant.entries k i j lt' (subst (λ (r : List ℕ). i < length r) (sym (same k lt')) low) place
          ∙ ap (λ (r : List ℕ). get_or r i 0) (same k lt');
    }
