use Rattle.std.proofs.Common.{◌+◌, ◌<◌, length, get_or, sym, ap, ◌∙◌, arith}
use Rattle.std.proofs.lemmas.Option.{slice_get_within}
use Rattle.forward_index.specs.Bands.{row_below}
use Rattle.forward_index.proofs.Rows.{postings_read, row_few}
use Rattle.forward_index.proofs.Banded.{row_first, row_last, row_room, length-row_next}
use Rattle.forward_index.proofs.Begun.{count_at, counts_from}
use Rattle.forward_index.proofs.Passing.{list_few, done_more, left_more}
use Rattle.forward_index.proofs.count.count_band.Goals as goal

pub loop-list-init : goal.loop-list-init
loop-list-init c =
    let lists = c.args.index.now.lists in
    let min_df = c.args.min_df in
    let start = c.args.start.now in
    let first = c.args.first in
    let band = c.args.band in
    record {
      done = λ k list lt found enough. absurd (omega (arith, lt));
      left = λ k list le found enough. c.requires.before.each k list found enough;
      counts = λ k lt.
          count_at (row_below band.from min_df lists) start first (length c.args.counts.now) c.requires.within c.args.counts.now c.requires.counts k lt
          ∙ ap length (sym (row_first band min_df lists (get_or start (first + k) 0)));
    }

pub count_list-now-requires-clause-small : goal.count_list-now-requires-clause-small
count_list-now-requires-clause-small c =
    list_few c.args.index.now.lists c.loop-list.list c.postings-postings.result.now (omega (arith, c.loop-list-test.true, c.lists-list-end.ensures.same)) c.postings-postings.ensures.same c.is_sound.ensures.sound.sized.postings

pub count_list-now-requires-clause-few : goal.count_list-now-requires-clause-few
count_list-now-requires-clause-few c k lt =
    let lists = c.args.index.now.lists in
    let min_df = c.args.min_df in
    let start = c.args.start.now in
    let first = c.args.first in
    let band = c.args.band in
    let list = c.loop-list.list in
    let postings = c.postings-postings.result.now in
    let d = get_or start (first + k) 0 in
    let within : list < length lists = omega (arith, c.loop-list-test.true, c.lists-list-end.ensures.same) in
    let found = postings_read lists list postings within c.postings-postings.ensures.same in
    omega (arith, c.loop-list.invariant.counts k (omega (arith, lt, c.loop-list.auto.counts)), row_room band min_df lists d list postings within found, row_few min_df d 0 lists, c.is_sound.ensures.sound.sized.postings)

pub loop-list-preserved : goal.loop-list-preserved
loop-list-preserved c =
    let lists = c.args.index.now.lists in
    let min_df = c.args.min_df in
    let start = c.args.start.now in
    let first = c.args.first in
    let band = c.args.band in
    let list = c.loop-list.list in
    let postings = c.postings-postings.result.now in
    let read = c.postings-postings.ensures.same in
    let within : list < length lists = omega (arith, c.loop-list-test.true, c.lists-list-end.ensures.same) in
    let found = postings_read lists list postings within read in
    let inside : list < length c.loop-list.table = omega (arith, within, c.loop-list.auto.table, c.requires.before.len) in
    record {
      done = done_more min_df band.from band.limit list c.count_list-now.result lists c.loop-list.table postings inside read c.loop-list.invariant.done c.loop-list.invariant.left c.count_list-now.ensures.passed;
      left = left_more min_df band.from band.limit list c.count_list-now.result lists c.loop-list.table postings inside read c.loop-list.invariant.done c.loop-list.invariant.left c.count_list-now.ensures.passed;
      counts = λ k lt.
          let d = get_or start (first + k) 0 in
          let counted = c.count_list-now.ensures.counted k (omega (arith, lt, c.loop-list.auto.counts)) in
          omega (arith, c.loop-list.invariant.counts k lt, counted, length-row_next band min_df lists d list postings within found);
    }

pub returns-clause-passed : goal.returns-clause-passed
returns-clause-passed c = record {
  len = omega (arith, c.loop-list.auto.table, c.requires.before.len);
  each = λ k list found enough.
      let within = slice_get_within c.args.index.now.lists k list found in
      c.loop-list.invariant.done k list (omega (arith, within, c.loop-list-test.false, c.lists-list-end.ensures.same)) found enough;
}

pub returns-clause-same : goal.returns-clause-same
returns-clause-same c =
    let lists = c.args.index.now.lists in
    let min_df = c.args.min_df in
    let start = c.args.start.now in
    let first = c.args.first in
    let band = c.args.band in
    counts_from (row_below band.limit min_df lists) start first (length c.args.counts.now) c.requires.within c.loop-list.counts c.loop-list.auto.counts (λ k lt.
    c.loop-list.invariant.counts k lt
    ∙ ap length (row_last band min_df lists (get_or start (first + k) 0) c.loop-list.list (omega (arith, c.loop-list-test.false, c.lists-list-end.ensures.same)) c.requires.order))
