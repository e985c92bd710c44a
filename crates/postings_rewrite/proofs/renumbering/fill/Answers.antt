use Rattle.std.proofs.Common.{◌≡◌, ◌+◌, ◌-◌, ◌<◌, ◌≤◌, List, length, get_or, take, map, refl, sym, subst, ap, ◌∙◌, arith}
use Rattle.std.specs.Prelude.{slice_range}
use Rattle.std.proofs.lemmas.List.{length-map}
use Rattle.std.proofs.lemmas.List.Sorted.{length_permutation}
use Rattle.std.proofs.lemmas.Slice.{take-put_mid}
use Rattle.rgb_base.specs.declared.parts.Posting.{Posting}
use Rattle.postings_rewrite.specs.Renumbering.{moved, ArePostingsRenumbered}
use Rattle.postings_rewrite.specs.Tables.{IsTableRenumbered}
use Rattle.postings_rewrite.proofs.Lists.{no_list, postings_read, count_more, count_none, count_within}
use Rattle.postings_rewrite.proofs.Tables.{IsTableRenumbered-start, IsTableRenumbered-more}
use Rattle.postings_rewrite.proofs.renumbering.fill.Goals as goal

pub loop-list-init : goal.loop-list-init
loop-list-init c =
    let lists = c.args.index.now.lists in
    record { place = sym (count_none lists c.args.from); filled = IsTableRenumbered-start c.args.by.now lists c.args.from (take 0 c.args.table.now) refl }

pub slice_bounds-renumber_list-end : goal.slice_bounds-renumber_list-end
slice_bounds-renumber_list-end c =
    let lists = c.args.index.now.lists in
    let list = c.loop-list.list in
    let within : list < length lists = omega (arith, c.loop-list-test.true, c.requires.within) in
    let found = ap length (postings_read lists list c.postings-postings.result.now within c.postings-postings.ensures.same) in
    let more = count_more lists c.args.from list c.loop-list.auto.list within in
    let fits = count_within lists c.args.from (list + 1) c.args.to (omega (arith, c.loop-list.auto.list)) (omega (arith, c.loop-list-test.true)) in
    let place = c.loop-list.invariant.place in
    let same = c.loop-list.auto.table in
    let len = c.requires.len in
    omega arith

pub loop-list-preserved : goal.loop-list-preserved
loop-list-preserved c =
    let lists = c.args.index.now.lists in
    let by = c.args.by.now in
    let list = c.loop-list.list in
    let start = c.loop-list.start in
    let table = c.loop-list.table in
    let postings = c.postings-postings.result.now in
    let part = c.renumber_list.new.part in
    let within : list < length lists = omega (arith, c.loop-list-test.true, c.requires.within) in
    let found = postings_read lists list postings within c.postings-postings.ensures.same in
    let more = count_more lists c.args.from list c.loop-list.auto.list within in
    let fits = count_within lists c.args.from (list + 1) c.args.to (omega (arith, c.loop-list.auto.list)) (omega (arith, c.loop-list-test.true)) in
    let part_len : length part ≡ length postings = length_permutation (map (moved by) postings) part c.renumber_list.ensures.pairs ∙ length-map postings (moved by) in
    let low : start ≤ length table = omega (arith, c.loop-list.invariant.place, c.loop-list.auto.table, c.requires.len, fits, more) in
    let front = take-put_mid start (start + length postings - start) table part (start + length postings) (omega (arith, part_len)) low in
    let list_len : length part ≡ length (get_or lists list no_list).postings = part_len ∙ sym (ap length found) in
    let is : ArePostingsRenumbered by (get_or lists list no_list).postings part = subst (λ (old : List Posting). ArePostingsRenumbered by old part) (sym found) c.renumber_list.ensures in
    record {
      place = omega (arith, c.loop-list.invariant.place, ap length found, more);
      filled = subst (IsTableRenumbered by (slice_range lists c.args.from (list + 1))) (sym front) (IsTableRenumbered-more by lists c.args.from list (take start table) part c.loop-list.auto.list within list_len c.loop-list.invariant.filled is);
    }
