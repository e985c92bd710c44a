use Rattle.std.proofs.Common.{◌≡◌, ◌+◌, ◌<◌, length, get_or, ap, arith}
use Rattle.postings_rewrite.proofs.Lists.{no_list, postings_read, count_more, count_below}
use Rattle.postings_rewrite.proofs.renumbering.cut.Goals as goal

inside : (c : goal.After-postings) → c.loop-list.list < length c.args.index.now.lists
inside c = omega (arith, c.loop-list-test.true, c.requires.within)

read : (c : goal.After-postings) → (get_or c.args.index.now.lists c.loop-list.list no_list).postings ≡ c.postings.result.now
read c = postings_read c.args.index.now.lists c.loop-list.list c.postings.result.now (inside c) c.postings.ensures.same

pub overflow_add-end : goal.overflow_add-end
overflow_add-end c =
    let lists = c.args.index.now.lists in
    let list = c.loop-list.list in
    record {
      fits = omega (
        arith,
        c.loop-list.invariant,
        inside c,
        ap length (read c),
        count_more lists c.args.from list c.loop-list.auto.list (inside c),
        count_below lists c.args.from (list + 1) (omega (arith, c.loop-list.auto.list)) (omega (arith, inside c)),
        c.is_sound.ensures.sound.sized.postings,
      );
    }

pub loop-list-preserved : goal.loop-list-preserved
loop-list-preserved c =
    let lists = c.args.index.now.lists in
    let list = c.loop-list.list in
    let within : list < length lists = omega (arith, c.loop-list-test.true, c.requires.within) in
    let found = postings_read lists list c.postings.result.now within c.postings.ensures.same in
    omega (arith, c.loop-list.invariant, ap length found, count_more lists c.args.from list c.loop-list.auto.list within)
