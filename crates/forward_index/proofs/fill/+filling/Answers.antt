use Rattle.std.proofs.Common.{◌+◌, ◌-◌, ◌*◌, ◌/◌, ◌<◌, ◌≤◌, length, get_or, arith, rules}
use Rattle.forward_index.specs.Rows.{rows_of, block, AreFilled}
use Rattle.forward_index.proofs.Blocks.{cut_low, cut_high, front_ready, back_ready, both_filled}
use Rattle.forward_index.proofs.Passing.{room_front, room_back}
use Rattle.forward_index.proofs.fill.+filling.Goals as goal

pub overflow_sub-cut : goal.overflow_sub-cut
overflow_sub-cut g t c = cut_low c.args.min_df c.args.index.now.lists c.args.start.now c.args.first c.args.base c.share-middle.result c.args.cursors.now c.args.entries.now c.requires.within c.share-middle.ensures.less c.requires.ready

pub split_at_mut-near-requires : goal.split_at_mut-near-requires
split_at_mut-near-requires g t c =
    let high = cut_high c.args.min_df c.args.index.now.lists c.args.start.now c.args.first c.args.base c.share-middle.result c.args.cursors.now c.args.entries.now c.requires.within c.share-middle.ensures.less c.requires.ready in
    omega (arith, high)

pub join_mut-requires-after_bounds : goal.join_mut-requires-after_bounds
join_mut-requires-after_bounds g t c κs within =
    let min_df = c.args.min_df in
    let lists = c.args.index.now.lists in
    let start = c.args.start.now in
    let first = c.args.first in
    let base = c.args.base in
    let middle = c.share-middle.result in
    let old = c.args.cursors.now in
    let entries = c.args.entries.now in
    let parts = c.split_at_mut-front.ensures in
    let others = c.split_at_mut-near.ensures in
    let front = front_ready min_df lists start first base middle old entries c.requires.within c.share-middle.ensures.less c.requires.ready c.split_at_mut-front.result.0.now c.split_at_mut-near.result.0.now parts.front others.front in
    let back = back_ready min_df lists start first base middle old entries c.requires.within c.share-middle.ensures.less c.requires.ready c.split_at_mut-front.result.1.now c.split_at_mut-near.result.1.now parts.back parts.back_len others.back in
    let front_within : first + length c.split_at_mut-front.result.0.now ≤ length start = omega (arith, parts.front_len, c.requires.within, c.share-middle.ensures.less) in
    let back_within : first + middle + length c.split_at_mut-front.result.1.now ≤ length start = omega (arith, parts.back_len, c.requires.within, c.share-middle.ensures.less) in
    let workers = c.args.workers in
    let count = length lists in
    let tables = c.split_at_mut-ahead.ensures in
    let some : 0 < workers / 2 = omega (arith, c.if-workers-lt2.false) in
    let rest : 0 < workers - workers / 2 = omega (arith, c.if-workers-lt2.false) in
    let ahead : workers / 2 * count ≤ length c.split_at_mut-ahead.result.0.now = room_front (workers / 2) count (length c.split_at_mut-ahead.result.0.now) c.lists-2.result c.lists-2.ensures.same tables.front_len in
    let behind : (workers - workers / 2) * count ≤ length c.split_at_mut-ahead.result.1.now =
    room_back (workers / 2) (workers - workers / 2) workers count c.lists-2.result (length c.split_at_mut-ahead.result.1.now) (length c.args.table.now) (omega arith) c.lists-2.ensures.same c.requires.lists tables.back_len in
    ((search rules, (search rules, ((search rules, c.requires.documents, front_within, front, c.requires.some, some, ahead), search rules))), (search rules, (search rules, ((search rules, c.requires.documents, back_within, back, c.requires.some, rest, behind), search rules))))

pub returns : goal.returns
returns g t c =
    let min_df = c.args.min_df in
    let lists = c.args.index.now.lists in
    let start = c.args.start.now in
    let first = c.args.first in
    let base = c.args.base in
    let middle = c.share-middle.result in
    let old = c.args.cursors.now in
    let n = length c.split_at_mut-front.result.0.now in
    let m = length c.split_at_mut-front.result.1.now in
    let one : AreFilled base (rows_of min_df lists (block start first n)) c.front-1.given.0 c.near-1.given.0 = search rules in
    let two : AreFilled (get_or old middle 0) (rows_of min_df lists (block start (first + middle) m)) c.back-1.given.0 c.far-1.given.0 = search rules in
    record { filled = both_filled min_df lists start first base middle old c.args.entries.now c.requires.within c.share-middle.ensures.less c.requires.ready n m c.front-1.given.0 c.back-1.given.0 c.near-1.given.0 c.far-1.given.0 c.split_at_mut-front.ensures.front_len c.split_at_mut-front.ensures.back_len one two }
