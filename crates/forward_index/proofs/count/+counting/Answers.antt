use Rattle.std.proofs.Common.{◌≡◌, ℕ, ◌+◌, ◌-◌, ◌*◌, ◌/◌, ◌<◌, ◌≤◌, length, map, sym, subst, arith, rules, All}
use Rattle.std.proofs.lemmas.List.Elements.{All-take, All-drop}
use Rattle.forward_index.specs.Rows.{rows_of, block}
use Rattle.forward_index.proofs.Rows.{counts_both}
use Rattle.forward_index.proofs.Passing.{room_front, room_back}
use Rattle.forward_index.proofs.count.+counting.Goals as goal

pub join_mut-requires-after_bounds : goal.join_mut-requires-after_bounds
join_mut-requires-after_bounds g t c κs within =
    let first = c.args.first in
    let middle = c.share-middle.result in
    let old = c.args.counts.now in
    let parts = c.split_at_mut-front.ensures in
    let tables = c.split_at_mut-near.ensures in
    let workers = c.args.workers in
    let lists = length c.args.index.now.lists in
    let front_within : first + length c.split_at_mut-front.result.0.now ≤ length c.args.start.now = omega (arith, parts.front_len, c.requires.within, c.share-middle.ensures.less) in
    let back_within : first + middle + length c.split_at_mut-front.result.1.now ≤ length c.args.start.now = omega (arith, parts.back_len, c.requires.within, c.share-middle.ensures.less) in
    let front : All (λ (count : ℕ). count ≡ 0) c.split_at_mut-front.result.0.now = subst (All (λ (count : ℕ). count ≡ 0)) (sym parts.front) (All-take (λ (count : ℕ). count ≡ 0) middle old c.requires.noughts) in
    let back : All (λ (count : ℕ). count ≡ 0) c.split_at_mut-front.result.1.now = subst (All (λ (count : ℕ). count ≡ 0)) (sym parts.back) (All-drop (λ (count : ℕ). count ≡ 0) middle old c.requires.noughts) in
    let some : 0 < workers / 2 = omega (arith, c.if-workers-lt2.false) in
    let others : 0 < workers - workers / 2 = omega (arith, c.if-workers-lt2.false) in
    let near : workers / 2 * lists ≤ length c.split_at_mut-near.result.0.now = room_front (workers / 2) lists (length c.split_at_mut-near.result.0.now) c.lists-2.result c.lists-2.ensures.same tables.front_len in
    let far : (workers - workers / 2) * lists ≤ length c.split_at_mut-near.result.1.now =
    room_back (workers / 2) (workers - workers / 2) workers lists c.lists-2.result (length c.split_at_mut-near.result.1.now) (length c.args.table.now) (omega arith) c.lists-2.ensures.same c.requires.lists tables.back_len in
    ((search rules, (search rules, ((search rules, c.requires.documents, front_within, front, c.requires.some, some, near), search rules))), (search rules, (search rules, ((search rules, c.requires.documents, back_within, back, c.requires.some, others, far), search rules))))

pub returns : goal.returns
returns g t c =
    let min_df = c.args.min_df in
    let lists = c.args.index.now.lists in
    let start = c.args.start.now in
    let middle = c.share-middle.result in
    let n = length c.split_at_mut-front.result.0.now in
    let m = length c.split_at_mut-front.result.1.now in
    let n_is : n ≡ middle = c.split_at_mut-front.ensures.front_len in
    let front : c.front-1.given.0 ≡ map (λ row. length row) (rows_of min_df lists (block start c.args.first n)) = search rules in
    let back : c.back-1.given.0 ≡ map (λ row. length row) (rows_of min_df lists (block start (c.args.first + middle) m)) = search rules in
    record { same = counts_both min_df lists start c.args.first (c.args.first + middle) n m (length c.args.counts.now) c.front-1.given.0 c.back-1.given.0 (omega (arith, n_is)) (omega (arith, n_is, c.split_at_mut-front.ensures.back_len, c.share-middle.ensures.less)) front back }
