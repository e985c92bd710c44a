use Rattle.std.proofs.Common.{ℕ, ◌+◌, get_or, ap, ◌∙◌, arith}
use Rattle.forward_index.proofs.Banded.{rest_is, rest_few, list_passed, list_times}
use Rattle.forward_index.proofs.fill.write_list.Goals as goal

pub write_postings-requires-clause-rising : goal.write_postings-requires-clause-rising
write_postings-requires-clause-rising c = rest_is _ c.args.postings.now c.args.passed c.requires.rising

pub write_postings-requires-clause-high : goal.write_postings-requires-clause-high
write_postings-requires-clause-high c k n lt low =
    let enough = c.if-min_df-postings.true in
    let d = get_or c.args.start.now (c.args.first + k) 0 in
    let few = rest_few c.args.postings.now c.args.band c.args.passed c.args.min_df enough (c.requires.before enough) n d low in
    let room = c.requires.high k lt in
    omega (arith, few, room)

pub returns-then-min_df-postings-clause-passed : goal.returns-then-min_df-postings-clause-passed
returns-then-min_df-postings-clause-passed c enough =
    list_passed c.args.postings.now c.args.band c.args.passed c.args.min_df enough (c.requires.before enough) c.requires.order c.write_postings.result c.write_postings.ensures.passed

pub returns-then-min_df-postings-clause-moved : goal.returns-then-min_df-postings-clause-moved
returns-then-min_df-postings-clause-moved c k lt =
    let enough = c.if-min_df-postings.true in
    c.write_postings.ensures.moved k lt
    ∙ ap (λ (n : ℕ). get_or c.args.cursors.now k 0 + n) (list_times c.args.postings.now c.args.band c.args.passed c.args.min_df enough (c.requires.before enough) c.requires.order c.write_postings.result c.write_postings.ensures.passed (get_or c.args.start.now (c.args.first + k) 0))
