use Rattle.std.proofs.Common.{ℕ, ◌+◌, get_or, ap, ◌∙◌, arith}
use Rattle.forward_index.proofs.Banded.{rest_is, rest_few, list_passed, list_times}
use Rattle.forward_index.proofs.count.count_list.Goals as goal

pub count_postings-requires-clause-rising : goal.count_postings-requires-clause-rising
count_postings-requires-clause-rising c = rest_is _ c.args.postings.now c.args.passed c.requires.rising

pub count_postings-requires-clause-few : goal.count_postings-requires-clause-few
count_postings-requires-clause-few c k n lt low =
    let enough = c.if-min_df-postings.true in
    let d = get_or c.args.start.now (c.args.first + k) 0 in
    let few = rest_few c.args.postings.now c.args.band c.args.passed c.args.min_df enough (c.requires.before enough) n d low in
    let room = c.requires.few k lt in
    omega (arith, few, room)

pub returns-then-min_df-postings-clause-passed : goal.returns-then-min_df-postings-clause-passed
returns-then-min_df-postings-clause-passed c enough =
    list_passed c.args.postings.now c.args.band c.args.passed c.args.min_df enough (c.requires.before enough) c.requires.order c.count_postings.result c.count_postings.ensures.passed

pub returns-then-min_df-postings-clause-counted : goal.returns-then-min_df-postings-clause-counted
returns-then-min_df-postings-clause-counted c k lt =
    let enough = c.if-min_df-postings.true in
    c.count_postings.ensures.counted k lt
    ∙ ap (λ (n : ℕ). get_or c.args.counts.now k 0 + n) (list_times c.args.postings.now c.args.band c.args.passed c.args.min_df enough (c.requires.before enough) c.requires.order c.count_postings.result c.count_postings.ensures.passed (get_or c.args.start.now (c.args.first + k) 0))
