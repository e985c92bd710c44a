use Rattle.std.proofs.Common.{◌≡◌, ℕ, List, length, get_or, take, sum_by, ap, ◌∙◌, arith}
use Rattle.rgb_base.specs.declared.parts.Posting.{Posting}
use Rattle.rgb_base.specs.declared.parts.TermList.{TermList}
use Rattle.rgb_base.specs.Parts.{posting_count}
use Rattle.rgb_base.proofs.index.postings_of.Goals as goal
use Rattle.std.proofs.lemmas.List.Sums.{sum_by_more_le}
use Rattle.rgb_base.proofs.Rows.{sum_by-mapped}

pub push_list-requires-clause-small : goal.push_list-requires-clause-small
push_list-requires-clause-small c =
    let lists = c.args.lists.now in
    let place = c.loop-list.list-index in
    let size : List Posting → ℕ = λ part. length part in
    let before : sum_by size c.loop-list.postings.closed ≡ posting_count (take place lists) = ap (sum_by size) c.loop-list.invariant.closed ∙ sum_by-mapped size (λ (list : TermList). list.postings) (take place lists) in
    let most = sum_by_more_le (λ (list : TermList). length list.postings) lists place c.list-item.result c.loop-list-test.true in
    let here : length c.as_slice.result.now ≡ length (get_or lists place c.list-item.result).postings = ap length c.as_slice.ensures.same ∙ ap (λ (list : TermList). length list.postings) c.list-item.is in
    omega (arith, before, most, here, c.requires.total, c.requires.small)
