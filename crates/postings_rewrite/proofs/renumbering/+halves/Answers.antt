use Rattle.std.proofs.Common.{◌≡◌, ◌≤◌, length, ◌∙◌, arith, rules}
use Rattle.std.specs.Prelude.{slice_range}
use Rattle.rgb_base.specs.Parts.{posting_count}
use Rattle.postings_rewrite.specs.Tables.{IsTableRenumbered}
use Rattle.postings_rewrite.proofs.Lists.{count_both, count_within}
use Rattle.postings_rewrite.proofs.Tables.{IsTableRenumbered-both}
use Rattle.postings_rewrite.proofs.renumbering.+halves.Goals as goal

pub split_at_mut-front-requires : goal.split_at_mut-front-requires
split_at_mut-front-requires g t c =
    let cut = c.cut-middle.ensures in
    let within = count_within c.args.index.now.lists c.args.from c.cut-middle.result.0 c.args.to cut.low cut.high in
    let place = cut.place in
    let len = c.requires.len in
    omega arith

pub join_mut-requires-after_bounds : goal.join_mut-requires-after_bounds
join_mut-requires-after_bounds g t c κs within =
    let lists = c.args.index.now.lists in
    let from = c.args.from in
    let to = c.args.to in
    let middle = c.cut-middle.result.0 in
    let cut = c.cut-middle.ensures in
    let low : from ≤ middle = cut.low in
    let high : middle ≤ to = cut.high in
    let inner : middle ≤ length lists = omega (arith, cut.high, c.requires.within) in
    let front : length c.split_at_mut-front.result.0.now ≡ posting_count (slice_range lists from middle) = c.split_at_mut-front.ensures.front_len ∙ cut.place in
    let back : length c.split_at_mut-front.result.1.now ≡ posting_count (slice_range lists middle to) =
    omega (arith, c.split_at_mut-front.ensures.back_len, cut.place, c.requires.len, count_both lists from middle to low high) in
    ((search rules, (search rules, ((search rules, low, inner, front, c.requires.documents), search rules))), (search rules, (search rules, ((search rules, high, c.requires.within, back, c.requires.documents), search rules))))

pub returns : goal.returns
returns g t c =
    let middle = c.cut-middle.result.0 in
    let by = c.args.by.now in
    let lists = c.args.index.now.lists in
    let front : IsTableRenumbered by (slice_range lists c.args.from middle) c.front-1.given.0 = search rules in
    let back : IsTableRenumbered by (slice_range lists middle c.args.to) c.back-1.given.0 = search rules in
    IsTableRenumbered-both by lists c.args.from middle c.args.to c.front-1.given.0 c.back-1.given.0 c.cut-middle.ensures.low c.cut-middle.ensures.high front back
