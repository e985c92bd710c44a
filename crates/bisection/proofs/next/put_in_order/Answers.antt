use Rattle.std.proofs.Common.{◌≡◌, rules, ap}
use Rattle.std.specs.Ordering.{is_lt}
use Rattle.std.proofs.lemmas.Fn.{always_returns_same}
use Rattle.std.proofs.lemmas.List.Sorted.{ranks_by}
use Rattle.cell_claims.specs.declared.trace.KeptRound.{KeptRound}
use Rattle.bisection.proofs.Ordered.{round_cmp, round_total, apart_permutation, ordered_from_sorted}
use Rattle.bisection.proofs.next.put_in_order.Goals as goal

pub returns-clause-ordered : goal.returns-clause-ordered
returns-clause-ordered c =
    let old = c.args.trace.now in
    let new = c.sort_unstable_by.new.self in
    ordered_from_sorted new (apart_permutation old new c.sort_unstable_by.ensures.permutation c.requires)
    (c.sort_unstable_by.ensures.sorted (λ x y. is_lt (round_cmp x y)) (ranks_by round_total (λ (r : KeptRound). r))
    (always_returns_same _ (λ a r. is_lt r ≡ is_lt (round_cmp a.0.now a.1.0.now)) _ (λ a r f k. (let said : r ≡ round_cmp a.0.now a.1.0.now = search rules in (ap is_lt said, search rules)))))
