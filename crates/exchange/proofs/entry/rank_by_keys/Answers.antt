use Rattle.std.proofs.Common.{ℕ, to_z, of_z, w64}
use Rattle.std.proofs.lemmas.List.Sorted.{IsNonDecreasingBy-from_sort}
use Rattle.exchange.proofs.Keys.{keys_permuted, keys_ranked}
use Rattle.exchange.proofs.entry.rank_by_keys.Goals as goal

pub returns-clause-same : goal.returns-clause-same
returns-clause-same c =
    keys_permuted (to_z w64 (of_z w64 c.args.greatest)) c.args.entries.now c.fill_entries.new.entries c.fill_keys.new.keys c.sort_unstable.new.self
    c.fill_keys.ensures c.sort_unstable.ensures.permutation c.fill_entries.ensures

pub returns-clause-ranked : goal.returns-clause-ranked
returns-clause-ranked c =
    keys_ranked (to_z w64 (of_z w64 c.args.greatest)) c.args.entries.now c.fill_entries.new.entries c.fill_keys.new.keys c.sort_unstable.new.self
    c.fill_keys.ensures c.sort_unstable.ensures.permutation c.fill_entries.ensures c.requires.differ
    (IsNonDecreasingBy-from_sort (λ (n : ℕ). n) c.sort_unstable.new.self c.sort_unstable.ensures.sorted)
