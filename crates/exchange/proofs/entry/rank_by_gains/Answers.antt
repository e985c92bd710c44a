use Rattle.std.proofs.Common.{rules, ap, ◌≡◌}
use Rattle.std.specs.Ordering.{is_lt}
use Rattle.std.proofs.lemmas.Fn.{always_returns_same}
use Rattle.std.proofs.lemmas.List.Sorted.{ranks_by}
use Rattle.exchange.specs.declared.entry.Entry.{Entry}
use Rattle.exchange.specs.Tries.{docs_of}
use Rattle.exchange.proofs.Exchanged.{Differ-permutation}
use Rattle.exchange.proofs.Ranked.{rank_cmp, rank_total, ranked_from_sorted}
use Rattle.std.proofs.lemmas.List.Sorted.{IsPermutation-map}
use Rattle.exchange.proofs.entry.rank_by_gains.Goals as goal

pub returns-clause-ranked : goal.returns-clause-ranked
returns-clause-ranked c =
    let old = c.args.entries.now in
    let new = c.sort_unstable_by.new.self in
    ranked_from_sorted new
    (Differ-permutation (docs_of old) (docs_of new) (IsPermutation-map (λ (entry : Entry). entry.doc) old new c.sort_unstable_by.ensures.permutation) c.requires.differ)
    (c.sort_unstable_by.ensures.sorted (λ x y. is_lt (rank_cmp x y)) (ranks_by rank_total (λ (entry : Entry). entry))
    (always_returns_same _ (λ a r. is_lt r ≡ is_lt (rank_cmp a.0.now a.1.0.now)) _ (λ a r f k. (let said : r ≡ rank_cmp a.0.now a.1.0.now = search rules in (ap is_lt said, search rules)))))
