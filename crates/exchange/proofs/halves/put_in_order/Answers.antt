use Rattle.std.proofs.Common.{ℕ, sym, subst}
use Rattle.std.proofs.lemmas.List.Sorted.{IsNonDecreasingBy-from_sort}
use Rattle.exchange.proofs.Exchanged.{Differ, Differ-permutation, rising_from_sorted}
use Rattle.exchange.proofs.halves.put_in_order.Goals as goal

pub returns-clause-rising : goal.returns-clause-rising
returns-clause-rising c =
    let put = c.put_documents.new.docs in
    let new = c.sort_unstable.new.self in
    rising_from_sorted new
    (Differ-permutation put new c.sort_unstable.ensures.permutation (subst Differ (sym c.put_documents.ensures) c.requires.differ))
    (IsNonDecreasingBy-from_sort (λ (n : ℕ). n) new c.sort_unstable.ensures.sorted)
