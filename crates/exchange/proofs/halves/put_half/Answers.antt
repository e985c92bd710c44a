use Rattle.std.proofs.Common.{ℕ, get_or, arith}
use Rattle.std.proofs.lemmas.List.Sorted.{IsNonDecreasingBy-from_sort, Contains-permutation}
use Rattle.exchange.proofs.Exchanged.{Differ-permutation, rising_from_sorted}
use Rattle.exchange.proofs.Merged.{sorted_from_rising, staying_len, half_from_merged}
use Rattle.std.proofs.Common.{take}
use Rattle.exchange.proofs.halves.put_half.Goals as goal

pub remove_all-staying-requires-clause-rising : goal.remove_all-staying-requires-clause-rising
remove_all-staying-requires-clause-rising c =
    let new = c.sort_unstable.new.self in
    rising_from_sorted new (Differ-permutation c.args.docs.now new c.sort_unstable.ensures.permutation c.requires.differ)
    (IsNonDecreasingBy-from_sort (λ (n : ℕ). n) new c.sort_unstable.ensures.sorted)

pub remove_all-staying-requires-clause-there : goal.remove_all-staying-requires-clause-there
remove_all-staying-requires-clause-there c k d within =
    Contains-permutation c.args.docs.now c.sort_unstable.new.self (get_or c.args.leave.now k d) c.sort_unstable.ensures.permutation (c.requires.there k d within)

pub merge_into-requires-clause-len : goal.merge_into-requires-clause-len
merge_into-requires-clause-len c =
    let removed = c.remove_all-staying.new.docs in
    staying_len c.remove_all-staying.result c.sort_unstable.new.self removed c.args.leave.now c.args.come.now
    c.remove_all-staying.ensures.within (omega arith) c.remove_all-staying.ensures.same c.requires.len

pub merge_into-requires-clause-sorted : goal.merge_into-requires-clause-sorted
merge_into-requires-clause-sorted c = sorted_from_rising (take c.remove_all-staying.result c.remove_all-staying.new.docs) c.remove_all-staying.ensures.rising

pub merge_into-requires-clause-sorted_come : goal.merge_into-requires-clause-sorted_come
merge_into-requires-clause-sorted_come c = sorted_from_rising c.args.come.now c.requires.rising_come

pub returns : goal.returns
returns c = record {
  half = half_from_merged c.args.docs.now c.sort_unstable.new.self (take c.remove_all-staying.result c.remove_all-staying.new.docs) c.args.leave.now c.args.come.now c.merge_into.new.docs
      c.requires.differ c.sort_unstable.ensures.permutation c.remove_all-staying.ensures.same c.requires.rising_come c.requires.apart c.merge_into.ensures.same c.merge_into.ensures.sorted;
}
