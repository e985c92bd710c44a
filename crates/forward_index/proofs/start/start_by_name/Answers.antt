use Rattle.std.proofs.Common.{◌≡◌, ℕ, List, length, sym, ap, subst, arith, rules}
use Rattle.std.specs.List.{range_with_len}
use Rattle.std.specs.List.Sorted.{IsSortedBy, IsPermutation}
use Rattle.std.proofs.lemmas.Fn.{always_returns_same}
use Rattle.rgb_base.specs.Order.{IsFirstBad}
use Rattle.forward_index.proofs.Names.{is_before, by_name_ranks, sorted_by_name, no_fault}
use Rattle.forward_index.proofs.Starts.{range_from_each}
use Rattle.forward_index.proofs.start.start_by_name.Goals as goal

pub from_order-requires : goal.from_order-requires
from_order-requires c =
    omega (arith, c.sort_unstable_by.ensures.len, c.in_ok-order.ensures.len, c.documents.ensures.same, c.is_sound.ensures.sound.counted.documents)

pub returns-in-Ok : goal.returns-in-Ok
returns-in-Ok c =
    let index = c.args.index.now in
    let size : length c.in-Ok.order ≡ length index.documents = omega (arith, ap length c.in-Ok.ensures.ok, c.sort_unstable_by.ensures.len, c.in_ok-order.ensures.len, c.documents.ensures.same) in
    let sorted : IsSortedBy (is_before index) c.sort_unstable_by.new.self.items = c.sort_unstable_by.ensures.sorted (is_before index) (by_name_ranks index) (always_returns_same _ _ _ (λ a r f' h. search rules)) in
    record { ok = sorted_by_name index c.in-Ok.order c.in-Ok.ensures.sound size (subst (IsSortedBy (is_before index)) (sym c.in-Ok.ensures.ok) sorted) }

pub unreachable-requires : goal.unreachable-requires
unreachable-requires c =
    let n = c.documents.result in
    let order = c.sort_unstable_by.new.self.items in
    let place = c.in-Err-NotAPermutation.field-0-0 in
    let value = c.in-Err-NotAPermutation.field-0-1 in
    let range = range_from_each c.in_ok-order.order.items n c.in_ok-order.ensures.len c.in_ok-order.ensures.each in
    let moved : IsPermutation (range_with_len 0 n) order = subst (λ (xs : List ℕ). IsPermutation xs order) range c.sort_unstable_by.ensures.permutation in
    let fault : IsFirstBad order place value = rw c.in-Err-NotAPermutation.field-0-is at c.in-Err-NotAPermutation.ensures.fault in
    no_fault n place value order (omega (arith, c.documents.ensures.same, c.is_sound.ensures.sound.counted.documents)) moved fault
