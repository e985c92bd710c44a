use Rattle.std.proofs.Common.{◌≡◌, ◌^◌, ℤ, pos, ◌+ℤ◌, ◌<ℤ◌, ◌≤ℤ◌, to_z, of_z, w64, List, get_or, sym, subst, arith}
use Rattle.std.specs.List.Sorted.{IsPermutation}
use Rattle.std.proofs.lemmas.Int.{ints}
use Rattle.std.proofs.lemmas.List.Sorted.{IsPermutation-trans, All-permutation}
use Rattle.exchange.specs.declared.entry.Entry.{Entry}
use Rattle.exchange.specs.Tries.{no_entry, IsLow, IsParted}
use Rattle.exchange.proofs.Bounds.{fits, read_back}
use Rattle.exchange.proofs.Parted.{above_from_test, low_from_test, above_more, low_more, low_next, parted_from}
use Rattle.exchange.proofs.entry.part.Goals.{then-entries-place-gt0, else-entries-place-gt0}
use Rattle.exchange.proofs.entry.part.Goals as goal

pub overflow_add-entries : goal.overflow_add-entries
overflow_add-entries c =
    let xs = c.loop-place.entries in
    let low = All-permutation IsLow c.args.entries.now xs c.loop-place.invariant.same c.requires.low c.loop-place.place no_entry (omega (arith, c.loop-place-test.true, c.loop-place.auto.entries)) in
    let small = c.requires.small in
    fits (2 ^ 57) (to_z w64 (of_z w64 (get_or xs c.loop-place.place no_entry).gain) +ℤ to_z w64 (of_z w64 c.args.other)) (omega arith) (record { low = omega (arith, ints, low.low, low.high, small.low, small.high); high = omega (arith, ints, low.low, low.high, small.low, small.high) })

pub loop-place-preserved : goal.loop-place-preserved
loop-place-preserved c =
    let xs = c.loop-place.entries in
    let front = c.loop-place.front in
    let place = c.loop-place.place in
    let other = to_z w64 (of_z w64 c.args.other) in
    let low = All-permutation IsLow c.args.entries.now xs c.loop-place.invariant.same c.requires.low place no_entry (omega (arith, c.loop-place-test.true, c.loop-place.auto.entries)) in
    let small = c.requires.small in
    elim c.if-entries-place-gt0.branch [
      | then-entries-place-gt0 w ↦
          let new = w.swap.new.self in
          let here : pos 0 <ℤ ((get_or xs place no_entry).gain +ℤ other) = above_from_test (get_or xs place no_entry).gain c.args.other low small w.if-entries-place-gt0.true in
          record {
            same = subst (IsPermutation c.args.entries.now) (sym w.entries-is) (IsPermutation-trans c.args.entries.now xs new c.loop-place.invariant.same w.swap.ensures.permutation);
            within = omega (arith, w.front-is, c.loop-place.invariant.within);
            above = λ k low. subst (λ (zs : List Entry). pos 0 <ℤ ((get_or zs k no_entry).gain +ℤ other)) (sym w.entries-is)
                (above_more xs new front place other w.swap.ensures.by_index c.loop-place.invariant.within c.loop-place.invariant.above here k (omega (arith, low, w.front-is)));
            rest = λ k from below. subst (λ (zs : List Entry). ((get_or zs k no_entry).gain +ℤ other) ≤ℤ pos 0) (sym w.entries-is)
                (low_more xs new front place other w.swap.ensures.by_index c.loop-place.invariant.rest k (omega (arith, from, w.front-is)) below);
          }
      | else-entries-place-gt0 w ↦
          let here : ((get_or xs place no_entry).gain +ℤ other) ≤ℤ pos 0 = low_from_test (get_or xs place no_entry).gain c.args.other low small w.if-entries-place-gt0.false in
          record {
            same = subst (IsPermutation c.args.entries.now) (sym w.entries-is) c.loop-place.invariant.same;
            within = omega (arith, w.front-is, c.loop-place.invariant.within);
            above = λ k low. subst (λ (zs : List Entry). pos 0 <ℤ ((get_or zs k no_entry).gain +ℤ other)) (sym w.entries-is) (c.loop-place.invariant.above k (omega (arith, low, w.front-is)));
            rest = λ k from below. subst (λ (zs : List Entry). ((get_or zs k no_entry).gain +ℤ other) ≤ℤ pos 0) (sym w.entries-is)
                (low_next xs front place other c.loop-place.invariant.rest here k (omega (arith, from, w.front-is)) below);
          }
    ]

pub returns-clause-parted : goal.returns-clause-parted
returns-clause-parted c =
    let other = c.args.other in
    let back : to_z w64 (of_z w64 other) ≡ other = read_back (2 ^ 56) other (omega arith) c.requires.small in
    subst (λ (z : ℤ). IsParted c.loop-place.front z c.loop-place.entries) back
    (parted_from c.loop-place.front c.loop-place.place (to_z w64 (of_z w64 other)) c.loop-place.entries c.loop-place.invariant.within (omega (arith, c.loop-place-test.false, c.loop-place.auto.place-end, c.loop-place.auto.entries)) c.loop-place.invariant.above c.loop-place.invariant.rest)
