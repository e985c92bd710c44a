-- Entries of which some are put in front.
use Rattle.std.proofs.Common.{◌≡◌, ℕ, ◌+◌, ◌^◌, ◌<◌, ◌≤◌, ℤ, pos, ◌+ℤ◌, ◌<ℤ◌, ◌≤ℤ◌, true, false, to_z, of_z, w64, List, ◌++◌, length, get_or, take, drop, sym, subst, ap, ◌∙◌, All, inl, inr, arith}
use lib.Signed.{lt_z}
use Rattle.std.specs.List.{SwappedAt}
use Rattle.std.specs.List.Sorted.{IsPermutation}
use Rattle.std.proofs.Math.Seq.{drop-append_seam, take-append_seam}
use Rattle.std.proofs.lemmas.Bool.{cases_lt}
use Rattle.std.proofs.lemmas.Int.{ints}
use Rattle.std.proofs.lemmas.List.{length-append, length-take, length-drop, take-map, take-append-drop, get_or_default, get_or-take, get_or-drop}
use Rattle.std.proofs.lemmas.List.Sorted.{IsPermutation-trans, IsPermutation-append_left, length_permutation, All-permutation}
use Rattle.exchange.specs.declared.entry.Entry.{Entry}
use Rattle.exchange.specs.Tries.{docs_of, no_entry, IsWithin, IsParted}
use Rattle.exchange.proofs.Bounds.{read_back}
use Rattle.exchange.proofs.Exchanged.{Differ, Differ-left}

-- the entries before the front have a positive sum, and the later ones passed have none
abbrev pub AreAbove : ℕ → ℤ → List Entry → Type 0
AreAbove front other xs = (k : ℕ) → k < front → pos 0 <ℤ ((get_or xs k no_entry).gain +ℤ other)

abbrev pub AreLow : ℕ → ℕ → ℤ → List Entry → Type 0
AreLow front place other xs = (k : ℕ) → front ≤ k → k < place → ((get_or xs k no_entry).gain +ℤ other) ≤ℤ pos 0

pub above_more : (xs ys : List Entry) (front place : ℕ) (other : ℤ) → SwappedAt xs ys front place → front ≤ place → AreAbove front other xs → pos 0 <ℤ ((get_or xs place no_entry).gain +ℤ other) → AreAbove (front + 1) other ys
above_more xs ys front place other swapped order above here k low =
    elim (cases_lt k front) [
      | inl early ↦ subst (λ (e : Entry). pos 0 <ℤ (e.gain +ℤ other)) (sym (swapped.2 k no_entry (λ same. omega (arith, early, same)) (λ same. omega (arith, early, same, order)))) (above k early)
      | inr late ↦
          let is : k ≡ front = omega (arith, late, low) in
          subst (λ (e : Entry). pos 0 <ℤ (e.gain +ℤ other)) (sym (ap (λ (n : ℕ). get_or ys n no_entry) is ∙ swapped.0 no_entry)) here
    ]

pub low_more : (xs ys : List Entry) (front place : ℕ) (other : ℤ) → SwappedAt xs ys front place → AreLow front place other xs → AreLow (front + 1) (place + 1) other ys
low_more xs ys front place other swapped rest k from below =
    elim (cases_lt k place) [
      | inl early ↦ subst (λ (e : Entry). (e.gain +ℤ other) ≤ℤ pos 0) (sym (swapped.2 k no_entry (λ same. omega (arith, from, same)) (λ same. omega (arith, early, same)))) (rest k (omega (arith, from)) early)
      | inr late ↦
          let is : k ≡ place = omega (arith, late, below) in
          subst (λ (e : Entry). (e.gain +ℤ other) ≤ℤ pos 0) (sym (ap (λ (n : ℕ). get_or ys n no_entry) is ∙ swapped.1 no_entry)) (rest front (omega arith) (omega (arith, from, is)))
    ]

pub low_next : (xs : List Entry) (front place : ℕ) (other : ℤ) → AreLow front place other xs → ((get_or xs place no_entry).gain +ℤ other) ≤ℤ pos 0 → AreLow front (place + 1) other xs
low_next xs front place other rest here k from below =
    elim (cases_lt k place) [
      | inl early ↦ rest k from early
      | inr late ↦ subst (λ (n : ℕ). ((get_or xs n no_entry).gain +ℤ other) ≤ℤ pos 0) (omega (arith, late, below)) here
    ]

pub parted_from : (front place : ℕ) (other : ℤ) (xs : List Entry) → front ≤ place → place ≡ length xs → AreAbove front other xs → AreLow front place other xs → IsParted front other xs
parted_from front place other xs order all above rest = record {
  within = omega (arith, order, all);
  above = λ k d inside.
      let low : k < front = omega (arith, inside, length-take front xs) in
      let is = get_or-take front xs k d low ∙ get_or_default xs k d no_entry (omega (arith, low, order, all)) in
      subst (λ (e : Entry). pos 0 <ℤ (e.gain +ℤ other)) (sym is) (above k low);
  rest = λ k d inside.
      let low : front + k < length xs = omega (arith, inside, length-drop front xs) in
      let is = get_or-drop front xs k d ∙ get_or_default xs (front + k) d no_entry low in
      subst (λ (e : Entry). (e.gain +ℤ other) ≤ℤ pos 0) (sym is) (rest (front + k) (omega arith) (omega (arith, low, all)));
}

-- ---- the test of a sum in 64 bits

above_zero : (z : ℤ) → lt_z (pos 0) z ≡ true → pos 0 <ℤ z
above_zero z test = grind (arith, ints)

not_above_zero : (z : ℤ) → lt_z (pos 0) z ≡ false → z ≤ℤ pos 0
not_above_zero z test = grind (arith, ints)

abbrev pub sum_in_bits : ℤ → ℤ → ℤ
sum_in_bits g other = to_z w64 (of_z w64 (to_z w64 (of_z w64 g) +ℤ to_z w64 (of_z w64 other)))

sum_is : (g other : ℤ) → IsWithin (2 ^ 56) g → IsWithin (2 ^ 56) other → sum_in_bits g other ≡ g +ℤ to_z w64 (of_z w64 other)
sum_is g other low small =
    let back = read_back (2 ^ 56) g (omega arith) low in
    let other_back = read_back (2 ^ 56) other (omega arith) small in
    let z = to_z w64 (of_z w64 g) +ℤ to_z w64 (of_z w64 other) in
    let within : IsWithin (2 ^ 57) z = record { low = omega (arith, ints, back, other_back, low.low, small.low); high = omega (arith, ints, back, other_back, low.high, small.high) } in
    read_back (2 ^ 57) z (omega arith) within ∙ ap (λ (y : ℤ). y +ℤ to_z w64 (of_z w64 other)) back

pub above_from_test : (g other : ℤ) → IsWithin (2 ^ 56) g → IsWithin (2 ^ 56) other → lt_z (pos 0) (sum_in_bits g other) ≡ true → pos 0 <ℤ (g +ℤ to_z w64 (of_z w64 other))
above_from_test g other low small test = subst (λ (z : ℤ). pos 0 <ℤ z) (sum_is g other low small) (above_zero (sum_in_bits g other) test)

pub low_from_test : (g other : ℤ) → IsWithin (2 ^ 56) g → IsWithin (2 ^ 56) other → lt_z (pos 0) (sum_in_bits g other) ≡ false → (g +ℤ to_z w64 (of_z w64 other)) ≤ℤ pos 0
low_from_test g other low small test = subst (λ (z : ℤ). z ≤ℤ pos 0) (sum_is g other low small) (not_above_zero (sum_in_bits g other) test)

-- ---- the front is put in order

pub differ_front : (f : ℕ) (xs : List Entry) → Differ (docs_of xs) → Differ (docs_of (take f xs))
differ_front f xs differ =
    subst Differ (take-map (λ (entry : Entry). entry.doc) f xs) (Differ-left (take f (docs_of xs)) (drop f (docs_of xs)) (subst Differ (sym (take-append-drop f (docs_of xs))) differ))

pub front_permuted : (f : ℕ) (old xs new : List Entry) → IsPermutation old xs → IsPermutation (take f xs) new → IsPermutation old (new ++ drop f xs)
front_permuted f old xs new same ordered =
    IsPermutation-trans old xs (new ++ drop f xs) same
    (subst (λ (ys : List Entry). IsPermutation ys (new ++ drop f xs)) (take-append-drop f xs) (IsPermutation-append_left (drop f xs) (take f xs) new ordered))

pub front_parted : (f : ℕ) (other : ℤ) (xs new : List Entry) → IsParted f other xs → IsPermutation (take f xs) new → IsParted f other (new ++ drop f xs)
front_parted f other xs new parted ordered =
    let len : length new ≡ f = omega (arith, length_permutation (take f xs) new ordered, length-take f xs, parted.within) in
    let front : take f (new ++ drop f xs) ≡ new = ap (λ (n : ℕ). take n (new ++ drop f xs)) (sym len) ∙ take-append_seam new (drop f xs) in
    let back : drop f (new ++ drop f xs) ≡ drop f xs = ap (λ (n : ℕ). drop n (new ++ drop f xs)) (sym len) ∙ drop-append_seam new (drop f xs) in
    record {
      within = omega (arith, len, length-append new (drop f xs));
      above = subst (All (λ e. pos 0 <ℤ (e.gain +ℤ other))) (sym front) (All-permutation (λ e. pos 0 <ℤ (e.gain +ℤ other)) (take f xs) new ordered parted.above);
      rest = subst (All (λ e. (e.gain +ℤ other) ≤ℤ pos 0)) (sym back) parted.rest;
    }
