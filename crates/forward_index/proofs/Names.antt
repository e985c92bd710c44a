-- The order of documents by name.
use Rattle.std.proofs.Common.{◌≡◌, ◌≢◌, ℕ, ◌^◌, ◌<◌, ◌≤◌, List, length, get_or, take, refl, sym, ap, ◌∙◌, arith, eqb, sum_by, Bool, false, inl, inr}
use Rattle.std.specs.Cmp.{IsTotalOrder, IsStrictWeakOrder}
use Rattle.std.specs.Cmp.Lexicographic.{slice_cmp}
use Rattle.std.specs.Ordering.{nat_cmp, ordering_then, ordering_reverse, is_lt}
use Rattle.std.specs.declared.cmp.Ordering.{Ordering}
use Rattle.std.specs.declared.cmp.Ordering.TheVariants.{Less, Equal, Greater}
use Rattle.std.specs.List.{range_with_len}
use Rattle.std.specs.List.Sorted.{IsSortedBy, IsPermutation}
use Rattle.std.proofs.lemmas.Bool.{true≢false, eq-eqb, cond-true}
use Rattle.std.proofs.lemmas.Option.{slice_get_within, get_or_from_slice_get}
use Rattle.std.proofs.lemmas.List.Sums.{get_or-le-sum_by, sum_by_more_le}
use Rattle.std.proofs.lemmas.Bool.Decides.{nat_tests}
use Rattle.std.proofs.lemmas.Cmp.{nat_cmp_total, nat_list_cmp_total, on_total, then_total}
use Rattle.std.proofs.lemmas.Map.Lookups.{exact_bytes}
use Rattle.std.proofs.lemmas.List.Sorted.{ranks_by, sorted_far, length_permutation, All-permutation, sum_by-IsPermutation}
use Rattle.rgb_base.specs.Parts.{IndexParts}
use Rattle.rgb_base.specs.Order.{IsOrder, IsFirstBad}
use Rattle.forward_index.specs.Start.{name_of, StandsBefore, IsStartByName}
use Rattle.forward_index.proofs.Starts.{IsOrder-range}
use Rattle.forward_index.proofs.Steps.{one_if}
use Rattle.forward_index.proofs.Sums.{single}

abbrev pub by_name : IndexParts → ℕ → ℕ → Ordering
by_name index a b = ordering_then (slice_cmp nat_cmp (name_of index a) (name_of index b)) (nat_cmp a b)

abbrev pub is_before : IndexParts → ℕ → ℕ → Bool
is_before index a b = is_lt (by_name index a b)

pub by_name_total : (index : IndexParts) → IsTotalOrder (by_name index)
by_name_total index = then_total (on_total (name_of index) nat_list_cmp_total) nat_cmp_total

pub by_name_ranks : (index : IndexParts) → IsStrictWeakOrder (is_before index)
by_name_ranks index = ranks_by (by_name_total index) (λ (a : ℕ). a)

not_less : (a b : ℕ) → is_lt (nat_cmp b a) ≡ false → a ≤ b
not_less a b h = grind (arith, nat_tests)

module _ (index : IndexParts) (a b : ℕ) (different : a ≢ b) where
  stands : (o : Ordering) → slice_cmp nat_cmp (name_of index b) (name_of index a) ≡ o → is_lt (ordering_then o (nat_cmp b a)) ≡ false → StandsBefore index a b
  stands Less is h = absurd (true≢false h)
  stands Equal is h = let low : a ≤ b = not_less a b h in inr (sym (exact_bytes (name_of index b) (name_of index a) is), omega (arith, low, different))
  stands Greater is h = inl (nat_list_cmp_total.antisymm (name_of index a) (name_of index b) ∙ ap ordering_reverse is)

  pub stands_before : is_before index b a ≡ false → StandsBefore index a b
  stands_before h = stands (slice_cmp nat_cmp (name_of index b) (name_of index a)) refl h

pub sorted_by_name : (index : IndexParts) (order : List ℕ) → IsOrder order → length order ≡ length index.documents → IsSortedBy (is_before index) order → IsStartByName index order
sorted_by_name index order ordered len sorted = record {
  ordered = ordered;
  len = len;
  before = λ i j d less within. stands_before index (get_or order i d) (get_or order j d) (ordered.numbers.different i j d less within) (sorted_far (is_before index) (by_name_ranks index) order sorted i j d (omega (arith, less)) within);
}

-- the first numbers in another order are an order: nothing is wrong with them
pub no_fault : (n place value : ℕ) (order : List ℕ) → n < 2 ^ 31 → IsPermutation (range_with_len 0 n) order → IsFirstBad order place value → ⊥
no_fault n place value order small moved bad =
    let range = range_with_len 0 n in
    let is = IsOrder-range n small in
    let size = length_permutation range order moved in
    let within : place < length order = slice_get_within order place value bad.at in
    let here : get_or order place 0 ≡ value = get_or_from_slice_get order place value 0 bad.at in
    let here_below : get_or order place 0 < length range = All-permutation (λ (x : ℕ). x < length range) range order moved is.numbers.below place 0 within in
    let one : ℕ → ℕ = (λ x. one_if (eqb value x)) in
    let once : sum_by one order ≤ 1 = let few = single value range is.numbers.different in omega (arith, few, sum_by-IsPermutation one range order moved) in
    elim bad.wrong [
      | inl high ↦ absurd (omega (arith, high, here, here_below, size))
      | inr twice ↦
          let now : one (get_or order place 0) ≡ 1 = cond-true {A = ℕ} (eqb value (get_or order place 0)) 1 0 (eq-eqb value (get_or order place 0) (sym here)) in
          let then : one (get_or (take place order) twice.0 value) ≡ 1 = cond-true {A = ℕ} (eqb value (get_or (take place order) twice.0 value)) 1 0 (eq-eqb value (get_or (take place order) twice.0 value) (sym twice.2)) in
          let first = get_or-le-sum_by one (take place order) twice.0 value twice.1 in
          absurd (omega (arith, now, then, first, once, sum_by_more_le one order place 0 within))
    ]
