-- A kept round exchanges documents between the halves and loses none.
use Rattle.std.proofs.Common.{◌≡◌, Bool, ℕ, ◌+◌, ◌/◌, ◌^◌, ◌≤◌, pos, ◌+ℤ◌, List, ◌++◌, length, take, drop, get_or, refl, sym, subst, ap, ◌∙◌, arith}
use Rattle.std.specs.Prelude.{int_lt}
use Rattle.std.specs.List.{prefix_len, zip}
use Rattle.std.specs.List.Sorted.{IsPermutation, IsStrictlyIncreasing}
use Rattle.std.proofs.Math.Nat.{div-le_self}
use Rattle.std.proofs.lemmas.List.{length-take, length-drop, get_or-take, get_or-drop}
use Rattle.std.proofs.lemmas.List.Sorted.{IsPermutation-refl, IsPermutation-trans, IsPermutation-append, IsPermutation-append_comm, length_permutation}
use Rattle.std.proofs.lemmas.List.Sums.{prefix_len-le-length}
use Rattle.std.proofs.lemmas.Slice.Zip.{length-zip}
use Rattle.forward_index.specs.Forward.{ForwardIndex}
use Rattle.exchange.specs.declared.round.Kept.{Kept}
use Rattle.exchange.specs.Gain.{gain}
use Rattle.exchange.specs.Round.{AreExchanged, IsKept}
use Rattle.exchange.specs.Halving.{Halves, halves_of}
use Rattle.exchange.specs.Tries.{half_after}
use Rattle.exchange.specs.Laws.{ArePartsOf, HalvesKeepDocuments}
use Rattle.exchange.proofs.Exchanged.{Differ, Differ-permutation, Differ-from_rising, length_after, permutation_from_half, half_a_from_exchanged, half_b_from_exchanged}
use Rattle.exchange.proofs.Outcome.{both_permuted}
use Rattle.exchange.proofs.Cells.{cell_is}
use Rattle.exchange.proofs.Entries.{entry_last, all_entries}

-- ---- a part of a rising list

rising_front : (m : ℕ) (xs : List ℕ) → IsStrictlyIncreasing xs → IsStrictlyIncreasing (take m xs)
rising_front m xs rising k within =
    let len = length-take m xs in
    omega (arith, rising k (omega (arith, within, len)), get_or-take m xs k 0 (omega (arith, within, len)), get_or-take m xs (k + 1) 0 (omega (arith, within, len)))

rising_back : (m : ℕ) (xs : List ℕ) → IsStrictlyIncreasing xs → IsStrictlyIncreasing (drop m xs)
rising_back m xs rising k within =
    let next : get_or xs (m + k + 1) 0 ≡ get_or xs (m + (k + 1)) 0 = ap (λ (n : ℕ). get_or xs n 0) (omega arith) in
    omega (arith, rising (m + k) (omega (arith, within, length-drop m xs)), get_or-drop m xs k 0, get_or-drop m xs (k + 1) 0, next)

-- ---- a kept round

module _ (forward : ForwardIndex) (a b : List ℕ) (record_ : Kept) (x y : List ℕ) (differ : Differ (a ++ b)) (is : IsKept forward a b record_ x y) where
  abbrev ranked_a : List ℕ
  ranked_a = is.are_pairs.ranked_a

  abbrev ranked_b : List ℕ
  ranked_b = is.are_pairs.ranked_b

  abbrev gains_more : ℕ × ℕ → Bool
  gains_more pair = int_lt (pos 0) (gain forward a b pair.0 +ℤ gain forward b a pair.1)

  abbrev all : ℕ
  all = prefix_len gains_more (zip ranked_a ranked_b)

  abbrev some : ℕ
  some = length is.exchanged / 2 ^ is.number

  all_low : (all ≤ length ranked_a) × (all ≤ length ranked_b)
  all_low =
      let low = prefix_len-le-length gains_more (zip ranked_a ranked_b) in
      (omega (arith, low, length-zip ranked_a ranked_b), omega (arith, low, length-zip ranked_a ranked_b))

  some_low : some ≤ all
  some_low = omega (arith, div-le_self (length is.exchanged) (2 ^ is.number), ap length is.are_pairs.longest, length-take all (zip ranked_a ranked_b))

  exchanged : AreExchanged (take some (take all (zip ranked_a ranked_b))) a b x y
  exchanged = subst (λ (pairs : List (ℕ × ℕ)). AreExchanged (take some pairs) a b x y) is.are_pairs.longest is.is_try.exchanged

  ranked_differ : Differ (ranked_a ++ ranked_b)
  ranked_differ = Differ-permutation (a ++ b) (ranked_a ++ ranked_b) (IsPermutation-append a ranked_a b ranked_b is.are_pairs.is_a.documents is.are_pairs.is_b.documents) differ

  ranked_differ_back : Differ (ranked_b ++ ranked_a)
  ranked_differ_back = Differ-permutation (ranked_a ++ ranked_b) (ranked_b ++ ranked_a) (IsPermutation-append_comm ranked_a ranked_b) ranked_differ

  to_x : IsPermutation (half_after some ranked_a ranked_b) x
  to_x =
      permutation_from_half some a ranked_a ranked_b x is.are_pairs.is_a.documents ranked_differ
      (half_a_from_exchanged all some ranked_a ranked_b some_low all_low.0 all_low.1 a b x y exchanged)

  to_y : IsPermutation (half_after some ranked_b ranked_a) y
  to_y =
      permutation_from_half some b ranked_b ranked_a y is.are_pairs.is_b.documents ranked_differ_back
      (half_b_from_exchanged all some ranked_a ranked_b some_low all_low.0 all_low.1 a b x y exchanged)

  kept_documents : IsPermutation (a ++ b) (x ++ y)
  kept_documents = both_permuted some a b ranked_a ranked_b x y is.are_pairs.is_a.documents is.are_pairs.is_b.documents to_x to_y

  kept_size : length x ≡ length a
  kept_size =
      length_permutation (half_after some ranked_a ranked_b) x to_x
      ∙ length_after some ranked_a ranked_b (omega (arith, some_low, all_low.0)) (omega (arith, some_low, all_low.1))
      ∙ length_permutation a ranked_a is.are_pairs.is_a.documents

-- ---- all kept rounds

opening_parts : (cell : List ℕ) → IsStrictlyIncreasing cell → ArePartsOf cell (halves_of cell)
opening_parts cell rising = record {
  rising_a = rising_front ((length cell + 1) / 2) cell rising;
  rising_b = rising_back ((length cell + 1) / 2) cell rising;
  documents = subst (IsPermutation cell) (sym (cell_is cell)) (IsPermutation-refl cell);
  len = refl;
}

next_parts : (forward : ForwardIndex) (cell : List ℕ) → IsStrictlyIncreasing cell → (before after : Halves) (r : Kept)
    → IsKept forward before.a before.b r after.a after.b → ArePartsOf cell before → ArePartsOf cell after
next_parts forward cell rising before after r is parts =
    let differ : Differ (before.a ++ before.b) = Differ-permutation cell (before.a ++ before.b) parts.documents (Differ-from_rising cell rising) in
    record {
      rising_a = is.is_try.exchanged.half_a.rising;
      rising_b = is.is_try.exchanged.half_b.rising;
      documents = IsPermutation-trans cell (before.a ++ before.b) (after.a ++ after.b) parts.documents (kept_documents forward before.a before.b r after.a after.b differ is);
      len = kept_size forward before.a before.b r after.a after.b differ is ∙ parts.len;
    }

pub halves_keep_documents : HalvesKeepDocuments
halves_keep_documents forward cell rounds left records rising are =
    let kept = are.is_halving.are_kept in
    subst (ArePartsOf cell) (entry_last forward cell are.entries records kept left are.last)
    (all_entries forward cell are.entries records kept (ArePartsOf cell) (opening_parts cell rising) (next_parts forward cell rising) (length records) (omega arith))
