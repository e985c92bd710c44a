-- Two halves have pairs, and each try leads to some halves.
use Rattle.std.proofs.Common.{Bool, ℕ, ◌^◌, ◌<◌, ◌≤◌, pos, ◌+ℤ◌, List, ◌++◌, length, take, refl, sym, subst, ap, arith}
use Rattle.std.specs.Prelude.{int_lt}
use Rattle.std.specs.List.{prefix_len, take_while, zip}
use Rattle.std.proofs.Math.Nat.{div-le_self}
use Rattle.std.proofs.lemmas.List.{length-take}
use Rattle.std.proofs.lemmas.List.Sorted.{IsPermutation-append, IsPermutation-append_comm}
use Rattle.std.proofs.lemmas.List.Sums.{prefix_len-le-length}
use Rattle.std.proofs.lemmas.Slice.Zip.{length-zip}
use Rattle.forward_index.specs.Forward.{ForwardIndex}
use Rattle.exchange.specs.Gain.{gain}
use Rattle.exchange.specs.Pairs.{ArePairs}
use Rattle.exchange.specs.Round.{AreExchanged, pairs_of_try, IsTry}
use Rattle.exchange.specs.Tries.{half_after}
use Rattle.exchange.specs.Laws.{AreApart, PairsAreThere}
use Rattle.exchange.proofs.Exchanged.{Differ, Differ-permutation, Differ-from_rising, both_differ, half_from_permutation, exchanged_from_halves}
use Rattle.exchange.proofs.ThereOrdered.{has_rising, has_ranking, Differ-append}

pub pairs_are_there : PairsAreThere
pairs_are_there forward a b apart =
    let ranked_a = has_ranking (gain forward a b) a (Differ-from_rising a apart.rising_a) in
    let ranked_b = has_ranking (gain forward b a) b (Differ-from_rising b apart.rising_b) in
    record {
      pairs = take_while (λ (pair : ℕ × ℕ). int_lt (pos 0) (gain forward a b pair.0 +ℤ gain forward b a pair.1)) (zip ranked_a.list ranked_b.list);
      are_pairs = record {
        ranked_a = ranked_a.list;
        ranked_b = ranked_b.list;
        is_a = ranked_a.is_ranked;
        is_b = ranked_b.is_ranked;
        longest = refl;
      };
    }

-- ---- the halves of a try

pub record HasTry (pairs : List (ℕ × ℕ)) (a b : List ℕ) (number : ℕ) : Type 0 where
  pub new_a : List ℕ
  pub new_b : List ℕ
  pub is_try : IsTry pairs a b number new_a new_b

module _ (forward : ForwardIndex) (a b : List ℕ) (pairs : List (ℕ × ℕ)) (apart : AreApart a b) (are : ArePairs forward a b pairs) where
  abbrev gains_more : ℕ × ℕ → Bool
  gains_more pair = int_lt (pos 0) (gain forward a b pair.0 +ℤ gain forward b a pair.1)

  abbrev all : ℕ
  all = prefix_len gains_more (zip are.ranked_a are.ranked_b)

  all_low : (all ≤ length are.ranked_a) × (all ≤ length are.ranked_b)
  all_low =
      let low = prefix_len-le-length gains_more (zip are.ranked_a are.ranked_b) in
      (omega (arith, low, length-zip are.ranked_a are.ranked_b), omega (arith, low, length-zip are.ranked_a are.ranked_b))

  some_low : (number : ℕ) → pairs_of_try pairs number ≤ all
  some_low number = omega (arith, div-le_self (length pairs) (2 ^ number), ap length are.longest, length-take all (zip are.ranked_a are.ranked_b))

  ranked_differ : Differ (are.ranked_a ++ are.ranked_b)
  ranked_differ =
      Differ-permutation (a ++ b) (are.ranked_a ++ are.ranked_b) (IsPermutation-append a are.ranked_a b are.ranked_b are.is_a.documents are.is_b.documents)
      (Differ-append a b (Differ-from_rising a apart.rising_a) (Differ-from_rising b apart.rising_b) apart.apart)

  ranked_differ_back : Differ (are.ranked_b ++ are.ranked_a)
  ranked_differ_back = Differ-permutation (are.ranked_a ++ are.ranked_b) (are.ranked_b ++ are.ranked_a) (IsPermutation-append_comm are.ranked_a are.ranked_b) ranked_differ

  pub has_try : (number : ℕ) → 0 < pairs_of_try pairs number → HasTry pairs a b number
  has_try number some =
      let m = pairs_of_try pairs number in
      let x = has_rising (half_after m are.ranked_a are.ranked_b) (both_differ m are.ranked_a are.ranked_b ranked_differ) in
      let y = has_rising (half_after m are.ranked_b are.ranked_a) (both_differ m are.ranked_b are.ranked_a ranked_differ_back) in
      record {
        new_a = x.list;
        new_b = y.list;
        is_try = record {
          some = some;
          exchanged = subst (λ (ps : List (ℕ × ℕ)). AreExchanged (take m ps) a b x.list y.list) (sym are.longest)
              (exchanged_from_halves all m are.ranked_a are.ranked_b (some_low number) all_low.0 all_low.1 a b x.list y.list
              (half_from_permutation m a are.ranked_a are.ranked_b x.list are.is_a.documents ranked_differ x.same x.rising)
              (half_from_permutation m b are.ranked_b are.ranked_a y.list are.is_b.documents ranked_differ_back y.same y.rising));
        };
      }
