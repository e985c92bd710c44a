-- An index has a start order by name: its documents' numbers can be put in that order.
use Rattle.std.proofs.Common.{◌≡◌, ◌≢◌, ◌⊎◌, ℕ, suc, ◌^◌, ◌<◌, List, [], ◌∷◌, length, get_or, refl, sym, ap, ◌∙◌, inl, inr, arith, All, AllPairs, IsPermutation, zero-add}
use Rattle.std.specs.Cmp.{IsTotalOrder}
use Rattle.std.specs.Cmp.Lexicographic.{slice_cmp}
use Rattle.std.specs.Ordering.{nat_cmp, ordering_then, ordering_reverse, is_lt, is_gt}
use Rattle.std.specs.declared.cmp.Ordering.{Ordering}
use Rattle.std.specs.declared.cmp.Ordering.TheVariants.{Less, Equal, Greater}
use Rattle.std.specs.List.{range_with_len}
use Rattle.std.proofs.lemmas.Bool.{true≢false}
use Rattle.std.proofs.lemmas.Cmp.{nat_cmp_total, nat_list_cmp_total, on_total, then_total, ranked, tied_itself}
use Rattle.std.proofs.lemmas.Map.Lookups.{exact_bytes}
use Rattle.std.proofs.lemmas.List.Elements.{All-nil, All-cons}
use Rattle.std.proofs.lemmas.List.FromFn.{length-range_with_len, get_or-range_with_len}
use Rattle.std.proofs.lemmas.List.Kept.{AllPairs-cons}
use Rattle.std.proofs.lemmas.List.Sorted.{IsPermutation-refl, IsPermutation-trans, IsPermutation-cons, IsPermutation-middle, length_permutation, All-permutation, Contains-permutation}
use Rattle.rgb_base.specs.Parts.{IndexParts}
use Rattle.rgb_base.specs.Order.{IsOrder}
use Rattle.forward_index.specs.Start.{name_of, StandsBefore}
use Rattle.forward_index.specs.Laws.{StartIsThere}
use Rattle.forward_index.proofs.Sums.{AllPairs-head, AllPairs-tail}

-- ---- different numbers can be put in order

-- the same numbers in order
pub record CanStand (R : ℕ → ℕ → Type 0) (xs : List ℕ) : Type 0 where
  pub ys : List ℕ
  pub same : IsPermutation xs ys
  pub ordered : AllPairs R ys

module _ (R : ℕ → ℕ → Type 0) (either : (x y : ℕ) → x ≢ y → R x y ⊎ R y x) (far : (x y z : ℕ) → R x y → R y z → R x z) where
  all_behind : (x y : ℕ) (ys : List ℕ) → R x y → AllPairs R (y ∷ ys) → All (R x) (y ∷ ys)
  all_behind x y ys before ordered =
      All-cons (R x) y ys before (λ k d lt. far x y (get_or ys k d) before (AllPairs-head R y ys ordered k d lt))

  put_in : (x : ℕ) (xs : List ℕ) → All (λ y. x ≢ y) xs → AllPairs R xs → CanStand R (x ∷ xs)
  put_in x [] other ordered = record { ys = x ∷ []; same = IsPermutation-refl (x ∷ []); ordered = AllPairs-cons R x [] (All-nil (R x)) ordered }
  put_in x (y ∷ ys) other ordered = elim (either x y (other 0 0 (omega arith))) [
    | inl before ↦ record {
      ys = x ∷ y ∷ ys;
      same = IsPermutation-refl (x ∷ y ∷ ys);
      ordered = AllPairs-cons R x (y ∷ ys) (all_behind x y ys before ordered) ordered;
    }
    | inr behind ↦
        let rest : CanStand R (x ∷ ys) = put_in x ys (λ k d lt. other (suc k) d (omega (arith, lt))) (AllPairs-tail R y ys ordered) in
        record {
          ys = y ∷ rest.ys;
          same = IsPermutation-trans (x ∷ y ∷ ys) (y ∷ x ∷ ys) (y ∷ rest.ys) (IsPermutation-middle (x ∷ []) y ys) (IsPermutation-cons y (x ∷ ys) rest.ys rest.same);
          ordered = AllPairs-cons R y rest.ys (All-permutation (R y) (x ∷ ys) rest.ys rest.same (All-cons (R y) x ys behind (AllPairs-head R y ys ordered))) rest.ordered;
        }
  ]

  pub can_stand : (xs : List ℕ) → AllPairs (λ x y. x ≢ y) xs → CanStand R xs
  can_stand [] different = record { ys = []; same = IsPermutation-refl []; ordered = λ i j d less within. absurd (omega (arith, within)) }
  can_stand (x ∷ xs) different =
      let rest : CanStand R xs = can_stand xs (AllPairs-tail (λ (a b : ℕ). a ≢ b) x xs different) in
      let all : CanStand R (x ∷ rest.ys) = put_in x rest.ys (All-permutation (λ (y : ℕ). x ≢ y) xs rest.ys rest.same (AllPairs-head (λ (a b : ℕ). a ≢ b) x xs different)) rest.ordered in
      record {
        ys = all.ys;
        same = IsPermutation-trans (x ∷ xs) (x ∷ rest.ys) all.ys (IsPermutation-cons x xs rest.ys rest.same) all.same;
        ordered = all.ordered;
      }

-- ---- by name, and then by number

abbrev by_name : IndexParts → ℕ → ℕ → Ordering
by_name index a b = ordering_then (slice_cmp nat_cmp (name_of index a) (name_of index b)) (nat_cmp a b)

by_name_total : (index : IndexParts) → IsTotalOrder (by_name index)
by_name_total index = then_total (on_total (name_of index) nat_list_cmp_total) nat_cmp_total

abbrev IsBefore : IndexParts → ℕ → ℕ → Type 0
IsBefore index a b = by_name index a b ≡ Less

equal_number : (a b : ℕ) (o : Ordering) → ordering_then o (nat_cmp a b) ≡ Equal → a ≡ b
equal_number a b Less is = absurd (true≢false (ap is_lt is))
equal_number a b Equal is = ranked a b Equal (sym is)
equal_number a b Greater is = absurd (true≢false (ap is_gt is))

either_before : (index : IndexParts) (a b : ℕ) → a ≢ b → (o : Ordering) → by_name index a b ≡ o → IsBefore index a b ⊎ IsBefore index b a
either_before index a b different Less is = inl is
either_before index a b different Equal is = absurd (different (equal_number a b (slice_cmp nat_cmp (name_of index a) (name_of index b)) is))
either_before index a b different Greater is = inr ((by_name_total index).antisymm b a ∙ ap ordering_reverse is)

module _ (index : IndexParts) (a b : ℕ) where
  stands : (o : Ordering) → slice_cmp nat_cmp (name_of index a) (name_of index b) ≡ o → ordering_then o (nat_cmp a b) ≡ Less → StandsBefore index a b
  stands Less is before = inl is
  stands Equal is before = inr (exact_bytes (name_of index a) (name_of index b) is, ranked a b Less (sym before))
  stands Greater is before = absurd (true≢false (ap is_lt (sym before)))

  stands_before : IsBefore index a b → StandsBefore index a b
  stands_before before = stands (slice_cmp nat_cmp (name_of index a) (name_of index b)) refl before

  differs : IsBefore index a b → a ≢ b
  differs before same =
      let none : Less ≡ Equal = sym before ∙ ap (by_name index a) (sym same) ∙ tied_itself (by_name_total index) a in
      true≢false (ap is_lt none)

-- ---- the order

-- the first numbers, in whatever order, are an order
shuffled_is_order : (n : ℕ) (order : List ℕ) → n < 2 ^ 31 → IsPermutation (range_with_len 0 n) order → AllPairs (λ a b. a ≢ b) order → IsOrder order
shuffled_is_order n order small same different =
    let range = range_with_len 0 n in
    let len = length-range_with_len 0 n in
    let size = length_permutation range order same in
    record {
      small = omega (arith, small, len, size);
      numbers = record {
        below = All-permutation (λ (x : ℕ). x < length order) range order same (λ k d lt. omega (arith, get_or-range_with_len 0 n k d (omega (arith, lt, len)), lt, size));
        different = different;
      };
      each = λ old lt. Contains-permutation range order old same (old, omega (arith, lt, size), get_or-range_with_len 0 n old old (omega (arith, lt, size, len)) ∙ zero-add old);
    }

range_differs : (n : ℕ) → AllPairs (λ a b. a ≢ b) (range_with_len 0 n)
range_differs n i j d less within same =
    let len = length-range_with_len 0 n in
    absurd (omega (arith, get_or-range_with_len 0 n i d (omega (arith, less, within, len)), get_or-range_with_len 0 n j d (omega (arith, within, len)), same, less))

pub start_is_there : StartIsThere
start_is_there index small =
    let n = length index.documents in
    let is : CanStand (IsBefore index) (range_with_len 0 n) = can_stand (IsBefore index) (λ a b different. either_before index a b different (by_name index a b) refl) (by_name_total index).trans (range_with_len 0 n) (range_differs n) in
    record {
      order = is.ys;
      is_start = record {
        ordered = shuffled_is_order n is.ys small is.same (λ i j d less within. differs index (get_or is.ys i d) (get_or is.ys j d) (is.ordered i j d less within));
        len = length_permutation (range_with_len 0 n) is.ys is.same ∙ length-range_with_len 0 n;
        before = λ i j d less within. stands_before index (get_or is.ys i d) (get_or is.ys j d) (is.ordered i j d less within);
      };
    }
