-- Numbers that differ can be put in order.
use Rattle.std.proofs.Common.{◌≡◌, ◌≢◌, ◌⊎◌, ℕ, ◌+◌, ◌<◌, ℤ, ◌<ℤ◌, ◌≤ℤ◌, List, [], ◌∷◌, ◌++◌, All, AllPairs, Contains, get_or, sym, subst, inl, inr, arith}
use Rattle.std.specs.List.Sorted.{IsPermutation, IsStrictlyIncreasing}
use Rattle.std.proofs.lemmas.Bool.{cases_order}
use Rattle.std.proofs.lemmas.Int.{ints, by_lt_z}
use Rattle.std.proofs.lemmas.List.Elements.{All-contains_itself, Contains-append_cases}
use Rattle.std.proofs.lemmas.List.Kept.{AllPairs-cons}
use Rattle.std.proofs.lemmas.List.Sorted.{IsPermutation-refl, IsPermutation-sym, IsPermutation-trans, IsPermutation-cons, IsPermutation-middle, Contains-permutation}
use Rattle.exchange.specs.Pairs.{RanksBefore, IsRanked}
use Rattle.exchange.proofs.Exchanged.{Differ, first_there, later_there, head_apart}
use Rattle.exchange.proofs.OneRanking.{first_or_later, head_before, ordered_tail}

all_of : (P : ℕ → Type 0) (xs : List ℕ) → ((z : ℕ) → Contains xs z → P z) → All P xs
all_of P xs each k d within = each (get_or xs k d) (All-contains_itself xs k d within)

-- ---- the numbers of a list in order

pub record IsPut (R : ℕ → ℕ → Type 0) (xs : List ℕ) : Type 0 where
  pub ordered : List ℕ
  pub same : IsPermutation xs ordered
  pub before : AllPairs R ordered

module _ (R : ℕ → ℕ → Type 0) (either : (x y : ℕ) → x ≢ y → R x y ⊎ R y x) (far : (x y z : ℕ) → R x y → R y z → R x z) where
  put_first : (x y : ℕ) (ys : List ℕ) → AllPairs R (y ∷ ys) → R x y → IsPut R (x ∷ y ∷ ys)
  put_first x y ys ordered first = record {
    ordered = x ∷ y ∷ ys;
    same = IsPermutation-refl (x ∷ y ∷ ys);
    before = AllPairs-cons R x (y ∷ ys) (all_of (R x) (y ∷ ys) (λ z there.
        elim (first_or_later y z ys there) [
          | inl same ↦ subst (R x) same first
          | inr behind ↦ far x y z first (head_before R y z ys ordered behind)
        ])) ordered;
  }

  put_later : (x y : ℕ) (ys : List ℕ) → AllPairs R (y ∷ ys) → R y x → IsPut R (x ∷ ys) → IsPut R (x ∷ y ∷ ys)
  put_later x y ys ordered first rest = record {
    ordered = y ∷ rest.ordered;
    same = IsPermutation-trans (x ∷ y ∷ ys) (y ∷ x ∷ ys) (y ∷ rest.ordered) (IsPermutation-middle (x ∷ []) y ys) (IsPermutation-cons y (x ∷ ys) rest.ordered rest.same);
    before = AllPairs-cons R y rest.ordered (all_of (R y) rest.ordered (λ z there.
        elim (first_or_later x z ys (Contains-permutation rest.ordered (x ∷ ys) z (IsPermutation-sym (x ∷ ys) rest.ordered rest.same) there)) [
          | inl same ↦ subst (R y) same first
          | inr behind ↦ head_before R y z ys ordered behind
        ])) rest.before;
  }

  put_one : (x : ℕ) (xs : List ℕ) → AllPairs R xs → ((z : ℕ) → Contains xs z → x ≢ z) → IsPut R (x ∷ xs)
  put_one x [] ordered apart = record {
    ordered = x ∷ [];
    same = IsPermutation-refl (x ∷ []);
    before = λ i j d order within. absurd (omega (arith, order, within));
  }
  put_one x (y ∷ ys) ordered apart =
      elim (either x y (apart y (first_there y ys))) [
        | inl first ↦ put_first x y ys ordered first
        | inr later ↦ put_later x y ys ordered later (put_one x ys (ordered_tail R y ys ordered) (λ z there. apart z (later_there y z ys there)))
      ]

  put_in_front : (x : ℕ) (xs : List ℕ) → Differ (x ∷ xs) → (rest : IsPut R xs) → IsPut R (x ∷ rest.ordered) → IsPut R (x ∷ xs)
  put_in_front x xs differ rest all = record {
    ordered = all.ordered;
    same = IsPermutation-trans (x ∷ xs) (x ∷ rest.ordered) all.ordered (IsPermutation-cons x xs rest.ordered rest.same) all.same;
    before = all.before;
  }

  pub put : (xs : List ℕ) → Differ xs → IsPut R xs
  put [] differ = record {
    ordered = [];
    same = IsPermutation-refl [];
    before = λ i j d order within. absurd (omega (arith, within));
  }
  put (x ∷ xs) differ =
      let rest = put xs (ordered_tail (λ u v. u ≢ v) x xs differ) in
      put_in_front x xs differ rest
      (put_one x rest.ordered rest.before (λ z there. head_apart x z xs differ (Contains-permutation rest.ordered xs z (IsPermutation-sym xs rest.ordered rest.same) there)))

-- ---- start order

either_lower : (x y : ℕ) → x ≢ y → (x < y) ⊎ (y < x)
either_lower x y apart =
    elim (cases_order x y) [
      | inl same ↦ absurd (apart same)
      | inr order ↦ order
    ]

lower_far : (x y z : ℕ) → x < y → y < z → x < z
lower_far x y z one other = omega (arith, one, other)

-- these numbers, each below the next
pub record HasRising (xs : List ℕ) : Type 0 where
  pub list : List ℕ
  pub same : IsPermutation xs list
  pub rising : IsStrictlyIncreasing list

pub has_rising : (xs : List ℕ) → Differ xs → HasRising xs
has_rising xs differ =
    let all = put (λ x y. x < y) either_lower lower_far xs differ in
    record { list = all.ordered; same = all.same; rising = λ k within. all.before k (k + 1) 0 (omega arith) within }

-- ---- ranks

module _ (gains : ℕ → ℤ) where
  tied : (x y : ℕ) → x ≢ y → gains x ≡ gains y → RanksBefore gains x y ⊎ RanksBefore gains y x
  tied x y apart same =
      elim (either_lower x y apart) [
        | inl less ↦ inl (inr (same, less))
        | inr more ↦ inr (inr (sym same, more))
      ]

  level : (u v : ℤ) → u ≤ℤ v → v ≤ℤ u → u ≡ v
  level u v low high = omega (arith, ints, low, high)

  either_ranks : (x y : ℕ) → x ≢ y → RanksBefore gains x y ⊎ RanksBefore gains y x
  either_ranks x y apart =
      by_lt_z (gains y) (gains x) (λ more. inl (inl more))
      (λ low. by_lt_z (gains x) (gains y) (λ less. inr (inl less)) (λ high. tied x y apart (level (gains x) (gains y) low high)))

  falls_far : (u v w : ℤ) → v <ℤ u → w <ℤ v → w <ℤ u
  falls_far u v w one other = omega (arith, ints, one, other)

  ranks_far : (x y z : ℕ) → RanksBefore gains x y → RanksBefore gains y z → RanksBefore gains x z
  ranks_far x y z (inl one) (inl other) = inl (falls_far (gains x) (gains y) (gains z) one other)
  ranks_far x y z (inl one) (inr other) = inl (subst (λ (u : ℤ). u <ℤ gains x) other.0 one)
  ranks_far x y z (inr one) (inl other) = inl (subst (λ (u : ℤ). gains z <ℤ u) (sym one.0) other)
  ranks_far x y z (inr one) (inr other) = inr (subst (λ (u : ℤ). gains x ≡ u) other.0 one.0, lower_far x y z one.1 other.1)

-- the documents of the half by rank
pub record HasRanking (gains : ℕ → ℤ) (half : List ℕ) : Type 0 where
  pub list : List ℕ
  pub is_ranked : IsRanked gains half list

pub has_ranking : (gains : ℕ → ℤ) (half : List ℕ) → Differ half → HasRanking gains half
has_ranking gains half differ =
    let all = put (RanksBefore gains) (either_ranks gains) (ranks_far gains) half differ in
    record { list = all.ordered; is_ranked = record { documents = all.same; before = all.before } }

-- ---- lists that are apart

pub Differ-append : (xs ys : List ℕ) → Differ xs → Differ ys → ((z : ℕ) → Contains xs z → ¬ Contains ys z) → Differ (xs ++ ys)
Differ-append [] ys xs_differ ys_differ apart = ys_differ
Differ-append (x ∷ xs) ys xs_differ ys_differ apart =
    AllPairs-cons (λ u v. u ≢ v) x (xs ++ ys) (all_of (λ z. x ≢ z) (xs ++ ys) (λ z there.
    elim (Contains-append_cases xs ys z there) [
      | inl first ↦ head_apart x z xs xs_differ first
      | inr second ↦ λ same. apart x (first_there x xs) (subst (Contains ys) (sym same) second)
    ]))
    (Differ-append xs ys (ordered_tail (λ u v. u ≢ v) x xs xs_differ) ys_differ (λ z there. apart z (later_there x z xs there)))
