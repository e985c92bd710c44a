-- Halves after some pairs changed places, as lists in whatever order.
use Rattle.std.proofs.Common.{◌≡◌, ◌≢◌, ◌==◌, ℕ, zero, suc, ◌+◌, ◌-◌, ◌<◌, ◌≤◌, List, [], ◌∷◌, ◌++◌, length, get_or, map, take, drop, Contains, refl, sym, subst, ap, ◌∙◌, inl, inr, arith, append_assoc}
use Rattle.std.proofs.Common.{add-one}
use Rattle.std.proofs.Math.ListN.{set}
use Rattle.std.proofs.Math.Seq.{take-suc, take-suc-set}
use Rattle.std.specs.List.{AllPairs, zip}
use Rattle.std.specs.List.Sorted.{IsStrictlyIncreasing, IsNonDecreasing, IsPermutation}
use Rattle.std.proofs.lemmas.Bool.Decides.{nat_tests, Decides-eqb}
use Rattle.std.proofs.lemmas.List.{take-take, take-append-drop, length-take, length-drop, length-append, get_or_append_left, get_or-append-add, get_or-take, get_or-drop}
use Rattle.std.proofs.lemmas.List.Elements.{Contains-append_left, Contains-append_right, Contains-append_cases}
use Rattle.std.proofs.lemmas.List.Kept.{AllPairs-from_increasing}
use Rattle.std.proofs.lemmas.List.Sorted.{IsPermutation-refl, IsPermutation-sym, IsPermutation-cons, IsPermutation-middle, IsPermutation-trans, IsPermutation-append, IsPermutation-append_comm, IsPermutation-append_left, IsPermutation-append_right, Contains-permutation}
use Rattle.std.proofs.lemmas.Map.Keys.{IsDistinct-IsPermutation}
use Rattle.std.proofs.lemmas.Map.Made.{AllPairs-from_IsDistinct, IsDistinct-from_AllPairs}
use Rattle.exchange.specs.Round.{IsHalfAfter, AreExchanged}
use Rattle.exchange.specs.Tries.{half_after}

-- ---- lists of numbers that differ

abbrev pub Differ : List ℕ → Type 0
Differ xs = AllPairs (λ a b. a ≢ b) xs

flips : (x y : ℕ) → (x == y) ≡ (y == x)
flips x y = grind (arith, nat_tests)

pub Differ-permutation : (xs ys : List ℕ) → IsPermutation xs ys → Differ xs → Differ ys
Differ-permutation xs ys same differ =
    AllPairs-from_IsDistinct {eq = ◌==◌} Decides-eqb ys (IsDistinct-IsPermutation ◌==◌ flips xs ys same (IsDistinct-from_AllPairs {eq = ◌==◌} Decides-eqb xs differ))

pub Differ-from_rising : (xs : List ℕ) → IsStrictlyIncreasing xs → Differ xs
Differ-from_rising xs rising i j d order within same = omega (arith, AllPairs-from_increasing xs rising i j d order within)

pub Differ-left : (xs ys : List ℕ) → Differ (xs ++ ys) → Differ xs
Differ-left xs ys differ i j d order within same =
    differ i j d order (omega (arith, length-append xs ys)) (get_or_append_left xs ys d i (omega arith) ∙ same ∙ sym (get_or_append_left xs ys d j within))

pub Differ-right : (xs ys : List ℕ) → Differ (xs ++ ys) → Differ ys
Differ-right xs ys differ i j d order within same =
    differ (length xs + i) (length xs + j) d (omega arith) (omega (arith, length-append xs ys)) (get_or-append-add xs ys i d ∙ same ∙ sym (get_or-append-add xs ys j d))

at_default : (xs : List ℕ) (k d e : ℕ) → k < length xs → get_or xs k d ≡ get_or xs k e
at_default [] k d e within = absurd (omega (arith, within))
at_default (x ∷ xs) zero d e within = refl
at_default (x ∷ xs) (suc k) d e within = at_default xs k d e (omega (arith, within))

pub Differ-apart : (xs ys : List ℕ) (z : ℕ) → Differ (xs ++ ys) → Contains xs z → Contains ys z → ⊥
Differ-apart xs ys z differ first second =
    differ first.0 (length xs + second.0) z (omega (arith, first.1)) (omega (arith, length-append xs ys, second.1))
    (get_or_append_left xs ys z first.0 first.1 ∙ first.2 ∙ sym second.2 ∙ sym (get_or-append-add xs ys second.0 z))

-- ---- lists with the same members

cut_at : (ys : List ℕ) (x : ℕ) → Contains ys x → (us : List ℕ) × (vs : List ℕ) × (ys ≡ us ++ x ∷ vs)
cut_at [] x there = absurd (omega (arith, there.1))
cut_at (y ∷ ys) x (zero, within, at) = ([], ys, ap (λ (z : ℕ). z ∷ ys) at)
cut_at (y ∷ ys) x (suc k, within, at) =
    let rest = cut_at ys x (k, omega (arith, within), at) in
    (y ∷ rest.0, rest.1, ap (λ (zs : List ℕ). y ∷ zs) rest.2)

pub first_there : (x : ℕ) (xs : List ℕ) → Contains (x ∷ xs) x
first_there x xs = (0, omega arith, refl)

pub later_there : (x z : ℕ) (xs : List ℕ) → Contains xs z → Contains (x ∷ xs) z
later_there x z xs there = (suc there.0, omega (arith, there.1), there.2)

without : (us vs : List ℕ) (x z : ℕ) → Contains (us ++ x ∷ vs) z → x ≢ z → Contains (us ++ vs) z
without us vs x z there apart =
    elim (Contains-append_cases us (x ∷ vs) z there) [
      | inl first ↦ Contains-append_left us vs z first
      | inr (zero, within, at) ↦ absurd (apart at)
      | inr (suc k, within, at) ↦ Contains-append_right us vs z (k, omega (arith, within), at)
    ]

pub head_apart : (x z : ℕ) (xs : List ℕ) → Differ (x ∷ xs) → Contains xs z → x ≢ z
head_apart x z xs differ there same =
    differ 0 (suc there.0) z (omega arith) (omega (arith, there.1)) (same ∙ sym there.2)

pub same_members : (xs ys : List ℕ) → Differ xs → Differ ys → ((z : ℕ) → Contains xs z → Contains ys z) → ((z : ℕ) → Contains ys z → Contains xs z) → IsPermutation xs ys
same_members [] [] xs_differ ys_differ to from = IsPermutation-refl []
same_members [] (y ∷ ys) xs_differ ys_differ to from = let there = from y (first_there y ys) in absurd (omega (arith, there.1))
same_members (x ∷ xs) ys xs_differ ys_differ to from =
    let cut = cut_at ys x (to x (first_there x xs)) in
    let us = cut.0 in
    let vs = cut.1 in
    let moved : IsPermutation (us ++ x ∷ vs) (x ∷ (us ++ vs)) = IsPermutation-middle us x vs in
    let differ : Differ (x ∷ (us ++ vs)) = Differ-permutation (us ++ x ∷ vs) (x ∷ (us ++ vs)) moved (subst Differ cut.2 ys_differ) in
    let rest : IsPermutation xs (us ++ vs) = same_members xs (us ++ vs) (Differ-right (x ∷ []) xs xs_differ) (Differ-right (x ∷ []) (us ++ vs) differ)
    (λ z there. without us vs x z (subst (λ (zs : List ℕ). Contains zs z) cut.2 (to z (later_there x z xs there))) (head_apart x z xs xs_differ there))
    (λ z there.
    let back : Contains (us ++ x ∷ vs) z = Contains-permutation (x ∷ (us ++ vs)) (us ++ x ∷ vs) z (IsPermutation-sym (us ++ x ∷ vs) (x ∷ (us ++ vs)) moved) (later_there x z (us ++ vs) there) in
    let found = from z (subst (λ (zs : List ℕ). Contains zs z) (sym cut.2) back) in
    without [] xs x z found (head_apart x z (us ++ vs) differ there)) in
    subst (λ (zs : List ℕ). IsPermutation (x ∷ xs) zs) (sym cut.2)
    (IsPermutation-trans (x ∷ xs) (x ∷ (us ++ vs)) (us ++ x ∷ vs) (IsPermutation-cons x xs (us ++ vs) rest) (IsPermutation-sym (us ++ x ∷ vs) (x ∷ (us ++ vs)) moved))

-- ---- halves after an exchange

swapped : (p q r s : List ℕ) → IsPermutation ((p ++ q) ++ (r ++ s)) ((r ++ q) ++ (p ++ s))
swapped p q r s =
    let one : IsPermutation (q ++ (r ++ s)) ((r ++ q) ++ s) =
    subst (λ (zs : List ℕ). IsPermutation zs ((r ++ q) ++ s)) (append_assoc q r s) (IsPermutation-append (q ++ r) (r ++ q) s s (IsPermutation-append_comm q r) (IsPermutation-refl s)) in
    let two : IsPermutation (p ++ (q ++ (r ++ s))) (p ++ ((r ++ q) ++ s)) = IsPermutation-append_right p (q ++ (r ++ s)) ((r ++ q) ++ s) one in
    let three : IsPermutation (p ++ ((r ++ q) ++ s)) ((r ++ q) ++ (p ++ s)) =
    subst (λ (zs : List ℕ). IsPermutation zs ((r ++ q) ++ (p ++ s))) (append_assoc p (r ++ q) s) (
    subst (λ (zs : List ℕ). IsPermutation ((p ++ (r ++ q)) ++ s) zs) (append_assoc (r ++ q) p s) (IsPermutation-append_left s (p ++ (r ++ q)) ((r ++ q) ++ p) (IsPermutation-append_comm p (r ++ q)))) in
    subst (λ (zs : List ℕ). IsPermutation zs ((r ++ q) ++ (p ++ s))) (sym (append_assoc p q (r ++ s)))
    (IsPermutation-trans (p ++ (q ++ (r ++ s))) (p ++ ((r ++ q) ++ s)) ((r ++ q) ++ (p ++ s)) two three)

-- both halves together are as before but for their order
pub both_after : (m : ℕ) (a b : List ℕ) → IsPermutation (a ++ b) (half_after m a b ++ half_after m b a)
both_after m a b =
    let cut_a = take-append-drop m a in
    let cut_b = take-append-drop m b in
    subst (λ (zs : List ℕ). IsPermutation (zs ++ b) (half_after m a b ++ half_after m b a)) cut_a (
    subst (λ (zs : List ℕ). IsPermutation ((take m a ++ drop m a) ++ zs) (half_after m a b ++ half_after m b a)) cut_b
    (swapped (take m a) (drop m a) (take m b) (drop m b)))

pub length_after : (m : ℕ) (half other : List ℕ) → m ≤ length half → m ≤ length other → length (half_after m half other) ≡ length half
length_after m half other low high = omega (arith, length-append (take m other) (drop m half), length-take m other, length-drop m half)

pub both_differ : (m : ℕ) (a b : List ℕ) → Differ (a ++ b) → Differ (half_after m a b)
both_differ m a b differ =
    Differ-left (half_after m a b) (half_after m b a) (Differ-permutation (a ++ b) (half_after m a b ++ half_after m b a) (both_after m a b) differ)

pub permutation_from_half : (m : ℕ) (half ranked other new : List ℕ) → IsPermutation half ranked → Differ (ranked ++ other)
    → IsHalfAfter half (take m ranked) (take m other) new → IsPermutation (half_after m ranked other) new
permutation_from_half m half ranked other new same differ is =
    let front = take m ranked in
    let back = drop m ranked in
    let come = take m other in
    let parts : Differ (front ++ back) = subst Differ (sym (take-append-drop m ranked)) (Differ-left ranked other differ) in
    same_members (half_after m ranked other) new (both_differ m ranked other differ) (Differ-from_rising new is.rising)
    (λ z there. (is.documents z).1 (
    elim (Contains-append_cases come back z there) [
      | inl comes ↦ inr comes
      | inr stays ↦ inl (
        Contains-permutation ranked half z (IsPermutation-sym half ranked same) (subst (λ (zs : List ℕ). Contains zs z) (take-append-drop m ranked) (Contains-append_right front back z stays)),
        (λ leaves. Differ-apart front back z parts leaves stays),
      )
    ]))
    (λ z there.
    elim ((is.documents z).0 there) [
      | inl stays ↦
          elim (Contains-append_cases front back z (subst (λ (zs : List ℕ). Contains zs z) (sym (take-append-drop m ranked)) (Contains-permutation half ranked z same stays.0))) [
            | inl leaves ↦ absurd (stays.1 leaves)
            | inr behind ↦ Contains-append_right come back z behind
          ]
      | inr comes ↦ Contains-append_left come back z comes
    ])

pub half_from_permutation : (m : ℕ) (half ranked other new : List ℕ) → IsPermutation half ranked → Differ (ranked ++ other)
    → IsPermutation (half_after m ranked other) new → IsStrictlyIncreasing new → IsHalfAfter half (take m ranked) (take m other) new
half_from_permutation m half ranked other new same differ permuted rises =
    let front = take m ranked in
    let back = drop m ranked in
    let come = take m other in
    let parts : Differ (front ++ back) = subst Differ (sym (take-append-drop m ranked)) (Differ-left ranked other differ) in
    record {
      rising = rises;
      documents = λ z. (
        (λ there.
            elim (Contains-append_cases come back z (Contains-permutation new (half_after m ranked other) z (IsPermutation-sym (half_after m ranked other) new permuted) there)) [
              | inl comes ↦ inr comes
              | inr stays ↦ inl (
                Contains-permutation ranked half z (IsPermutation-sym half ranked same) (subst (λ (zs : List ℕ). Contains zs z) (take-append-drop m ranked) (Contains-append_right front back z stays)),
                (λ leaves. Differ-apart front back z parts leaves stays),
              )
            ]),
        (λ there. Contains-permutation (half_after m ranked other) new z permuted (
            elim there [
              | inl stays ↦
                  elim (Contains-append_cases front back z (subst (λ (zs : List ℕ). Contains zs z) (sym (take-append-drop m ranked)) (Contains-permutation half ranked z same stays.0))) [
                    | inl leaves ↦ absurd (stays.1 leaves)
                    | inr behind ↦ Contains-append_right come back z behind
                  ]
              | inr comes ↦ Contains-append_left come back z comes
            ])),
      );
    }

-- ---- the pairs of two ranked halves

firsts : (m : ℕ) (xs ys : List ℕ) → m ≤ length xs → m ≤ length ys → map (λ (p : ℕ × ℕ). p.0) (take m (zip xs ys)) ≡ take m xs
firsts zero xs ys low high = refl
firsts (suc m) [] ys low high = absurd (omega (arith, low))
firsts (suc m) (x ∷ xs) [] low high = absurd (omega (arith, high))
firsts (suc m) (x ∷ xs) (y ∷ ys) low high = ap (λ (zs : List ℕ). x ∷ zs) (firsts m xs ys (omega (arith, low)) (omega (arith, high)))

seconds : (m : ℕ) (xs ys : List ℕ) → m ≤ length xs → m ≤ length ys → map (λ (p : ℕ × ℕ). p.1) (take m (zip xs ys)) ≡ take m ys
seconds zero xs ys low high = refl
seconds (suc m) [] ys low high = absurd (omega (arith, low))
seconds (suc m) (x ∷ xs) [] low high = absurd (omega (arith, high))
seconds (suc m) (x ∷ xs) (y ∷ ys) low high = ap (λ (zs : List ℕ). y ∷ zs) (seconds m xs ys (omega (arith, low)) (omega (arith, high)))

module _ (k m : ℕ) (ranked_a ranked_b : List ℕ) (fewer : m ≤ k) (low : k ≤ length ranked_a) (high : k ≤ length ranked_b) where
  front_firsts : map (λ (p : ℕ × ℕ). p.0) (take m (take k (zip ranked_a ranked_b))) ≡ take m ranked_a
  front_firsts = ap (λ (zs : List (ℕ × ℕ)). map (λ (p : ℕ × ℕ). p.0) zs) (take-take m k (zip ranked_a ranked_b) fewer) ∙ firsts m ranked_a ranked_b (omega arith) (omega arith)

  front_seconds : map (λ (p : ℕ × ℕ). p.1) (take m (take k (zip ranked_a ranked_b))) ≡ take m ranked_b
  front_seconds = ap (λ (zs : List (ℕ × ℕ)). map (λ (p : ℕ × ℕ). p.1) zs) (take-take m k (zip ranked_a ranked_b) fewer) ∙ seconds m ranked_a ranked_b (omega arith) (omega arith)

  pub halves_to_pairs : (half leave_as come_as new : List ℕ) → leave_as ≡ take m ranked_a → come_as ≡ take m ranked_b → IsHalfAfter half (take m ranked_a) (take m ranked_b) new → IsHalfAfter half leave_as come_as new
  halves_to_pairs half leave_as come_as new leave come is =
      subst (λ (xs : List ℕ). IsHalfAfter half xs come_as new) (sym leave) (subst (λ (ys : List ℕ). IsHalfAfter half (take m ranked_a) ys new) (sym come) is)

  pub exchanged_from_halves : (a b x y : List ℕ) → IsHalfAfter a (take m ranked_a) (take m ranked_b) x → IsHalfAfter b (take m ranked_b) (take m ranked_a) y → AreExchanged (take m (take k (zip ranked_a ranked_b))) a b x y
  exchanged_from_halves a b x y is_a is_b = record {
    half_a = subst (λ (us : List ℕ). IsHalfAfter a us (map (λ (p : ℕ × ℕ). p.1) (take m (take k (zip ranked_a ranked_b)))) x) (sym front_firsts) (subst (λ (vs : List ℕ). IsHalfAfter a (take m ranked_a) vs x) (sym front_seconds) is_a);
    half_b = subst (λ (us : List ℕ). IsHalfAfter b us (map (λ (p : ℕ × ℕ). p.0) (take m (take k (zip ranked_a ranked_b)))) y) (sym front_seconds) (subst (λ (vs : List ℕ). IsHalfAfter b (take m ranked_b) vs y) (sym front_firsts) is_b);
  }

  pub half_a_from_exchanged : (a b x y : List ℕ) → AreExchanged (take m (take k (zip ranked_a ranked_b))) a b x y → IsHalfAfter a (take m ranked_a) (take m ranked_b) x
  half_a_from_exchanged a b x y is =
      subst (λ (us : List ℕ). IsHalfAfter a us (take m ranked_b) x) front_firsts (subst (λ (vs : List ℕ). IsHalfAfter a (map (λ (p : ℕ × ℕ). p.0) (take m (take k (zip ranked_a ranked_b)))) vs x) front_seconds is.half_a)

  pub half_b_from_exchanged : (a b x y : List ℕ) → AreExchanged (take m (take k (zip ranked_a ranked_b))) a b x y → IsHalfAfter b (take m ranked_b) (take m ranked_a) y
  half_b_from_exchanged a b x y is =
      subst (λ (us : List ℕ). IsHalfAfter b us (take m ranked_a) y) front_seconds (subst (λ (vs : List ℕ). IsHalfAfter b (map (λ (p : ℕ × ℕ). p.1) (take m (take k (zip ranked_a ranked_b)))) vs y) front_firsts is.half_b)

le_apart : (a b : ℕ) → a ≤ b → a ≢ b → a < b
le_apart a b low apart = omega (arith, apart)

pub rising_from_sorted : (xs : List ℕ) → Differ xs → IsNonDecreasing xs → IsStrictlyIncreasing xs
rising_from_sorted xs differ sorted k within =
    let low = sorted k (k + 1) 0 (omega arith) within in
    let apart = differ k (k + 1) 0 (omega arith) within in
    le_apart (get_or xs k 0) (get_or xs (k + 1) 0) low apart

-- ---- a half that is filled place by place

pub after_front : (m i : ℕ) (half other : List ℕ) → m ≤ length other → i < m → get_or (half_after m half other) i 0 ≡ get_or other i 0
after_front m i half other high before =
    get_or_append_left (take m other) (drop m half) 0 i (omega (arith, length-take m other)) ∙ get_or-take m other i 0 before

pub after_back : (m i : ℕ) (half other : List ℕ) → m ≤ length other → m ≤ i → get_or (half_after m half other) i 0 ≡ get_or half i 0
after_back m i half other high behind =
    let len : length (take m other) ≡ m = omega (arith, length-take m other) in
    let place : i ≡ length (take m other) + (i - m) = omega arith in
    ap (λ (k : ℕ). get_or (half_after m half other) k 0) place
    ∙ get_or-append-add (take m other) (drop m half) (i - m) 0 ∙ get_or-drop m half (i - m) 0
    ∙ ap (λ (k : ℕ). get_or half k 0) (omega arith)

pub fill_step : (i v : ℕ) (xs ys : List ℕ) → i < length xs → i < length ys → take i xs ≡ take i ys → v ≡ get_or ys i 0 → take (i + 1) (set xs i v) ≡ take (i + 1) ys
fill_step i v xs ys in_xs in_ys same value =
    ap (λ (k : ℕ). take k (set xs i v)) (add-one i) ∙ take-suc-set xs i v in_xs
    ∙ ap (λ (us : List ℕ). us ++ v ∷ []) same ∙ ap (λ (u : ℕ). take i ys ++ u ∷ []) value
    ∙ sym (take-suc ys i 0 in_ys) ∙ ap (λ (k : ℕ). take k ys) (sym (add-one i))
