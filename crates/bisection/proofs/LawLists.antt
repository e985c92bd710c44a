-- Lists that stand in order: what is joined, and that two of them with the same members are one.
use Rattle.std.proofs.Common.{◌≡◌, ◌⊎◌, zero, suc, ◌+◌, List, [], ◌∷◌, ◌++◌, length, get_or, map, refl, sym, ap₂, subst, ◌∙◌, inl, inr, arith, All, AllPairs, Contains, IsPermutation, append_assoc}
use Rattle.std.proofs.lemmas.List.{length-append, get_or_append_left, get_or-append-add}
use Rattle.std.proofs.lemmas.List.Elements.{All-head, All-tail, All-append, All-map, All-contains}
use Rattle.std.proofs.lemmas.List.Kept.{AllPairs-cons}
use Rattle.std.proofs.lemmas.List.Sorted.{IsPermutation-sym, IsPermutation-refl, IsPermutation-trans, IsPermutation-append, IsPermutation-append_comm, Contains-permutation}

-- ---- all of a list

pub All-left : {X : Type 0} (P : X → Type 0) (xs ys : List X) → All P (xs ++ ys) → All P xs
All-left P xs ys all k d lt = subst P (get_or_append_left xs ys d k lt) (all k d (omega (arith, length-append xs ys)))

pub All-right : {X : Type 0} (P : X → Type 0) (xs ys : List X) → All P (xs ++ ys) → All P ys
All-right P xs ys all k d lt = subst P (get_or-append-add xs ys k d) (all (length xs + k) d (omega (arith, length-append xs ys)))

-- ---- pairs of a list

pub AllPairs-head : {X : Type 0} (R : X → X → Type 0) (x : X) (xs : List X) → AllPairs R (x ∷ xs) → All (R x) xs
AllPairs-head R x xs pairs k d lt = pairs 0 (suc k) d (omega arith) (omega (arith, lt))

pub AllPairs-tail : {X : Type 0} (R : X → X → Type 0) (x : X) (xs : List X) → AllPairs R (x ∷ xs) → AllPairs R xs
AllPairs-tail R x xs pairs i j d lt within = pairs (suc i) (suc j) d (omega (arith, lt)) (omega (arith, within))

pub AllPairs-append : {X : Type 0} (R : X → X → Type 0) (xs ys : List X) → AllPairs R xs → AllPairs R ys → All (λ x. All (R x) ys) xs → AllPairs R (xs ++ ys)
AllPairs-append R [] ys first second across = second
AllPairs-append {X} R (x ∷ xs) ys first second across =
    AllPairs-cons R x (xs ++ ys)
    (All-append (R x) xs ys (AllPairs-head R x xs first) (All-head (λ (z : X). All (R z) ys) x xs across))
    (AllPairs-append R xs ys (AllPairs-tail R x xs first) second (All-tail (λ (z : X). All (R z) ys) x xs across))

pub AllPairs-map : {X Y : Type 0} (R : X → X → Type 0) (S : Y → Y → Type 0) (f : X → Y) → ((x y : X) → R x y → S (f x) (f y)) → (xs : List X) → AllPairs R xs → AllPairs S (map f xs)
AllPairs-map R S f keeps [] pairs = λ i j d lt within. absurd (omega (arith, within))
AllPairs-map R S f keeps (x ∷ xs) pairs =
    AllPairs-cons S (f x) (map f xs)
    (All-map (S (f x)) f xs (λ k d lt. keeps x (get_or xs k d) (AllPairs-head R x xs pairs k d lt)))
    (AllPairs-map R S f keeps xs (AllPairs-tail R x xs pairs))

-- ---- members

first_there : {X : Type 0} (x : X) (xs : List X) → Contains (x ∷ xs) x
first_there x xs = (0, omega arith, refl)

later_there : {X : Type 0} (x z : X) (xs : List X) → Contains xs z → Contains (x ∷ xs) z
later_there x z xs there = let within = there.1 in (suc there.0, omega (arith, within), there.2)

first_or_later : {X : Type 0} (x z : X) (xs : List X) → Contains (x ∷ xs) z → (x ≡ z) ⊎ Contains xs z
first_or_later x z xs (zero, within, at) = inl at
first_or_later x z xs (suc k, within, at) = inr (k, omega (arith, within), at)

module _ {X : Type 0} (R : X → X → Type 0) (apart : (x : X) → R x x → ⊥) (far : (x y z : X) → R x y → R y z → R x z) where
  same_head : (x y : X) (xs ys : List X) → AllPairs R (x ∷ xs) → AllPairs R (y ∷ ys) → Contains (y ∷ ys) x → Contains (x ∷ xs) y → x ≡ y
  same_head x y xs ys up up' there here =
      elim (first_or_later y x ys there) [
        | inl same ↦ sym same
        | inr later ↦
            elim (first_or_later x y xs here) [
              | inl same ↦ same
              | inr later' ↦ absurd (apart x (far x y x (All-contains (R x) xs y (AllPairs-head R x xs up) later') (All-contains (R y) ys x (AllPairs-head R y ys up') later)))
            ]
      ]

  in_the_rest : (x y z : X) (xs ys : List X) → AllPairs R (x ∷ xs) → x ≡ y → Contains xs z → Contains (y ∷ ys) z → Contains ys z
  in_the_rest x y z xs ys up same there here =
      elim (first_or_later y z ys here) [
        | inl is ↦ absurd (apart x (subst (R x) (sym (same ∙ is)) (All-contains (R x) xs z (AllPairs-head R x xs up) there)))
        | inr later ↦ later
      ]

  same_ordered : (xs ys : List X) → AllPairs R xs → AllPairs R ys → ((z : X) → Contains xs z → Contains ys z) → ((z : X) → Contains ys z → Contains xs z) → xs ≡ ys
  same_ordered [] [] up up' to from = refl
  same_ordered [] (y ∷ ys) up up' to from = let there = from y (first_there y ys) in let within = there.1 in absurd (omega (arith, within))
  same_ordered (x ∷ xs) [] up up' to from = let there = to x (first_there x xs) in let within = there.1 in absurd (omega (arith, within))
  same_ordered (x ∷ xs) (y ∷ ys) up up' to from =
      let same : x ≡ y = same_head x y xs ys up up' (to x (first_there x xs)) (from y (first_there y ys)) in
      let rest : xs ≡ ys = same_ordered xs ys (AllPairs-tail R x xs up) (AllPairs-tail R y ys up')
      (λ z there. in_the_rest x y z xs ys up same there (to z (later_there x z xs there)))
      (λ z there. in_the_rest y x z ys xs up' (sym same) there (from z (later_there y z ys there))) in
      ap₂ (λ (z : X) (zs : List X). z ∷ zs) same rest

  -- two lists in order that are one list but for the order are one
  pub ordered_is_one : (zs xs ys : List X) → IsPermutation zs xs → IsPermutation zs ys → AllPairs R xs → AllPairs R ys → xs ≡ ys
  ordered_is_one zs xs ys first second up up' =
      let across : IsPermutation xs ys = IsPermutation-trans xs zs ys (IsPermutation-sym zs xs first) second in
      same_ordered xs ys up up' (λ z there. Contains-permutation xs ys z across there) (λ z there. Contains-permutation ys xs z (IsPermutation-sym xs ys across) there)

-- ---- parts in another order

-- what comes behind two parts goes behind the part that it belongs to
pub shared_out : {X : Type 0} (p q r s : List X) → IsPermutation ((p ++ q) ++ (r ++ s)) ((p ++ r) ++ (q ++ s))
shared_out {X} p q r s =
    let inner : IsPermutation (q ++ (r ++ s)) (r ++ (q ++ s)) =
    subst (λ (zs : List X). IsPermutation zs (r ++ (q ++ s))) (append_assoc q r s)
    (subst (λ (zs : List X). IsPermutation ((q ++ r) ++ s) zs) (append_assoc r q s) (IsPermutation-append (q ++ r) (r ++ q) s s (IsPermutation-append_comm q r) (IsPermutation-refl s))) in
    subst (λ (zs : List X). IsPermutation zs ((p ++ r) ++ (q ++ s))) (sym (append_assoc p q (r ++ s)))
    (subst (λ (zs : List X). IsPermutation (p ++ (q ++ (r ++ s))) zs) (sym (append_assoc p r (q ++ s))) (IsPermutation-append p p (q ++ (r ++ s)) (r ++ (q ++ s)) (IsPermutation-refl p) inner))
