-- Sums of whole numbers over lists.
use Rattle.std.proofs.Common.{◌≡◌, ◌≢◌, ◌⊎◌, ℕ, zero, suc, ◌+◌, ◌<◌, ◌≤◌, ℤ, pos, ◌+ℤ◌, Bool, cond, nat_eq, List, [], ◌∷◌, ◌++◌, length, get_or, take, map, All, Contains, inl, inr, refl, sym, ap, ◌∙◌, arith}
use Rattle.std.specs.List.{range_with_len, AllPairs}
use Rattle.std.proofs.lemmas.Bool.{cases_eq}
use Rattle.std.proofs.lemmas.Int.{ints}
use Rattle.std.proofs.lemmas.List.{take_more}
use Rattle.std.proofs.lemmas.List.Elements.{All-head, All-tail}
use Rattle.std.proofs.lemmas.List.FromFn.{length-range_with_len, get_or-range_with_len}
use Rattle.degrees.specs.Sums.{total_by}
use Rattle.degrees.proofs.Distinct.{different_rest, different_head}
use Rattle.degrees.proofs.Rows.{equal, not_equal}
use Rattle.degrees.proofs.Sums.{range_below}

pub total_nil : {X : Type 0} (f : X → ℤ) → total_by f [] ≡ pos 0
unfolding total_by
total_nil f = refl

pub total_cons : {X : Type 0} (f : X → ℤ) (x : X) (xs : List X) → total_by f (x ∷ xs) ≡ f x +ℤ total_by f xs
unfolding total_by
total_cons f x xs = refl

pub total_same : {X : Type 0} (f g : X → ℤ) (xs : List X) → All (λ x. f x ≡ g x) xs → total_by f xs ≡ total_by g xs
total_same f g [] same = total_nil f ∙ sym (total_nil g)
total_same f g (x ∷ xs) same =
    let here : f x ≡ g x = All-head (λ y. f y ≡ g y) x xs same in
    let rest : total_by f xs ≡ total_by g xs = total_same f g xs (All-tail (λ y. f y ≡ g y) x xs same) in
    omega (arith, ints, total_cons f x xs, total_cons g x xs)

pub total_none : {X : Type 0} (f : X → ℤ) (xs : List X) → All (λ x. f x ≡ pos 0) xs → total_by f xs ≡ pos 0
total_none f [] none = total_nil f
total_none f (x ∷ xs) none =
    let here : f x ≡ pos 0 = All-head (λ y. f y ≡ pos 0) x xs none in
    let rest : total_by f xs ≡ pos 0 = total_none f xs (All-tail (λ y. f y ≡ pos 0) x xs none) in
    omega (arith, ints, total_cons f x xs)

total_push : {X : Type 0} (f : X → ℤ) (xs : List X) (y : X) → total_by f (xs ++ y ∷ []) ≡ total_by f xs +ℤ f y
total_push f [] y = omega (arith, ints, total_cons f y [], total_nil f)
total_push f (x ∷ xs) y =
    let rest : total_by f (xs ++ y ∷ []) ≡ total_by f xs +ℤ f y = total_push f xs y in
    omega (arith, ints, total_cons f x (xs ++ y ∷ []), total_cons f x xs)

pub total_more : {X : Type 0} (f : X → ℤ) (xs : List X) (i : ℕ) (d : X) → i < length xs → total_by f (take (i + 1) xs) ≡ total_by f (take i xs) +ℤ f (get_or xs i d)
total_more f xs i d within = ap (total_by f) (take_more xs i d within) ∙ total_push f (take i xs) (get_or xs i d)

pub total_map : {X Y : Type 0} (f : Y → ℤ) (g : X → Y) (xs : List X) → total_by f (map g xs) ≡ total_by (λ x. f (g x)) xs
total_map f g [] = total_nil f ∙ sym (total_nil (λ x. f (g x)))
total_map f g (x ∷ xs) =
    let rest : total_by f (map g xs) ≡ total_by (λ y. f (g y)) xs = total_map f g xs in
    omega (arith, ints, total_cons f (g x) (map g xs), total_cons (λ y. f (g y)) x xs)

-- the numbers but that of one place
without : (ℕ → ℤ) → ℕ → ℕ → ℤ
without f p t = cond (nat_eq t p) (pos 0) (f t)

without_here : (f : ℕ → ℤ) (p : ℕ) → without f p p ≡ pos 0
unfolding without
without_here f p = ap (λ (b : Bool). cond b (pos 0) (f p)) (equal p)

without_other : (f : ℕ → ℤ) (p t : ℕ) → t ≢ p → without f p t ≡ f t
unfolding without
without_other f p t unlike = ap (λ (b : Bool). cond b (pos 0) (f t)) (not_equal t p unlike)

total_apart : (f : ℕ → ℤ) (p a n : ℕ) → a ≤ p → p < a + n → total_by f (range_with_len a n) ≡ f p +ℤ total_by (without f p) (range_with_len a n)
total_apart f p a zero low high = absurd (omega arith)
total_apart f p a (suc n) low high =
    let rest : List ℕ = range_with_len (a + 1) n in
    elim (cases_eq p a) [
      | inl here ↦
          let others : total_by f rest ≡ total_by (without f p) rest =
          total_same f (without f p) rest (λ k d lt. sym (without_other f p (get_or rest k d) (λ same.
          omega (arith, length-range_with_len (a + 1) n, get_or-range_with_len (a + 1) n k d (omega (arith, length-range_with_len (a + 1) n)))))) in
          let one : f a ≡ f p = ap f (sym here) in
          let gone : without f p a ≡ pos 0 = ap (without f p) (sym here) ∙ without_here f p in
          omega (arith, ints, total_cons f a rest, total_cons (without f p) a rest)
      | inr unlike ↦
          let inner : total_by f rest ≡ f p +ℤ total_by (without f p) rest = total_apart f p (a + 1) n (omega arith) (omega arith) in
          let kept : without f p a ≡ f a = without_other f p a (λ same. unlike (sym same)) in
          omega (arith, ints, total_cons f a rest, total_cons (without f p) a rest)
    ]

contains_rest : (p : ℕ) (ps : List ℕ) (t : ℕ) → Contains (p ∷ ps) t → (p ≡ t) ⊎ Contains ps t
contains_rest p ps t (zero, lt, same) = inl same
contains_rest p ps t (suc k, lt, same) = inr (k, omega arith, same)

-- the sum over numbers that differ is that over all numbers, where the others count nothing
pub total_over : (f : ℕ → ℤ) (ps : List ℕ) (n : ℕ) → All (λ p. p < n) ps → AllPairs (λ a b. a ≢ b) ps
    → ((t : ℕ) → t < n → (Contains ps t → ⊥) → f t ≡ pos 0) → total_by f ps ≡ total_by f (range_with_len 0 n)
total_over f [] n below different none =
    let range : List ℕ = range_with_len 0 n in
    total_nil f ∙ sym (total_none f range (λ k d lt. none (get_or range k d) (range_below 0 n n (omega arith) k d lt) (λ there. absurd (omega (arith, there.1)))))
total_over f (p ∷ ps) n below different none =
    let range : List ℕ = range_with_len 0 n in
    let others : total_by f ps ≡ total_by (without f p) ps =
    total_same f (without f p) ps (λ k d lt. sym (without_other f p (get_or ps k d) (different_head p ps different k d lt))) in
    let rest : total_by (without f p) ps ≡ total_by (without f p) range =
    total_over (without f p) ps n (All-tail (λ q. q < n) p ps below) (different_rest p ps different) (λ t lt out.
    elim (cases_eq t p) [
      | inl here ↦ ap (without f p) here ∙ without_here f p
      | inr unlike ↦ without_other f p t unlike ∙ none t lt (λ there. elim (contains_rest p ps t there) [ inl same ↦ unlike (sym same) | inr inside ↦ out inside ])
    ]) in
    let apart : total_by f range ≡ f p +ℤ total_by (without f p) range = total_apart f p 0 n (omega arith) (omega (arith, All-head (λ q. q < n) p ps below)) in
    omega (arith, ints, total_cons f p ps)
