-- Sums over places that differ.
use Rattle.std.proofs.Common.{◌≡◌, ◌≢◌, ℕ, zero, suc, ◌+◌, ◌*◌, ◌<◌, ◌≤◌, List, [], ◌∷◌, length, get_or, set, replicate, sum_by, All, refl, sym, ap, arith}
use Rattle.std.specs.List.{AllPairs}
use Rattle.std.proofs.lemmas.List.{length-set, get_or-set_other, get_or-replicate, length-replicate}
use Rattle.std.proofs.lemmas.List.Elements.{All-tail, All-head}
use Rattle.std.proofs.lemmas.List.Sums.{sum_by-cons, sum_by-set}
use Rattle.std.proofs.lemmas.List.Folds.{sum_by-replicate}

-- functions that agree at each element have one sum
pub sum_by_same : {X : Type 0} (f g : X → ℕ) (xs : List X) → All (λ x. f x ≡ g x) xs → sum_by f xs ≡ sum_by g xs
sum_by_same f g [] same = refl
sum_by_same f g (x ∷ xs) same =
    let here : f x ≡ g x = All-head (λ y. f y ≡ g y) x xs same in
    let rest : sum_by f xs ≡ sum_by g xs = sum_by_same f g xs (All-tail (λ y. f y ≡ g y) x xs same) in
    omega (arith, sum_by-cons f x xs, sum_by-cons g x xs)

pub sum_by_plus : {X : Type 0} (f g : X → ℕ) (xs : List X) → sum_by (λ x. f x + g x) xs ≡ sum_by f xs + sum_by g xs
sum_by_plus f g [] = refl
sum_by_plus f g (x ∷ xs) =
    let rest : sum_by (λ y. f y + g y) xs ≡ sum_by f xs + sum_by g xs = sum_by_plus f g xs in
    omega (arith, sum_by-cons (λ y. f y + g y) x xs, sum_by-cons f x xs, sum_by-cons g x xs)

sum_by_ones : (ps : List ℕ) → sum_by (λ p. 1) ps ≡ length ps
sum_by_ones [] = refl
sum_by_ones (p ∷ ps) =
    let rest : sum_by (λ q. 1) ps ≡ length ps = sum_by_ones ps in
    omega (arith, sum_by-cons (λ q. 1) p ps)

pub different_rest : (p : ℕ) (ps : List ℕ) → AllPairs (λ a b. a ≢ b) (p ∷ ps) → AllPairs (λ a b. a ≢ b) ps
different_rest p ps h = λ i j d before within. h (suc i) (suc j) d (omega arith) (omega arith)

pub different_head : (p : ℕ) (ps : List ℕ) → AllPairs (λ a b. a ≢ b) (p ∷ ps) → All (λ q. q ≢ p) ps
different_head p ps h = λ k d within same. h zero (suc k) d (omega arith) (omega arith) (sym same)

-- what places that differ have together is within what all places have
pub places_within : {X : Type 0} (f : X → ℕ) (d : X) → f d ≡ 0 → (ps : List ℕ) (xs : List X)
    → All (λ p. p < length xs) ps → AllPairs (λ a b. a ≢ b) ps
    → sum_by (λ p. f (get_or xs p d)) ps ≤ sum_by f xs
places_within f d none [] xs below different = omega arith
places_within f d none (p ∷ ps) xs below different =
    let here : p < length xs = All-head (λ q. q < length xs) p ps below in
    let others = set xs p d in
    let len : length others ≡ length xs = length-set xs p d in
    let rest : All (λ q. q < length others) ps = λ k e lt. omega (arith, len, All-tail (λ q. q < length xs) p ps below k e lt) in
    let inner : sum_by (λ q. f (get_or others q d)) ps ≤ sum_by f others = places_within f d none ps others rest (different_rest p ps different) in
    let same : sum_by (λ q. f (get_or others q d)) ps ≡ sum_by (λ q. f (get_or xs q d)) ps =
    sum_by_same (λ q. f (get_or others q d)) (λ q. f (get_or xs q d)) ps (λ k e lt. ap f (get_or-set_other xs p (get_or ps k e) d d (different_head p ps different k e lt))) in
    let moved : sum_by f others + f (get_or xs p d) ≡ sum_by f xs + f d = sum_by-set f xs p d d here in
    omega (arith, sum_by-cons (λ q. f (get_or xs q d)) p ps)

-- as many numbers as differ are at most their limit
pub different_short : (ps : List ℕ) (n : ℕ) → All (λ p. p < n) ps → AllPairs (λ a b. a ≢ b) ps → length ps ≤ n
different_short ps n below different =
    let ones : List ℕ = replicate n 1 in
    let len : length ones ≡ n = length-replicate n 1 in
    let within : sum_by (λ (p : ℕ). get_or ones p 0) ps ≤ sum_by (λ (x : ℕ). x) ones =
    places_within (λ x. x) 0 refl ps ones (λ k d lt. omega (arith, len, below k d lt)) different in
    let each : sum_by (λ (p : ℕ). get_or ones p 0) ps ≡ sum_by (λ (p : ℕ). 1) ps =
    sum_by_same (λ (p : ℕ). get_or ones p 0) (λ (p : ℕ). 1) ps (λ k d lt. get_or-replicate n (get_or ps k d) 1 0 (below k d lt)) in
    let whole : sum_by (λ (x : ℕ). x) ones ≡ n * 1 = sum_by-replicate (λ (x : ℕ). x) n 1 in
    let count : sum_by (λ (p : ℕ). 1) ps ≡ length ps = sum_by_ones ps in
    omega arith
