-- Sums of counts.
use Rattle.std.proofs.Common.{◌≡◌, ◌≢◌, ◌||◌, ℕ, zero, suc, ◌+◌, ◌*◌, ◌<◌, ◌≤◌, Bool, true, false, cond, nat_eq, List, [], ◌∷◌, length, get_or, replicate, sum, sum_by, All, inl, inr, refl, ap, ◌∙◌, arith}
use Rattle.std.specs.List.{range_with_len}
use Rattle.std.proofs.lemmas.Bool.{cases_eq}
use Rattle.std.proofs.lemmas.List.Elements.{All-head, All-tail}
use Rattle.std.proofs.lemmas.List.FromFn.{fill_by_all, length-range_with_len, get_or-range_with_len}
use Rattle.std.proofs.lemmas.List.Folds.{sum_by-replicate}
use Rattle.std.proofs.lemmas.List.Sums.{sum_by-cons, sum_by-le-sum_by, sum-map}
use Rattle.forward_index.specs.Forward.{ForwardIndex, row_at}
use Rattle.degrees.specs.Cost.{has_term, degree}
use Rattle.degrees.specs.Counts.{degrees_of}
use Rattle.degrees.proofs.Distinct.{sum_by_same, sum_by_plus}
use Rattle.degrees.proofs.Rows.{one_if, not_equal}

-- a list's sum by its places
pub sum_at : (xs : List ℕ) (n : ℕ) → length xs ≡ n → sum xs ≡ sum_by (λ (k : ℕ). get_or xs k 0) (range_with_len 0 n)
sum_at xs n len = ap sum (fill_by_all (λ (k : ℕ). get_or xs k 0) xs n 0 len (λ k lt. refl)) ∙ sum-map (λ (k : ℕ). get_or xs k 0) (range_with_len 0 n)

pub sum_by_none : (f : ℕ → ℕ) (xs : List ℕ) → ((x : ℕ) → f x ≡ 0) → sum_by f xs ≡ 0
sum_by_none f [] none = refl
sum_by_none f (x ∷ xs) none =
    let rest : sum_by f xs ≡ 0 = sum_by_none f xs none in
    omega (arith, sum_by-cons f x xs, none x)

pub range_below : (a n limit : ℕ) → a + n ≤ limit → All (λ (k : ℕ). k < limit) (range_with_len a n)
range_below a n limit fits k d lt = omega (arith, length-range_with_len a n, get_or-range_with_len a n k d (omega (arith, length-range_with_len a n)))

-- two pairs of lists that agree in sum at each place
pub sums_agree : (a b c d : List ℕ) (n : ℕ) → length a ≡ n → length b ≡ n → length c ≡ n → length d ≡ n
    → ((k : ℕ) → k < n → get_or a k 0 + get_or b k 0 ≡ get_or c k 0 + get_or d k 0) → sum a + sum b ≡ sum c + sum d
sums_agree a b c d n len_a len_b len_c len_d each =
    let at : List ℕ → ℕ → ℕ = λ xs k. get_or xs k 0 in
    let range : List ℕ = range_with_len 0 n in
    let within : All (λ (k : ℕ). k < n) range = range_below 0 n n (omega arith) in
    let one : sum_by (λ (k : ℕ). at a k + at b k) range ≡ sum_by (at a) range + sum_by (at b) range = sum_by_plus (at a) (at b) range in
    let two : sum_by (λ (k : ℕ). at c k + at d k) range ≡ sum_by (at c) range + sum_by (at d) range = sum_by_plus (at c) (at d) range in
    let same : sum_by (λ (k : ℕ). at a k + at b k) range ≡ sum_by (λ (k : ℕ). at c k + at d k) range =
    sum_by_same (λ (k : ℕ). at a k + at b k) (λ (k : ℕ). at c k + at d k) range (λ i e lt. each (get_or range i e) (within i e lt)) in
    omega (arith, sum_at a n len_a, sum_at b n len_b, sum_at c n len_c, sum_at d n len_d)

-- how often a number stands among those from one on
abbrev pub is_one : ℕ → ℕ → ℕ
is_one x t = cond (nat_eq x t) 1 0

is_one_no : (x t : ℕ) → x ≢ t → is_one x t ≡ 0
is_one_no x t unlike = ap (λ (b : Bool). cond b 1 0) (not_equal x t unlike)

pub is_one_le : (x t : ℕ) → is_one x t ≤ 1
is_one_le x t = elim (nat_eq x t) as (λ (b : Bool). cond b 1 0 ≤ 1) [ true ↦ omega arith | false ↦ omega arith ]

one_past : (x a n : ℕ) → x < a → sum_by (is_one x) (range_with_len a n) ≡ 0
one_past x a zero low = refl
one_past x a (suc n) low =
    let rest : sum_by (is_one x) (range_with_len (a + 1) n) ≡ 0 = one_past x (a + 1) n (omega arith) in
    omega (arith, sum_by-cons (is_one x) a (range_with_len (a + 1) n), is_one_no x a (λ same. omega arith))

one_at_most : (x a n : ℕ) → sum_by (is_one x) (range_with_len a n) ≤ 1
one_at_most x a zero = omega arith
one_at_most x a (suc n) =
    elim (cases_eq x a) [
      | inl same ↦ omega (arith, sum_by-cons (is_one x) a (range_with_len (a + 1) n), one_past x (a + 1) n (omega arith), is_one_le x a)
      | inr unlike ↦ omega (arith, sum_by-cons (is_one x) a (range_with_len (a + 1) n), one_at_most x (a + 1) n, is_one_no x a unlike)
    ]

or_le : (p q : Bool) → cond (p || q) 1 0 ≤ cond p 1 0 + cond q 1 0
or_le true q = omega arith
or_le false q = omega arith

-- a row has no more terms than it is long
row_ones : (row : List ℕ) (n : ℕ) → sum_by (one_if row) (range_with_len 0 n) ≤ length row
row_ones [] n = omega (arith, sum_by_none (one_if []) (range_with_len 0 n) (λ x. refl))
row_ones (x ∷ row) n =
    let range : List ℕ = range_with_len 0 n in
    let split : sum_by (one_if (x ∷ row)) range ≤ sum_by (λ (t : ℕ). is_one x t + one_if row t) range =
    sum_by-le-sum_by (one_if (x ∷ row)) (λ (t : ℕ). is_one x t + one_if row t) range (λ t. or_le (nat_eq x t) (has_term row t)) in
    let both : sum_by (λ (t : ℕ). is_one x t + one_if row t) range ≡ sum_by (is_one x) range + sum_by (one_if row) range = sum_by_plus (is_one x) (one_if row) range in
    omega (arith, one_at_most x 0 n, row_ones row n)

-- the degrees of a half are together within its rows' lengths
degrees_within : (forward : ForwardIndex) (half : List ℕ) (n : ℕ)
    → sum_by (degree forward half) (range_with_len 0 n) ≤ sum_by (λ (p : ℕ). length (row_at forward.rows p)) half
degrees_within forward [] n = omega (arith, sum_by_none (degree forward []) (range_with_len 0 n) (λ x. refl))
degrees_within forward (p ∷ half) n =
    let range : List ℕ = range_with_len 0 n in
    let row = row_at forward.rows p in
    let same : sum_by (degree forward (p ∷ half)) range ≡ sum_by (λ (t : ℕ). one_if row t + degree forward half t) range =
    sum_by_same (degree forward (p ∷ half)) (λ (t : ℕ). one_if row t + degree forward half t) range
    (λ k d lt. sum_by-cons (λ (q : ℕ). one_if (row_at forward.rows q) (get_or range k d)) p half) in
    let both : sum_by (λ (t : ℕ). one_if row t + degree forward half t) range ≡ sum_by (one_if row) range + sum_by (degree forward half) range =
    sum_by_plus (one_if row) (degree forward half) range in
    omega (arith, row_ones row n, degrees_within forward half n, sum_by-cons (λ (q : ℕ). length (row_at forward.rows q)) p half)

pub sum_degrees : (forward : ForwardIndex) (half : List ℕ) → sum (degrees_of forward half) ≤ sum_by (λ (p : ℕ). length (row_at forward.rows p)) half
sum_degrees forward half = omega (arith, sum-map (degree forward half) (range_with_len 0 forward.terms), degrees_within forward half forward.terms)

pub sum_zeros : (n : ℕ) → sum (replicate n 0) ≡ 0
sum_zeros n =
    let zeros : sum (replicate n 0) ≡ n * 0 = sum_by-replicate (λ (x : ℕ). x) n 0 in
    omega arith

one_if_small : (row : List ℕ) (t : ℕ) → one_if row t ≤ 1
one_if_small row t = elim (has_term row t) as (λ (b : Bool). cond b 1 0 ≤ 1) [ true ↦ omega arith | false ↦ omega arith ]

one_if_skip : (row : List ℕ) (x t : ℕ) → x ≢ t → one_if (x ∷ row) t ≡ one_if row t
one_if_skip row x t unlike = ap (λ (b : Bool). cond (b || has_term row t) 1 0) (not_equal x t unlike)

-- each term of a row has a count
pub one_if_le : (row counts : List ℕ) (t : ℕ) → All (λ (x : ℕ). 0 < get_or counts x 0) row → one_if row t ≤ get_or counts t 0
one_if_le [] counts t some = omega arith
one_if_le (x ∷ row) counts t some =
    let here : 0 < get_or counts x 0 = All-head (λ (y : ℕ). 0 < get_or counts y 0) x row some in
    let rest : one_if row t ≤ get_or counts t 0 = one_if_le row counts t (All-tail (λ (y : ℕ). 0 < get_or counts y 0) x row some) in
    elim (cases_eq x t) [
      | inl same ↦ omega (arith, one_if_small (x ∷ row) t, ap (λ (k : ℕ). get_or counts k 0) same)
      | inr unlike ↦ omega (arith, one_if_skip row x t unlike)
    ]
