-- What documents that are moved across change.
use Rattle.std.proofs.Common.{◌≡◌, ℕ, ◌+◌, ◌-◌, ◌<◌, ℤ, ◌+ℤ◌, ◌-ℤ◌, Bool, true, false, cond, List, [], ◌∷◌, ◌++◌, length, get_or, map, refl, sym, subst, ap, ◌∙◌, All, arith}
use Rattle.std.specs.List.{range_with_len}
use Rattle.std.specs.List.Sorted.{IsStrictlyIncreasing, IsPermutation}
use Rattle.std.proofs.lemmas.Int.{ints}
use Rattle.std.proofs.lemmas.List.FromFn.{length-range_with_len, get_or-range_with_len, get_or-map-range_with_len, length-map-range_with_len}
use Rattle.std.proofs.lemmas.List.Elements.{All-head, All-tail}
use Rattle.std.proofs.lemmas.List.Sums.{sum_by-append}
use Rattle.std.proofs.lemmas.List.Sorted.{sum_by-IsPermutation}
use Rattle.rgb_base.specs.declared.parts.Side.{Side}
use Rattle.rgb_base.specs.declared.parts.Side.TheVariants.{A, B}
use Rattle.forward_index.specs.Forward.{ForwardIndex, row_at}
use Rattle.degrees.specs.Sums.{total_by}
use Rattle.degrees.specs.Cost.{has_term, degree, part, cost_by, cost}
use Rattle.degrees.specs.Counts.{Counted, moved_across, with_less, with_more, cost_of, degrees_of}
use Rattle.exchange.specs.Gain.{term_gain, gain_of}
use Rattle.exchange.specs.Tries.{all_less, all_more, all_across, counted}
use Rattle.exchange.proofs.Totals.{total_by-same, total_by-sub, total_over_row, where_true, IsRowFrom-from_rising}

-- ---- lists by their numbers

map_same : {X Y : Type 0} (f g : X → Y) (xs : List X) → All (λ x. f x ≡ g x) xs → map f xs ≡ map g xs
map_same f g [] same = refl
map_same f g (x ∷ xs) same = ap (λ y. y ∷ map f xs) (All-head (λ z. f z ≡ g z) x xs same) ∙ ap (λ ys. g x ∷ ys) (map_same f g xs (All-tail (λ z. f z ≡ g z) x xs same))

pub all_below : (P : ℕ → Type 0) (n : ℕ) → ((t : ℕ) → t < n → P t) → All P (range_with_len 0 n)
all_below P n holds k d within =
    let low : k < n = omega (arith, within, length-range_with_len 0 n) in
    let at : get_or (range_with_len 0 n) k d ≡ k = omega (arith, get_or-range_with_len 0 n k d low) in
    subst P (sym at) (holds k low)

-- lists made from the numbers below a limit are one where their makers agree
pub made_same : (f g : ℕ → ℕ) (m n : ℕ) → m ≡ n → ((t : ℕ) → t < n → f t ≡ g t) → map f (range_with_len 0 m) ≡ map g (range_with_len 0 n)
made_same f g m n len same = ap (λ (k : ℕ). map f (range_with_len 0 k)) len ∙ map_same f g (range_with_len 0 n) (all_below (λ t. f t ≡ g t) n same)

pub made_at : (f : ℕ → ℕ) (n t : ℕ) → t < n → get_or (map f (range_with_len 0 n)) t 0 ≡ f t
made_at f n t within = get_or-map-range_with_len f 0 n t t 0 within (omega arith)

-- ---- degrees

pub degree-append : (forward : ForwardIndex) (xs ys : List ℕ) (term : ℕ) → degree forward (xs ++ ys) term ≡ degree forward xs term + degree forward ys term
degree-append forward xs ys term = sum_by-append (λ (place : ℕ). cond (has_term (row_at forward.rows place) term) 1 0) xs ys

pub degree-permutation : (forward : ForwardIndex) (xs ys : List ℕ) (term : ℕ) → IsPermutation xs ys → degree forward ys term ≡ degree forward xs term
degree-permutation forward xs ys term same = sum_by-IsPermutation (λ (place : ℕ). cond (has_term (row_at forward.rows place) term) 1 0) xs ys same

pub degrees_of-same : (forward : ForwardIndex) (xs ys : List ℕ) → ((term : ℕ) → degree forward xs term ≡ degree forward ys term) → degrees_of forward xs ≡ degrees_of forward ys
degrees_of-same forward xs ys same = made_same (degree forward xs) (degree forward ys) forward.terms forward.terms refl (λ t within. same t)

-- ---- one document after many

pub across_one : (forward : ForwardIndex) (side : Side) (row : List ℕ) (number more : ℕ → ℕ) (table : Counted) → ((t : ℕ) → more t ≡ number t + cond (has_term row t) 1 0) → moved_across side row (all_across side number table) ≡ all_across side more table
unfolding moved_across
across_one forward A row number more table is =
    ap (λ (xs : List ℕ). let t : Counted = record { a = xs; b = with_more row (all_more number table.b); len_a = table.len_a; len_b = table.len_b; loads = table.loads } in t)
    (made_same (λ t. get_or (all_less number table.a) t 0 - cond (has_term row t) 1 0) (λ t. get_or table.a t 0 - more t) (length (all_less number table.a)) (length table.a)
    (length-map-range_with_len (λ t. get_or table.a t 0 - number t) 0 (length table.a)) (λ t within. omega (arith, is t, made_at (λ u. get_or table.a u 0 - number u) (length table.a) t within)))
    ∙ ap (λ (ys : List ℕ). let t : Counted = record { a = all_less more table.a; b = ys; len_a = table.len_a; len_b = table.len_b; loads = table.loads } in t)
    (made_same (λ t. get_or (all_more number table.b) t 0 + cond (has_term row t) 1 0) (λ t. get_or table.b t 0 + more t) (length (all_more number table.b)) (length table.b)
    (length-map-range_with_len (λ t. get_or table.b t 0 + number t) 0 (length table.b)) (λ t within. omega (arith, is t, made_at (λ u. get_or table.b u 0 + number u) (length table.b) t within)))
across_one forward B row number more table is =
    ap (λ (xs : List ℕ). let t : Counted = record { a = xs; b = with_less row (all_less number table.b); len_a = table.len_a; len_b = table.len_b; loads = table.loads } in t)
    (made_same (λ t. get_or (all_more number table.a) t 0 + cond (has_term row t) 1 0) (λ t. get_or table.a t 0 + more t) (length (all_more number table.a)) (length table.a)
    (length-map-range_with_len (λ t. get_or table.a t 0 + number t) 0 (length table.a)) (λ t within. omega (arith, is t, made_at (λ u. get_or table.a u 0 + number u) (length table.a) t within)))
    ∙ ap (λ (ys : List ℕ). let t : Counted = record { a = all_more more table.a; b = ys; len_a = table.len_a; len_b = table.len_b; loads = table.loads } in t)
    (made_same (λ t. get_or (all_less number table.b) t 0 - cond (has_term row t) 1 0) (λ t. get_or table.b t 0 - more t) (length (all_less number table.b)) (length table.b)
    (length-map-range_with_len (λ t. get_or table.b t 0 - number t) 0 (length table.b)) (λ t within. omega (arith, is t, made_at (λ u. get_or table.b u 0 - number u) (length table.b) t within)))

-- ---- the cost after a move

cost_at : (m n x y less more : ℕ) (has : Bool) → less ≡ x - cond has 1 0 → more ≡ y + cond has 1 0 → part less m +ℤ part more n ≡ (part x m +ℤ part y n) -ℤ where_true has (term_gain m n x y)
unfolding term_gain
cost_at m n x y less more true is_less is_more =
    let first = ap (λ (k : ℕ). part k m) is_less in
    let second = ap (λ (k : ℕ). part k n) is_more in
    omega (arith, ints)
cost_at m n x y less more false is_less is_more =
    let first : part less m ≡ part x m = ap (λ (k : ℕ). part k m) (omega (arith, is_less)) in
    let second : part more n ≡ part y n = ap (λ (k : ℕ). part k n) (omega (arith, is_more)) in
    omega (arith, ints)

-- the cost by tables of which one has less for each term of a row, and the other more
cost_less : (terms m n : ℕ) (a b a_new b_new : ℕ → ℕ) (row : List ℕ) → IsStrictlyIncreasing row → All (λ t. t < terms) row
    → ((t : ℕ) → t < terms → a_new t ≡ a t - cond (has_term row t) 1 0) → ((t : ℕ) → t < terms → b_new t ≡ b t + cond (has_term row t) 1 0)
    → cost_by terms a_new b_new m n ≡ cost_by terms a b m n -ℤ total_by (λ t. term_gain m n (a t) (b t)) row
cost_less terms m n a b a_new b_new row rising below is_a is_b =
    let each : All (λ t. part (a_new t) m +ℤ part (b_new t) n ≡ (part (a t) m +ℤ part (b t) n) -ℤ where_true (has_term row t) (term_gain m n (a t) (b t))) (range_with_len 0 terms) =
    all_below (λ t. part (a_new t) m +ℤ part (b_new t) n ≡ (part (a t) m +ℤ part (b t) n) -ℤ where_true (has_term row t) (term_gain m n (a t) (b t))) terms (λ t within. cost_at m n (a t) (b t) (a_new t) (b_new t) (has_term row t) (is_a t within) (is_b t within)) in
    let parts = total_by-same (λ t. part (a_new t) m +ℤ part (b_new t) n) (λ t. (part (a t) m +ℤ part (b t) n) -ℤ where_true (has_term row t) (term_gain m n (a t) (b t))) (range_with_len 0 terms) each in
    let both = total_by-sub (λ t. part (a t) m +ℤ part (b t) n) (λ t. where_true (has_term row t) (term_gain m n (a t) (b t))) (range_with_len 0 terms) in
    let over = total_over_row (λ t. term_gain m n (a t) (b t)) terms 0 row (IsRowFrom-from_rising row rising) below in
    parts ∙ both ∙ ap (λ (z : ℤ). cost_by terms a b m n -ℤ z) over

flip : (terms m n : ℕ) (a b : ℕ → ℕ) → cost_by terms a b m n ≡ cost_by terms b a n m
flip terms m n a b = total_by-same (λ t. part (a t) m +ℤ part (b t) n) (λ t. part (b t) n +ℤ part (a t) m) (range_with_len 0 terms) (λ k d within. omega (arith, ints))

pub cost_after : (side : Side) (row : List ℕ) (table : Counted) → IsStrictlyIncreasing row → All (λ t. t < length table.a) row → length table.b ≡ length table.a
    → cost_of (moved_across side row table) ≡ cost_of table -ℤ gain_of side table row
unfolding moved_across
cost_after A row table rising below len =
    ap (λ (k : ℕ). cost_by k (λ t. get_or (with_less row table.a) t 0) (λ t. get_or (with_more row table.b) t 0) table.len_a table.len_b) (length-map-range_with_len (λ t. get_or table.a t 0 - cond (has_term row t) 1 0) 0 (length table.a))
    ∙ cost_less (length table.a) table.len_a table.len_b (λ t. get_or table.a t 0) (λ t. get_or table.b t 0) (λ t. get_or (with_less row table.a) t 0) (λ t. get_or (with_more row table.b) t 0) row rising below
    (λ t within. made_at (λ u. get_or table.a u 0 - cond (has_term row u) 1 0) (length table.a) t within)
    (λ t within. made_at (λ u. get_or table.b u 0 + cond (has_term row u) 1 0) (length table.b) t (omega (arith, within, len)))
cost_after B row table rising below len =
    ap (λ (k : ℕ). cost_by k (λ t. get_or (with_more row table.a) t 0) (λ t. get_or (with_less row table.b) t 0) table.len_a table.len_b) (length-map-range_with_len (λ t. get_or table.a t 0 + cond (has_term row t) 1 0) 0 (length table.a))
    ∙ flip (length table.a) table.len_a table.len_b (λ t. get_or (with_more row table.a) t 0) (λ t. get_or (with_less row table.b) t 0)
    ∙ cost_less (length table.a) table.len_b table.len_a (λ t. get_or table.b t 0) (λ t. get_or table.a t 0) (λ t. get_or (with_less row table.b) t 0) (λ t. get_or (with_more row table.a) t 0) row rising below
    (λ t within. made_at (λ u. get_or table.b u 0 - cond (has_term row u) 1 0) (length table.b) t (omega (arith, within, len)))
    (λ t within. made_at (λ u. get_or table.a u 0 + cond (has_term row u) 1 0) (length table.a) t within)
    ∙ ap (λ (z : ℤ). z -ℤ gain_of B table row) (flip (length table.a) table.len_b table.len_a (λ t. get_or table.b t 0) (λ t. get_or table.a t 0))

-- ---- tables of two lists

pub across_A : (forward : ForwardIndex) (xs ys xs_new ys_new : List ℕ) (m n loads : ℕ) (number : ℕ → ℕ)
    → ((t : ℕ) → degree forward xs t ≡ number t + degree forward xs_new t) → ((t : ℕ) → degree forward ys_new t ≡ number t + degree forward ys t)
    → all_across A number (counted forward xs ys m n loads) ≡ counted forward xs_new ys_new m n loads
across_A forward xs ys xs_new ys_new m n loads number is_x is_y =
    let terms = forward.terms in
    let len_x = length-map-range_with_len (degree forward xs) 0 terms in
    let len_y = length-map-range_with_len (degree forward ys) 0 terms in
    ap (λ (us : List ℕ). let t : Counted = record { a = us; b = all_more number (degrees_of forward ys); len_a = m; len_b = n; loads = loads } in t)
    (made_same (λ t. get_or (degrees_of forward xs) t 0 - number t) (degree forward xs_new) (length (degrees_of forward xs)) terms len_x (λ t within. omega (arith, is_x t, made_at (degree forward xs) terms t within)))
    ∙ ap (λ (us : List ℕ). let t : Counted = record { a = degrees_of forward xs_new; b = us; len_a = m; len_b = n; loads = loads } in t)
    (made_same (λ t. get_or (degrees_of forward ys) t 0 + number t) (degree forward ys_new) (length (degrees_of forward ys)) terms len_y (λ t within. omega (arith, is_y t, made_at (degree forward ys) terms t within)))

pub across_B : (forward : ForwardIndex) (xs ys xs_new ys_new : List ℕ) (m n loads : ℕ) (number : ℕ → ℕ)
    → ((t : ℕ) → degree forward ys t ≡ number t + degree forward ys_new t) → ((t : ℕ) → degree forward xs_new t ≡ number t + degree forward xs t)
    → all_across B number (counted forward xs ys m n loads) ≡ counted forward xs_new ys_new m n loads
across_B forward xs ys xs_new ys_new m n loads number is_y is_x =
    let terms = forward.terms in
    let len_x = length-map-range_with_len (degree forward xs) 0 terms in
    let len_y = length-map-range_with_len (degree forward ys) 0 terms in
    ap (λ (us : List ℕ). let t : Counted = record { a = us; b = all_less number (degrees_of forward ys); len_a = m; len_b = n; loads = loads } in t)
    (made_same (λ t. get_or (degrees_of forward xs) t 0 + number t) (degree forward xs_new) (length (degrees_of forward xs)) terms len_x (λ t within. omega (arith, is_x t, made_at (degree forward xs) terms t within)))
    ∙ ap (λ (us : List ℕ). let t : Counted = record { a = degrees_of forward xs_new; b = us; len_a = m; len_b = n; loads = loads } in t)
    (made_same (λ t. get_or (degrees_of forward ys) t 0 - number t) (degree forward ys_new) (length (degrees_of forward ys)) terms len_y (λ t within. omega (arith, is_y t, made_at (degree forward ys) terms t within)))

cost_by-same : (terms m n : ℕ) (a b a_new b_new : ℕ → ℕ) → ((t : ℕ) → t < terms → a t ≡ a_new t) → ((t : ℕ) → t < terms → b t ≡ b_new t) → cost_by terms a b m n ≡ cost_by terms a_new b_new m n
cost_by-same terms m n a b a_new b_new is_a is_b =
    total_by-same (λ t. part (a t) m +ℤ part (b t) n) (λ t. part (a_new t) m +ℤ part (b_new t) n) (range_with_len 0 terms)
    (all_below (λ t. part (a t) m +ℤ part (b t) n ≡ part (a_new t) m +ℤ part (b_new t) n) terms (λ t within. ap (λ (k : ℕ). part k m +ℤ part (b t) n) (is_a t within) ∙ ap (λ (k : ℕ). part (a_new t) m +ℤ part k n) (is_b t within)))

-- a table with the degrees of two halves costs what they cost, in whatever order they are listed
pub cost-counted : (forward : ForwardIndex) (xs ys a b : List ℕ) (m n loads : ℕ) → m ≡ length a → n ≡ length b → ((t : ℕ) → degree forward xs t ≡ degree forward a t) → ((t : ℕ) → degree forward ys t ≡ degree forward b t)
    → cost_of (counted forward xs ys m n loads) ≡ cost forward a b
cost-counted forward xs ys a b m n loads len_a len_b is_a is_b =
    ap (λ (k : ℕ). cost_by k (λ t. get_or (degrees_of forward xs) t 0) (λ t. get_or (degrees_of forward ys) t 0) m n) (length-map-range_with_len (degree forward xs) 0 forward.terms)
    ∙ cost_by-same forward.terms m n (λ t. get_or (degrees_of forward xs) t 0) (λ t. get_or (degrees_of forward ys) t 0) (degree forward a) (degree forward b)
    (λ t within. made_at (degree forward xs) forward.terms t within ∙ is_a t) (λ t within. made_at (degree forward ys) forward.terms t within ∙ is_b t)
    ∙ ap (λ (k : ℕ). cost_by forward.terms (degree forward a) (degree forward b) k n) len_a
    ∙ ap (λ (k : ℕ). cost_by forward.terms (degree forward a) (degree forward b) (length a) k) len_b
