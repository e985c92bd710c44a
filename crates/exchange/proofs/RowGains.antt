-- The gain of a document, term by term.
use Rattle.std.proofs.Common.{◌≡◌, ℕ, ◌+◌, ◌*◌, ◌^◌, ◌<◌, ◌≤◌, ℤ, pos, ◌+ℤ◌, ◌-ℤ◌, List, [], ◌∷◌, ◌++◌, length, get_or, take, refl, sym, subst, ap, ◌∙◌, All, sum, arith, add-one}
use Rattle.std.specs.Prelude.{slice_get, Some}
use Rattle.std.specs.List.{sum_by}
use Rattle.std.proofs.Math.Seq.{take-suc}
use Rattle.std.proofs.lemmas.Int.{ints}
use Rattle.std.proofs.lemmas.Option.{get_or_from_slice_get}
use Rattle.std.proofs.lemmas.List.Elements.{All-get_or}
use Rattle.std.proofs.lemmas.List.Sums.{sum_by-cons, sum_by_more_le, sum_by_more, sum_by-take-le}
use Rattle.rgb_base.specs.declared.parts.Side.{Side}
use Rattle.rgb_base.specs.declared.parts.Side.TheVariants.{A, B}
use Rattle.forward_index.specs.Forward.{ForwardIndex, IsForward, IsRow, row_at}
use Rattle.fixed_log.specs.Log.{lg, LogIsSmall}
use Rattle.degrees.specs.Sums.{total_by}
use Rattle.degrees.specs.Counts.{Counted, IsCounted, counts_in}
use Rattle.exchange.specs.Gain.{term_gain, term_gain_of}
use Rattle.exchange.specs.Tries.{counts_beside, size_in, size_beside, IsWithin}
use Rattle.exchange.proofs.Totals.{total_by-append, IsRowFrom-from_rising}
use Rattle.exchange.proofs.Bounds.{row_sum_small, term_gain_small}

-- ---- rows

pub row_read : (rows : List (List ℕ)) (k : ℕ) (row : List ℕ) → slice_get rows k ≡ Some row → row_at rows k ≡ row
row_read rows k row read = get_or_from_slice_get rows k row [] read

pub row_is : (forward : ForwardIndex) (k : ℕ) → IsForward forward → k < length forward.rows → IsRow forward.terms (row_at forward.rows k)
row_is forward k sound within = All-get_or (IsRow forward.terms) forward.rows k [] within sound.rows

-- ---- a step of the sum

pub total_by-more : {X : Type 0} (f : X → ℤ) (xs : List X) (i : ℕ) (d : X) → i < length xs → total_by f (take (i + 1) xs) ≡ total_by f (take i xs) +ℤ f (get_or xs i d)
unfolding total_by
total_by-more f xs i d within =
    let cut : take (i + 1) xs ≡ take i xs ++ get_or xs i d ∷ [] = ap (λ (k : ℕ). take k xs) (add-one i) ∙ take-suc xs i d within in
    let parts = ap (total_by f) cut ∙ total_by-append f (take i xs) (get_or xs i d ∷ []) in
    omega (arith, ints, parts)

-- the counts of a term in both halves
abbrev pub both_counts : Counted → ℕ → ℕ
both_counts table t = get_or table.a t 0 + get_or table.b t 0

sums : (f g : ℕ → ℕ) (xs : List ℕ) → sum_by (λ t. f t + g t) xs ≡ sum_by f xs + sum_by g xs
sums f g [] = refl
sums f g (x ∷ xs) = omega (arith, sums f g xs, sum_by-cons (λ (t : ℕ). f t + g t) x xs, sum_by-cons f x xs, sum_by-cons g x xs)

row_counts : (table : Counted) (row : List ℕ) → IsCounted table → IsRow (length table.a) row → sum_by (both_counts table) row < 2 ^ 32
row_counts table row sound is =
    let rises = IsRowFrom-from_rising row is.rising in
    let in_b : All (λ t. t < length table.b) row = λ k d within. omega (arith, is.below k d within, sound.len) in
    omega (arith, sound.few, sums (λ t. get_or table.a t 0) (λ t. get_or table.b t 0) row, row_sum_small table.a row rises is.below, row_sum_small table.b row rises in_b)

pub step_small : (table : Counted) (row : List ℕ) (i : ℕ) → IsCounted table → IsRow (length table.a) row → i < length row → sum_by (both_counts table) (take i row) + both_counts table (get_or row i 0) < 2 ^ 32
step_small table row i sound is within = omega (arith, row_counts table row sound is, sum_by_more_le (both_counts table) row i 0 within)

pub total_small : (table : Counted) (row : List ℕ) (i : ℕ) → IsCounted table → IsRow (length table.a) row → length row ≤ i → sum_by (both_counts table) (take i row) < 2 ^ 32
total_small table row i sound is behind = omega (arith, row_counts table row sound is, sum_by-take-le (both_counts table) row i)

pub row_small : (table : Counted) (row : List ℕ) → IsCounted table → IsRow (length table.a) row → sum_by (both_counts table) row < 2 ^ 32
row_small = row_counts

-- ---- by a side

pub both_of : (side : Side) (table : Counted) (t : ℕ) → get_or (counts_in side table) t 0 + get_or (counts_beside side table) t 0 ≡ both_counts table t
both_of A table t = refl
both_of B table t = omega arith

pub term_gain_is : (side : Side) (table : Counted) (t : ℕ) → term_gain (size_in side table) (size_beside side table) (get_or (counts_in side table) t 0) (get_or (counts_beside side table) t 0) ≡ term_gain_of side table t
term_gain_is A table t = refl
term_gain_is B table t = refl

pub within_weaker : (m n : ℕ) (z : ℤ) → m ≤ n → IsWithin m z → IsWithin n z
within_weaker m n z order is = record { low = omega (arith, ints, is.low); high = omega (arith, ints, is.high) }

pub within_sum : (m n k : ℕ) (x y z : ℤ) → IsWithin m x → IsWithin n y → z ≡ x +ℤ y → m + n ≤ k → IsWithin k z
within_sum m n k x y z one two same order = record { low = omega (arith, ints, one.low, two.low); high = omega (arith, ints, one.high, two.high) }

pub row_table : (forward : ForwardIndex) (table : Counted) (k : ℕ) (row : List ℕ) → IsForward forward → k < length forward.rows → slice_get forward.rows k ≡ Some row → length table.a ≡ forward.terms → IsRow (length table.a) row
row_table forward table k row sound within read terms =
    subst (λ (n : ℕ). IsRow n row) (sym terms) (subst (IsRow forward.terms) (row_read forward.rows k row read) (row_is forward k sound within))

-- a sum with one term more is small, and is the sum over one term more
pub gain_step : (side : Side) (table : Counted) (row : List ℕ) (i : ℕ) (sum g z : ℤ) → IsCounted table → IsRow (length table.a) row → i < length row
    → sum ≡ total_by (term_gain_of side table) (take i row) → IsWithin (sum_by (both_counts table) (take i row) * 8388608) sum
    → g ≡ term_gain_of side table (get_or row i 0) → IsWithin (both_counts table (get_or row i 0) * 8388608) g → z ≡ sum +ℤ g
    → (z ≡ total_by (term_gain_of side table) (take (i + 1) row)) × IsWithin (sum_by (both_counts table) (take (i + 1) row) * 8388608) z × IsWithin (2 ^ 56) z
gain_step side table row i sum g z sound is within same small g_same g_small z_is =
    let more = total_by-more (term_gain_of side table) row i 0 within in
    let count = sum_by_more (both_counts table) row i 0 within in
    let few = step_small table row i sound is within in (
      omega (arith, ints, more, same, g_same, z_is),
      within_sum (sum_by (both_counts table) (take i row) * 8388608) (both_counts table (get_or row i 0) * 8388608) (sum_by (both_counts table) (take (i + 1) row) * 8388608) sum g z small g_small z_is (omega (arith, count)),
      within_sum (sum_by (both_counts table) (take i row) * 8388608) (both_counts table (get_or row i 0) * 8388608) (2 ^ 56) sum g z small g_small z_is (omega (arith, few)),
    )

pub g_is : (side : Side) (table : Counted) (t own other : ℕ) (apart g : ℤ) → ((m n : ℕ) → 0 < own → apart ≡ pos (lg m) -ℤ pos (lg n) → g ≡ term_gain m n own other)
    → apart ≡ pos (lg (size_in side table)) -ℤ pos (lg (size_beside side table)) → own ≡ get_or (counts_in side table) t 0 → other ≡ get_or (counts_beside side table) t 0 → 0 < get_or (counts_in side table) t 0 → g ≡ term_gain_of side table t
g_is side table t own other apart g same is_apart is_own is_other some =
    same (size_in side table) (size_beside side table) (omega (arith, some, is_own)) is_apart
    ∙ ap (λ (n : ℕ). term_gain (size_in side table) (size_beside side table) n other) is_own
    ∙ ap (λ (n : ℕ). term_gain (size_in side table) (size_beside side table) (get_or (counts_in side table) t 0) n) is_other
    ∙ term_gain_is side table t

-- what a term of the half gains is as small as its counts
pub g_small : LogIsSmall → (side : Side) (table : Counted) (t : ℕ) (g : ℤ) → IsCounted table → 0 < table.len_a → 0 < table.len_b → t < length table.a → 0 < get_or (counts_in side table) t 0 → g ≡ term_gain_of side table t
    → IsWithin (both_counts table t * 8388608) g
g_small logs A table t g sound some_a some_b within some is =
    subst (IsWithin (both_counts table t * 8388608)) (sym is)
    (term_gain_small logs table.len_a table.len_b (get_or table.a t 0) (get_or table.b t 0) some_a (omega (arith, sound.len_a)) some_b (omega (arith, sound.len_b)) some (omega (arith, sound.both t within)))
g_small logs B table t g sound some_a some_b within some is =
    let swapped : get_or table.b t 0 + get_or table.a t 0 ≡ both_counts table t = omega arith in
    subst (IsWithin (both_counts table t * 8388608)) (sym is) (subst (λ (n : ℕ). IsWithin (n * 8388608) (term_gain table.len_b table.len_a (get_or table.b t 0) (get_or table.a t 0))) swapped
    (term_gain_small logs table.len_b table.len_a (get_or table.b t 0) (get_or table.a t 0) some_b (omega (arith, sound.len_b)) some_a (omega (arith, sound.len_a)) some (omega (arith, sound.both t within))))
