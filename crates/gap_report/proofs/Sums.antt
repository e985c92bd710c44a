-- Sums over a part of a list.
use Rattle.std.proofs.Common.{◌≡◌, ℕ, ◌+◌, ◌-◌, ◌<◌, ◌≤◌, List, length, take, drop, get_or, sym, ◌∙◌, ap, arith}
use Rattle.std.specs.Prelude.{sum_by, slice_range}
use Rattle.std.proofs.lemmas.List.{take-take, drop-take}
use Rattle.std.proofs.lemmas.List.Sums.{sum_by_more, sum_by-take-le, sum_by-take-drop}

-- the sum over a front and that over what follows it up to an end are the sum over the longer front
pub sum_by-fronts : {X : Type 0} (f : X → ℕ) (xs : List X) (from to : ℕ) → from ≤ to → sum_by f (take from xs) + sum_by f (slice_range xs from to) ≡ sum_by f (take to xs)
sum_by-fronts f xs from to order =
    let whole : from + (to - from) ≡ to = omega arith in
    let front : take from (take to xs) ≡ take from xs = take-take from to xs order in
    let back : drop from (take to xs) ≡ take (to - from) (drop from xs) = ap (λ n. drop from (take n xs)) (sym whole) ∙ drop-take from (to - from) xs in
    ap (λ ys. sum_by f ys + sum_by f (slice_range xs from to)) (sym front) ∙ (ap (λ ys. sum_by f (take from (take to xs)) + sum_by f ys) (sym back) ∙ sum_by-take-drop f (take to xs) from)

pub sum_by-range_more : {X : Type 0} (f : X → ℕ) (xs : List X) (from to : ℕ) (d : X) → from ≤ to → to < length xs → sum_by f (slice_range xs from (to + 1)) ≡ sum_by f (slice_range xs from to) + f (get_or xs to d)
sum_by-range_more f xs from to d order within =
    omega (arith, sum_by-fronts f xs from to order, sum_by-fronts f xs from (to + 1) (omega arith), sum_by_more f xs to d within)

pub sum_by-range_both : {X : Type 0} (f : X → ℕ) (xs : List X) (from middle to : ℕ) → from ≤ middle → middle ≤ to → sum_by f (slice_range xs from to) ≡ sum_by f (slice_range xs from middle) + sum_by f (slice_range xs middle to)
sum_by-range_both f xs from middle to low high =
    omega (arith, sum_by-fronts f xs from middle low, sum_by-fronts f xs middle to high, sum_by-fronts f xs from to (omega arith))

pub sum_by-range_le : {X : Type 0} (f : X → ℕ) (xs : List X) (from to : ℕ) → from ≤ to → sum_by f (slice_range xs from to) ≤ sum_by f xs
sum_by-range_le f xs from to order = omega (arith, sum_by-fronts f xs from to order, sum_by-take-le f xs to)
