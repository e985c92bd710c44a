-- Kept rounds that were sorted.
use Rattle.std.proofs.Common.{Less, Equal, Greater, ◌≡◌, ℕ, ◌+◌, ◌<◌, ◌++◌, Bool, true, false, List, get_or, refl, sym, ap, ◌∙◌, inl, inr, arith, AllPairs}
use Rattle.std.specs.List.Sorted.{IsSortedBy, IsPermutation, IsStrictlyIncreasing}
use Rattle.std.specs.Cmp.{IsTotalOrder}
use Rattle.std.specs.declared.cmp.Ordering.{Ordering}
use Rattle.std.specs.Ordering.{nat_cmp, int_cmp, on, then_cmp, flip_args, ordering_then, ordering_reverse, is_lt, is_eq}
use Rattle.std.specs.List.{IsDistinct}
use Rattle.std.proofs.lemmas.Map.Keys.{apart_from_distinct, IsDistinct-from_apart, IsDistinct-IsPermutation}
use Rattle.std.proofs.lemmas.Cmp.{ranked, int_ranked, tied_itself, on_total, then_total, back_total, nat_cmp_total, int_cmp_total}
use Rattle.std.proofs.lemmas.Bool.{false≢true}
use Rattle.std.proofs.lemmas.Int.{ints}
use Rattle.std.proofs.lemmas.List.Sorted.{sorted_far, ranks_by, IsPermutation-sym}
use Rattle.forward_index.specs.Forward.{ForwardIndex}
use Rattle.cell_claims.specs.declared.trace.KeptRound.{KeptRound}
use Rattle.bisection.specs.Trace.{StandsBefore}
use Rattle.bisection.specs.Recursion.{Limits, IsBisected}
use Rattle.bisection.specs.Laws.{AreBisected}
use Rattle.bisection.specs.Cells.{AreLaws, AreApart}

abbrev pub round_cmp : KeptRound → KeptRound → Ordering
round_cmp = then_cmp (then_cmp (on (λ (r : KeptRound). r.start) nat_cmp) (on (λ (r : KeptRound). r.level) nat_cmp)) (flip_args (on (λ (r : KeptRound). r.before) int_cmp))

pub round_total : IsTotalOrder round_cmp
round_total = then_total (then_total (on_total (λ (r : KeptRound). r.start) nat_cmp_total) (on_total (λ (r : KeptRound). r.level) nat_cmp_total)) (back_total (on_total (λ (r : KeptRound). r.before) int_cmp_total))

-- y doesn't rank before x
stands : (x y : KeptRound) (r s t : Ordering) → r ≡ nat_cmp y.start x.start → s ≡ nat_cmp y.level x.level → t ≡ int_cmp x.before y.before → is_lt (ordering_then (ordering_then r s) t) ≡ false → AreApart x y → StandsBefore x y
stands x y Less s t is_r is_s is_t test apart = absurd (false≢true (sym test))
stands x y Greater s t is_r is_s is_t test apart = inl (ranked y.start x.start Greater is_r)
stands x y Equal Less t is_r is_s is_t test apart = absurd (false≢true (sym test))
stands x y Equal Greater t is_r is_s is_t test apart = inr (sym (ranked y.start x.start Equal is_r), inl (ranked y.level x.level Greater is_s))
stands x y Equal Equal Less is_r is_s is_t test apart = absurd (false≢true (sym test))
stands x y Equal Equal Equal is_r is_s is_t test apart = absurd (apart (sym (ranked y.start x.start Equal is_r)) (sym (ranked y.level x.level Equal is_s)) (int_ranked x.before y.before Equal is_t))
stands x y Equal Equal Greater is_r is_s is_t test apart = inr (sym (ranked y.start x.start Equal is_r), inr (sym (ranked y.level x.level Equal is_s), int_ranked x.before y.before Greater is_t))

-- ---- rounds that are apart stay so in any order

abbrev is_same : KeptRound → KeptRound → Bool
is_same x y = is_eq (round_cmp x y)

unequal : (x y : KeptRound) (r s t : Ordering) → r ≡ nat_cmp x.start y.start → s ≡ nat_cmp x.level y.level → t ≡ int_cmp y.before x.before → AreApart x y → is_eq (ordering_then (ordering_then r s) t) ≡ false
unequal x y Less s t is_r is_s is_t apart = refl
unequal x y Greater s t is_r is_s is_t apart = refl
unequal x y Equal Less t is_r is_s is_t apart = refl
unequal x y Equal Greater t is_r is_s is_t apart = refl
unequal x y Equal Equal Less is_r is_s is_t apart = refl
unequal x y Equal Equal Greater is_r is_s is_t apart = refl
unequal x y Equal Equal Equal is_r is_s is_t apart = absurd (apart (ranked x.start y.start Equal is_r) (ranked x.level y.level Equal is_s) (sym (int_ranked y.before x.before Equal is_t)))

apart_from_test : (x y : KeptRound) → is_same x y ≡ false → AreApart x y
apart_from_test x y test start level before =
    let one : nat_cmp x.start y.start ≡ Equal = ap (nat_cmp x.start) (sym start) ∙ tied_itself nat_cmp_total x.start in
    let two : nat_cmp x.level y.level ≡ Equal = ap (nat_cmp x.level) (sym level) ∙ tied_itself nat_cmp_total x.level in
    let three : int_cmp y.before x.before ≡ Equal = ap (int_cmp y.before) before ∙ tied_itself int_cmp_total y.before in
    let same : is_same x y ≡ true =
    ap (λ (r : Ordering). is_eq (ordering_then (ordering_then r (nat_cmp x.level y.level)) (int_cmp y.before x.before))) one
    ∙ ap (λ (s : Ordering). is_eq (ordering_then s (int_cmp y.before x.before))) two ∙ ap is_eq three in
    false≢true (sym test ∙ same)

eq_back : (r : Ordering) → is_eq (ordering_reverse r) ≡ is_eq r
eq_back Less = refl
eq_back Equal = refl
eq_back Greater = refl

flips : (x y : KeptRound) → is_same x y ≡ is_same y x
flips x y = ap is_eq (round_total.antisymm x y) ∙ eq_back (round_cmp y x)

pub apart_permutation : (xs ys : List KeptRound) → IsPermutation xs ys → AllPairs AreApart xs → AllPairs AreApart ys
apart_permutation xs ys same pairs =
    let first : IsDistinct is_same xs = IsDistinct-from_apart is_same xs (λ i j d order within.
    let x = get_or xs i d in
    let y = get_or xs j d in
    unequal x y (nat_cmp x.start y.start) (nat_cmp x.level y.level) (int_cmp y.before x.before) refl refl refl (pairs i j d order within)) in
    let second = IsDistinct-IsPermutation is_same flips xs ys same first in
    λ i j d order within. apart_from_test (get_or ys i d) (get_or ys j d) (apart_from_distinct is_same ys i j d second order within)

-- ---- sorted rounds

pub ordered_from_sorted : (rounds : List KeptRound) → AllPairs AreApart rounds → IsSortedBy (λ x y. is_lt (round_cmp x y)) rounds → AllPairs StandsBefore rounds
ordered_from_sorted rounds apart sorted i j d order within =
    let x = get_or rounds i d in
    let y = get_or rounds j d in
    let far : is_lt (round_cmp y x) ≡ false = sorted_far (λ u v. is_lt (round_cmp u v)) (ranks_by round_total (λ (r : KeptRound). r)) rounds sorted i j d (omega arith) within in
    stands x y (nat_cmp y.start x.start) (nat_cmp y.level x.level) (int_cmp x.before y.before) refl refl refl far (apart i j d order within)

-- ---- a trace's rounds are apart

apart_from_stands : (x y : KeptRound) → StandsBefore x y → AreApart x y
apart_from_stands x y (inl less) start level before = omega (arith, less, start)
apart_from_stands x y (inr later) start level before = elim later.1 [
  | inl less ↦ omega (arith, less, level)
  | inr cost ↦ let falls = cost.1 in omega (arith, ints, falls, before)
]

-- the rounds of some levels, and those of the levels below them
pub all_apart : AreLaws → (forward : ForwardIndex) (limits : Limits) (level more : ℕ) (cell : List ℕ) (cells into : List (List ℕ)) (trace others : List KeptRound) → 0 < limits.leaf → IsStrictlyIncreasing cell → IsBisected forward limits level cell cells trace
    → AreBisected forward limits more level 0 cells into others → AllPairs AreApart (trace ++ others)
all_apart laws forward limits level more cell cells into trace others some rising is are =
    let one = laws.add forward limits level more cell cells into trace others rising is are in
    let stand = laws.stand forward limits (level + more) cell into one.all some rising one.is_bisected in
    let apart : AllPairs AreApart one.all = λ i j d order within. apart_from_stands (get_or one.all i d) (get_or one.all j d) (stand.ordered i j d order within) in
    apart_permutation one.all (trace ++ others) (IsPermutation-sym (trace ++ others) one.all one.same) apart
