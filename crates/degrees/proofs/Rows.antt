-- The counts after the first terms of a row, and after the first places of a half.
use Rattle.std.proofs.Common.{◌≡◌, ◌≢◌, ◌||◌, ℕ, ◌+◌, ◌-◌, ◌<◌, ◌≤◌, Bool, true, false, cond, nat_eq, List, [], length, get_or, set, take, replicate, inl, inr, slice_get, Some, refl, sym, subst, ap, ◌∙◌, arith}
use Rattle.std.specs.List.Sorted.{IsStrictlyIncreasing}
use Rattle.std.proofs.lemmas.Bool.{cases_eq}
use Rattle.std.proofs.lemmas.Bool.Decides.{nat_tests}
use Rattle.std.proofs.lemmas.Grind.{same_number_lists}
use Rattle.std.proofs.lemmas.List.{length-set, length-take-le, length-replicate, get_or-take, get_or-set_same, get_or-set_other, get_or-replicate, get_or_default}
use Rattle.std.proofs.lemmas.List.FromFn.{length-map-range_with_len, get_or-map-range_with_len}
use Rattle.std.proofs.lemmas.List.Folds.{list_any_none, list_any_more}
use Rattle.std.proofs.lemmas.List.Kept.{AllPairs-from_increasing}
use Rattle.std.proofs.lemmas.List.Sums.{sum_by_more, count_by-le-length}
use Rattle.std.proofs.lemmas.Option.{slice_get-get_or, same_Some}
use Rattle.forward_index.specs.Forward.{ForwardIndex, IsForward, IsRow, row_at}
use Rattle.degrees.specs.Cost.{has_term, degree}
use Rattle.degrees.specs.Counts.{degrees_of, with_less, with_more}
use Rattle.degrees.specs.Steps.{one_more, one_less}

-- 1 where the row has the term
abbrev pub one_if : List ℕ → ℕ → ℕ
one_if row term = cond (has_term row term) 1 0

pub not_equal : (a b : ℕ) → a ≢ b → nat_eq a b ≡ false
not_equal a b unlike = grind (arith, nat_tests)

pub equal : (a : ℕ) → nat_eq a a ≡ true
equal a = grind (arith, nat_tests)

pub more_at : (row counts : List ℕ) (k : ℕ) → k < length counts → get_or (with_more row counts) k 0 ≡ get_or counts k 0 + one_if row k
more_at row counts k lt = get_or-map-range_with_len (λ (term : ℕ). get_or counts term 0 + one_if row term) 0 (length counts) k k 0 lt (omega arith)

pub more_len : (row counts : List ℕ) → length (with_more row counts) ≡ length counts
more_len row counts = length-map-range_with_len (λ (term : ℕ). get_or counts term 0 + one_if row term) 0 (length counts)

pub less_at : (row counts : List ℕ) (k : ℕ) → k < length counts → get_or (with_less row counts) k 0 ≡ get_or counts k 0 - one_if row k
less_at row counts k lt = get_or-map-range_with_len (λ (term : ℕ). get_or counts term 0 - one_if row term) 0 (length counts) k k 0 lt (omega arith)

pub less_len : (row counts : List ℕ) → length (with_less row counts) ≡ length counts
less_len row counts = length-map-range_with_len (λ (term : ℕ). get_or counts term 0 - one_if row term) 0 (length counts)

pub more_none : (row counts : List ℕ) → with_more (take 0 row) counts ≡ counts
more_none row counts = same_number_lists (with_more [] counts) counts (more_len [] counts)
    (λ k lt. let low : k < length counts = omega (arith, more_len [] counts) in omega (arith, more_at [] counts k low))

pub less_none : (row counts : List ℕ) → with_less (take 0 row) counts ≡ counts
less_none row counts = same_number_lists (with_less [] counts) counts (less_len [] counts)
    (λ k lt. let low : k < length counts = omega (arith, less_len [] counts) in omega (arith, less_at [] counts k low))

-- the next term of a row doesn't stand before
pub one_before : (row : List ℕ) (i : ℕ) → IsStrictlyIncreasing row → i < length row → one_if (take i row) (get_or row i 0) ≡ 0
one_before row i rising within =
    let term = get_or row i 0 in
    let none : has_term (take i row) term ≡ false = list_any_none (λ (entry : ℕ). nat_eq entry term) (take i row) (λ k d lt.
    let before : k < i = omega (arith, length-take-le {A = ℕ} i row (omega arith)) in
    let here : get_or row k d < get_or row i d = AllPairs-from_increasing row rising k i d before within in
    not_equal (get_or (take i row) k d) term (λ same. omega (arith, here, get_or-take i row k d before, get_or_default row i d 0 within))) in
    ap (λ (b : Bool). cond b 1 0) none

one_front : (row : List ℕ) (i k : ℕ) → i < length row → has_term (take (i + 1) row) k ≡ (has_term (take i row) k || nat_eq (get_or row i 0) k)
one_front row i k within = list_any_more (λ (entry : ℕ). nat_eq entry k) row i 0 within

or_true : (b : Bool) → (b || true) ≡ true
or_true true = refl
or_true false = refl

or_false : (b : Bool) → (b || false) ≡ b
or_false true = refl
or_false false = refl

pub one_here : (row : List ℕ) (i : ℕ) → i < length row → one_if (take (i + 1) row) (get_or row i 0) ≡ 1
one_here row i within =
    let term = get_or row i 0 in
    ap (λ (b : Bool). cond b 1 0) (one_front row i term within ∙ ap (λ (b : Bool). has_term (take i row) term || b) (equal term) ∙ or_true (has_term (take i row) term))

pub one_other : (row : List ℕ) (i k : ℕ) → i < length row → k ≢ get_or row i 0 → one_if (take (i + 1) row) k ≡ one_if (take i row) k
one_other row i k within unlike =
    ap (λ (b : Bool). cond b 1 0) (one_front row i k within
    ∙ ap (λ (b : Bool). has_term (take i row) k || b) (not_equal (get_or row i 0) k (λ same. unlike (sym same))) ∙ or_false (has_term (take i row) k))

-- one term of a row more
pub more_step : (row counts : List ℕ) (i : ℕ) → IsStrictlyIncreasing row → i < length row → get_or row i 0 < length counts
    → with_more (take (i + 1) row) counts ≡ one_more (with_more (take i row) counts) (get_or row i 0)
more_step row counts i rising within low =
    let term = get_or row i 0 in
    let old = with_more (take i row) counts in
    let new = with_more (take (i + 1) row) counts in
    let value = get_or old term 0 + 1 in
    let old_len : length old ≡ length counts = more_len (take i row) counts in
    let new_len : length new ≡ length counts = more_len (take (i + 1) row) counts in
    let set_len : length (set old term value) ≡ length old = length-set old term value in
    same_number_lists new (set old term value) (omega arith) (λ k lt.
    let inside : k < length counts = omega arith in
    let before : get_or old k 0 ≡ get_or counts k 0 + one_if (take i row) k = more_at (take i row) counts k inside in
    let after : get_or new k 0 ≡ get_or counts k 0 + one_if (take (i + 1) row) k = more_at (take (i + 1) row) counts k inside in
    elim (cases_eq k term) [
      | inl here ↦
          let set_at : get_or (set old term value) k 0 ≡ value = ap (λ (n : ℕ). get_or (set old term value) n 0) here ∙ get_or-set_same old term value 0 (omega arith) in
          omega (arith, one_here row i within, one_before row i rising within, ap (one_if (take (i + 1) row)) here, ap (one_if (take i row)) here, ap (λ (n : ℕ). get_or old n 0) here)
      | inr unlike ↦ omega (arith, one_other row i k within unlike, get_or-set_other old term k value 0 unlike)
    ])

pub less_step : (row counts : List ℕ) (i : ℕ) → IsStrictlyIncreasing row → i < length row → get_or row i 0 < length counts
    → with_less (take (i + 1) row) counts ≡ one_less (with_less (take i row) counts) (get_or row i 0)
less_step row counts i rising within low =
    let term = get_or row i 0 in
    let old = with_less (take i row) counts in
    let new = with_less (take (i + 1) row) counts in
    let value = get_or old term 0 - 1 in
    let old_len : length old ≡ length counts = less_len (take i row) counts in
    let new_len : length new ≡ length counts = less_len (take (i + 1) row) counts in
    let set_len : length (set old term value) ≡ length old = length-set old term value in
    same_number_lists new (set old term value) (omega arith) (λ k lt.
    let inside : k < length counts = omega arith in
    let before : get_or old k 0 ≡ get_or counts k 0 - one_if (take i row) k = less_at (take i row) counts k inside in
    let after : get_or new k 0 ≡ get_or counts k 0 - one_if (take (i + 1) row) k = less_at (take (i + 1) row) counts k inside in
    elim (cases_eq k term) [
      | inl here ↦
          let set_at : get_or (set old term value) k 0 ≡ value = ap (λ (n : ℕ). get_or (set old term value) n 0) here ∙ get_or-set_same old term value 0 (omega arith) in
          omega (arith, one_here row i within, one_before row i rising within, ap (one_if (take (i + 1) row)) here, ap (one_if (take i row)) here, ap (λ (n : ℕ). get_or old n 0) here)
      | inr unlike ↦ omega (arith, one_other row i k within unlike, get_or-set_other old term k value 0 unlike)
    ])

-- before the next term its counts are as at first
pub more_before : (row counts : List ℕ) (i : ℕ) → IsStrictlyIncreasing row → i < length row → get_or row i 0 < length counts
    → get_or (with_more (take i row) counts) (get_or row i 0) 0 ≡ get_or counts (get_or row i 0) 0
more_before row counts i rising within low = omega (arith, more_at (take i row) counts (get_or row i 0) low, one_before row i rising within)

pub less_before : (row counts : List ℕ) (i : ℕ) → IsStrictlyIncreasing row → i < length row → get_or row i 0 < length counts
    → get_or (with_less (take i row) counts) (get_or row i 0) 0 ≡ get_or counts (get_or row i 0) 0
less_before row counts i rising within low = omega (arith, less_at (take i row) counts (get_or row i 0) low, one_before row i rising within)

-- ---- degrees

pub degrees_at : (forward : ForwardIndex) (half : List ℕ) (k : ℕ) → k < forward.terms → get_or (degrees_of forward half) k 0 ≡ degree forward half k
degrees_at forward half k lt = get_or-map-range_with_len (degree forward half) 0 forward.terms k k 0 lt (omega arith)

pub degrees_len : (forward : ForwardIndex) (half : List ℕ) → length (degrees_of forward half) ≡ forward.terms
degrees_len forward half = length-map-range_with_len (degree forward half) 0 forward.terms

pub degrees_none : (forward : ForwardIndex) (half : List ℕ) → degrees_of forward (take 0 half) ≡ replicate forward.terms 0
degrees_none forward half =
    let zeros : List ℕ = replicate forward.terms 0 in
    let len : length zeros ≡ forward.terms = length-replicate {A = ℕ} forward.terms 0 in
    same_number_lists (degrees_of forward []) zeros (degrees_len forward [] ∙ sym len) (λ k lt.
    let low : k < forward.terms = omega (arith, degrees_len forward []) in
    let zero : get_or zeros k 0 ≡ 0 = get_or-replicate {A = ℕ} forward.terms k 0 0 low in
    omega (arith, degrees_at forward [] k low))

-- one place of a half more
pub degrees_step : (forward : ForwardIndex) (half : List ℕ) (i : ℕ) → i < length half
    → degrees_of forward (take (i + 1) half) ≡ with_more (row_at forward.rows (get_or half i 0)) (degrees_of forward (take i half))
degrees_step forward half i within =
    let row = row_at forward.rows (get_or half i 0) in
    let old = degrees_of forward (take i half) in
    let new = degrees_of forward (take (i + 1) half) in
    let old_len : length old ≡ forward.terms = degrees_len forward (take i half) in
    let new_len : length new ≡ forward.terms = degrees_len forward (take (i + 1) half) in
    let more : length (with_more row old) ≡ length old = more_len row old in
    same_number_lists new (with_more row old) (omega arith) (λ k lt.
    let low : k < forward.terms = omega arith in
    let step : degree forward (take (i + 1) half) k ≡ degree forward (take i half) k + one_if row k =
    sum_by_more (λ (place : ℕ). one_if (row_at forward.rows place) k) half i 0 within in
    omega (arith, degrees_at forward (take i half) k low, degrees_at forward (take (i + 1) half) k low, more_at row old k (omega arith)))

pub degree_le : (forward : ForwardIndex) (half : List ℕ) (term : ℕ) → degree forward half term ≤ length half
degree_le forward half term = count_by-le-length (λ (place : ℕ). has_term (row_at forward.rows place) term) half

-- ---- the rows of a forward index

pub row_read : (rows : List (List ℕ)) (place : ℕ) (row : List ℕ) → place < length rows → slice_get rows place ≡ Some row → row_at rows place ≡ row
row_read rows place row low read = same_Some (row_at rows place) row (sym (slice_get-get_or rows place [] low) ∙ read)

pub row_is : (forward : ForwardIndex) (place : ℕ) (row : List ℕ) → IsForward forward → place < length forward.rows → slice_get forward.rows place ≡ Some row → IsRow forward.terms row
row_is forward place row sound low read = subst (IsRow forward.terms) (row_read forward.rows place row low read) (sound.rows place [] low)
