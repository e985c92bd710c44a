-- Facts about lists: whether one has an entry, that different numbers below their count are all numbers, and rows.
use Rattle.std.proofs.Common.{◌≡◌, ◌≢◌, ◌⊎◌, ℕ, zero, suc, ◌<◌, List, [], ◌∷◌, length, get_or, refl, sym, ap, ◌∙◌, arith, inl, inr}
use Rattle.std.specs.List.{All, AllPairs, Contains}
use Rattle.std.proofs.lemmas.Bool.{eqb-true, cases_eq}
use Rattle.std.proofs.lemmas.Bool.Decides.{Decides-eqb}
use Rattle.std.proofs.lemmas.List.Elements.{All-cons, All-nil, All-contains}
use Rattle.std.proofs.lemmas.List.Kept.{AllPairs-cons}
use Rattle.std.proofs.lemmas.Map.Made.{IsDistinct-from_AllPairs}
use Rattle.std.proofs.lemmas.Map.Views.{Contains-from_any}
use Rattle.std.proofs.lemmas.Map.Steps.{length-le_from_distinct_below}
use Rattle.ciff_format.specs.Messages.{InARow}

-- ---- entries

-- equality is decided
abbrev pub IsDecided : Type 0 → Type 0
IsDecided A = (a b : A) → (a ≡ b) ⊎ (a ≢ b)

found_behind : {A : Type 0} (y : A) (ys : List A) (x : A) → y ≢ x → ¬ Contains ys x → (k : ℕ) → k < length (y ∷ ys) → get_or (y ∷ ys) k x ≡ x → ⊥
found_behind y ys x other none zero lt is = other is
found_behind y ys x other none (suc k) lt is = none (k, omega (arith, lt), is)

pub decide_contains : {A : Type 0} → IsDecided A → (xs : List A) (x : A) → Contains xs x ⊎ (¬ Contains xs x)
decide_contains decide [] x = inr (λ found. omega (arith, found.1))
decide_contains decide (y ∷ ys) x =
    elim (decide y x) [
      | inl same ↦ inl (0, omega arith, same)
      | inr other ↦ elim (decide_contains decide ys x) [
        | inl found ↦ inl (suc found.0, omega (arith, found.1), found.2)
        | inr none ↦ inr (λ found. found_behind y ys x other none found.0 found.1 found.2)
      ]
    ]

pub decide_number : IsDecided ℕ
decide_number a b = elim (cases_eq a b) [ inl same ↦ inl same | inr other ↦ inr other ]

pub decide_text : IsDecided (List ℕ)
decide_text [] [] = inl refl
decide_text [] (b ∷ bs) = inr (λ e. omega (arith, ap length e))
decide_text (a ∷ xs) [] = inr (λ e. omega (arith, ap length e))
decide_text (a ∷ xs) (b ∷ bs) =
    elim (decide_number a b) [
      | inl same ↦ elim (decide_text xs bs) [
        | inl rest ↦ inl (ap (λ (n : ℕ). n ∷ xs) same ∙ ap (λ (ys : List ℕ). b ∷ ys) rest)
        | inr other ↦ inr (λ e. let rest : xs ≡ bs = cc in other rest)
      ]
      | inr other ↦ inr (λ e. let first : a ≡ b = cc in other first)
    ]

-- ---- different numbers below their count

all_but : (xs : List ℕ) (count n : ℕ) → AllPairs (λ a b. a ≢ b) xs → All (λ x. x < count) xs → length xs ≡ count → n < count → ¬ Contains xs n → ⊥
all_but xs count n apart below len lt none =
    let pairs : AllPairs (λ a b. a ≢ b) (n ∷ xs) = AllPairs-cons (λ (a b : ℕ). a ≢ b) n xs (λ k d within same. none (k, within, other_default xs k d n within ∙ sym same)) apart in
    let small : All (λ x. x < count) (n ∷ xs) = All-cons (λ x. x < count) n xs lt below in
    let most = length-le_from_distinct_below (n ∷ xs) count (IsDistinct-from_AllPairs Decides-eqb (n ∷ xs) pairs)
    (λ q found. All-contains (λ x. x < count) (n ∷ xs) q small (Contains-from_any (λ a b. eqb-true a b) q (n ∷ xs) found)) in
    omega (arith, most, len)
  where
    other_default : (ys : List ℕ) (k d e : ℕ) → k < length ys → get_or ys k e ≡ get_or ys k d
    other_default [] k d e within = absurd (omega (arith, within))
    other_default (y ∷ ys) zero d e within = refl
    other_default (y ∷ ys) (suc k) d e within = other_default ys k d e (omega (arith, within))

pub all_numbers : (xs : List ℕ) (count n : ℕ) → AllPairs (λ a b. a ≢ b) xs → All (λ x. x < count) xs → length xs ≡ count → n < count → Contains xs n
all_numbers xs count n apart below len lt =
    elim (decide_contains decide_number xs n) [ inl found ↦ found | inr none ↦ absurd (all_but xs count n apart below len lt none) ]

-- ---- rows

-- what holds of whatever stands somewhere holds of each in a row
pub row_all : {A : Type 0} (Stands : ℕ → A → ℕ → Type 0) (P : A → Type 0) → ((place : ℕ) (x : A) (next : ℕ) → Stands place x next → P x) → (place next : ℕ) (xs : List A) → InARow Stands place xs next → All P xs
row_all Stands P holds place next [] row = All-nil P
row_all Stands P holds place next (x ∷ xs) row = All-cons P x xs (holds place x row.0 row.1) (row_all Stands P holds row.0 next xs row.2)
