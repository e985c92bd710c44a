-- The documents of a cell, and their places of the whole.
use Rattle.std.proofs.Common.{◌≡◌, ℕ, ◌+◌, ◌<◌, List, [], ◌∷◌, length, get_or, map, All, Contains, refl, sym, subst, ap, ◌∙◌, inl, inr, arith}
use Rattle.std.specs.Prelude.{slice_index}
use Rattle.std.specs.List.Sorted.{IsStrictlyIncreasing}
use Rattle.std.proofs.lemmas.Bool.{cases_eq, cases_lt}
use Rattle.std.proofs.lemmas.List.{length-map, get_or-map, get_or_default}
use Rattle.std.proofs.lemmas.List.Elements.{All-head, All-tail, All-cons, All-contains, Contains-get_or}
use Rattle.std.proofs.lemmas.List.Kept.{AllPairs-from_increasing}

-- documents of the cell with these places
abbrev pub AreIn : List ℕ → List ℕ → Type 0
AreIn places documents = All (λ k. k < length places) documents

-- their places
abbrev pub through : List ℕ → List ℕ → List ℕ
through places documents = map (slice_index places) documents

-- ---- places rise

pub place_less : (places : List ℕ) → IsStrictlyIncreasing places → (i j : ℕ) → i < j → j < length places → slice_index places i < slice_index places j
place_less places rising i j order within = AllPairs-from_increasing places rising i j 0 order within

pub place_one : (places : List ℕ) → IsStrictlyIncreasing places → (i j : ℕ) → i < length places → j < length places → slice_index places i ≡ slice_index places j → i ≡ j
place_one places rising i j low_i low_j same =
    elim (cases_eq i j) [
      | inl here ↦ here
      | inr unlike ↦
          elim (cases_lt i j) [
            | inl below ↦ absurd (omega (arith, place_less places rising i j below low_j))
            | inr above ↦ absurd (omega (arith, place_less places rising j i (omega arith) low_i))
          ]
    ]

pub place_order : (places : List ℕ) → IsStrictlyIncreasing places → (i j : ℕ) → i < length places → j < length places → slice_index places i < slice_index places j → i < j
place_order places rising i j low_i low_j less =
    elim (cases_eq i j) [
      | inl here ↦ absurd (omega (arith, less, ap (slice_index places) here))
      | inr unlike ↦
          elim (cases_lt i j) [
            | inl below ↦ below
            | inr above ↦ absurd (omega (arith, less, place_less places rising j i (omega arith) low_i))
          ]
    ]

pub rising_through : (places : List ℕ) → IsStrictlyIncreasing places → (documents : List ℕ) → AreIn places documents → IsStrictlyIncreasing documents → IsStrictlyIncreasing (through places documents)
rising_through places rising documents inside up k within =
    let next : k + 1 < length documents = omega (arith, within, length-map documents (slice_index places)) in
    let here : get_or (through places documents) k 0 ≡ slice_index places (get_or documents k 0) = get_or-map (slice_index places) documents k 0 0 (omega arith) in
    let after : get_or (through places documents) (k + 1) 0 ≡ slice_index places (get_or documents (k + 1) 0) = get_or-map (slice_index places) documents (k + 1) 0 0 next in
    omega (arith, here, after, place_less places rising (get_or documents k 0) (get_or documents (k + 1) 0) (up k next) (inside (k + 1) 0 next))

pub rising_back : (places : List ℕ) → IsStrictlyIncreasing places → (documents : List ℕ) → AreIn places documents → IsStrictlyIncreasing (through places documents) → IsStrictlyIncreasing documents
rising_back places rising documents inside up k next =
    let here : get_or (through places documents) k 0 ≡ slice_index places (get_or documents k 0) = get_or-map (slice_index places) documents k 0 0 (omega arith) in
    let after : get_or (through places documents) (k + 1) 0 ≡ slice_index places (get_or documents (k + 1) 0) = get_or-map (slice_index places) documents (k + 1) 0 0 next in
    let less = up k (omega (arith, next, length-map documents (slice_index places))) in
    place_order places rising (get_or documents k 0) (get_or documents (k + 1) 0) (inside k 0 (omega arith)) (inside (k + 1) 0 next) (omega (arith, here, after, less))

-- ---- members

pub there : (places documents : List ℕ) (k : ℕ) → Contains documents k → Contains (through places documents) (slice_index places k)
there places documents k (i, within, at) = (
  i,
  omega (arith, within, length-map documents (slice_index places)),
  get_or-map (slice_index places) documents i k (slice_index places k) within ∙ ap (slice_index places) at,
)

pub from_there : (places documents : List ℕ) (place : ℕ) → Contains (through places documents) place → (k : ℕ) × Contains documents k × (slice_index places k ≡ place)
from_there places documents place (i, within, at) =
    let low : i < length documents = omega (arith, within, length-map documents (slice_index places)) in
    (get_or documents i 0, Contains-get_or documents i 0 low, sym (get_or-map (slice_index places) documents i 0 place low) ∙ at)

pub back : (places : List ℕ) → IsStrictlyIncreasing places → (documents : List ℕ) → AreIn places documents → (k : ℕ) → k < length places → Contains (through places documents) (slice_index places k) → Contains documents k
back places rising documents inside k low at =
    let found = from_there places documents (slice_index places k) at in
    let low_found = All-contains (λ (j : ℕ). j < length places) documents found.0 inside found.1 in
    subst (Contains documents) (place_one places rising found.0 k low_found low found.2) found.1

pub is_place : (places : List ℕ) (k place : ℕ) → k < length places → slice_index places k ≡ place → Contains places place
is_place places k place low at = (k, low, get_or_default places k place 0 low ∙ at)

-- a list of places is that of some documents
pub pulled : (places list : List ℕ) → All (Contains places) list → (documents : List ℕ) × AreIn places documents × (through places documents ≡ list)
pulled places [] each = ([], (λ k d within. absurd (omega (arith, within))), refl)
pulled places (place ∷ list) each =
    let rest = pulled places list (All-tail (Contains places) place list each) in
    let here = All-head (Contains places) place list each in
    let at : slice_index places here.0 ≡ place = get_or_default places here.0 0 place here.1 ∙ here.2 in (
      here.0 ∷ rest.0,
      All-cons (λ k. k < length places) here.0 rest.0 here.1 rest.1,
      ap (λ (x : ℕ). x ∷ through places rest.0) at ∙ ap (λ (xs : List ℕ). place ∷ xs) rest.2,
    )
