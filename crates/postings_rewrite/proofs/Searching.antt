-- Rising numbers: what is below one of them.
use Rattle.std.proofs.Common.{◌≡◌, ℕ, ◌<◌, ◌≤◌, List, length, get_or, ap, inl, inr, arith}
use Rattle.std.specs.List.Sorted.{IsStrictlyIncreasing}
use Rattle.std.proofs.lemmas.Bool.{cases_lt}
use Rattle.std.proofs.lemmas.List.Kept.{AllPairs-from_increasing}

pub not_above : (numbers : List ℕ) (i j : ℕ) → IsStrictlyIncreasing numbers → i ≤ j → j < length numbers → get_or numbers i 0 ≤ get_or numbers j 0
not_above numbers i j rising order within =
    elim (cases_lt i j) [
      | inl less ↦ omega (arith, AllPairs-from_increasing numbers rising i j 0 less within)
      | inr more ↦ let same : i ≡ j = omega arith in omega (arith, ap (λ (k : ℕ). get_or numbers k 0) same)
    ]
