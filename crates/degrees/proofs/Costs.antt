-- The cost of a table as far as a loop has come.
use Rattle.std.proofs.Common.{◌≡◌, ℕ, ◌+◌, ◌*◌, ◌^◌, ◌<◌, ◌≤◌, ℤ, pos, ◌+ℤ◌, ◌-ℤ◌, ◌≤ℤ◌, List, length, get_or, take, sum, sum_by, inl, inr, refl, sym, ap, ◌∙◌, arith}
use Rattle.std.proofs.Math.IntN.{zero-*ℤ}
use Rattle.std.proofs.lemmas.Bool.{cases_eq}
use Rattle.std.proofs.lemmas.Int.{ints}
use Rattle.std.proofs.lemmas.List.Sums.{sum_by_more, sum_by-take-le}
use Rattle.fixed_log.specs.Log.{lg}
use Rattle.degrees.specs.Sums.{total_by}
use Rattle.degrees.specs.Cost.{part, cost_by}
use Rattle.degrees.specs.Steps.{Both}
use Rattle.degrees.specs.Kept.{AreTouched}
use Rattle.degrees.proofs.Distinct.{places_within, sum_by_plus}
use Rattle.degrees.proofs.Touched.{of_term}
use Rattle.degrees.proofs.Total.{total_nil, total_more, total_over}

-- what a term costs
abbrev pub term_cost : Both → ℕ → ℕ → ℕ → ℤ
term_cost both m n term = part (get_or both.a term 0) m +ℤ part (get_or both.b term 0) n

pub part_none : (n : ℕ) → part 0 n ≡ pos 0
unfolding part
part_none n = zero-*ℤ (pos (lg n) -ℤ pos (lg (0 + 1)))

-- the counts of the first touched terms
abbrev pub weight : Both → List ℕ → ℕ → ℕ
weight both touched i = sum_by (of_term both) (take i touched)

-- the cost of the first touched terms, which their counts bound
pub record IsCostTo (both : Both) (m n : ℕ) (touched : List ℕ) (i : ℕ) (cost : ℤ) : Type 0 where
  pub sum : cost ≡ total_by (term_cost both m n) (take i touched)
  pub high : cost ≤ℤ pos (weight both touched i * 2 ^ 22)
  pub low : (pos 0 -ℤ pos (weight both touched i * 2 ^ 22)) ≤ℤ cost

pub IsCostTo-start : (both : Both) (m n : ℕ) (touched : List ℕ) → IsCostTo both m n touched 0 (pos 0)
IsCostTo-start both m n touched = record {
  sum = sym (total_nil (term_cost both m n));
  high = omega (arith, ints);
  low = omega (arith, ints);
}

pub IsCostTo-more : (both : Both) (m n : ℕ) (touched : List ℕ) (i : ℕ) (cost x y next : ℤ) → i < length touched
    → IsCostTo both m n touched i cost
    → x ≡ part (get_or both.a (get_or touched i 0) 0) m → y ≡ part (get_or both.b (get_or touched i 0) 0) n
    → x ≤ℤ pos (get_or both.a (get_or touched i 0) 0 * 2 ^ 22) → y ≤ℤ pos (get_or both.b (get_or touched i 0) 0 * 2 ^ 22)
    → (pos 0 -ℤ pos (get_or both.a (get_or touched i 0) 0 * 2 ^ 22)) ≤ℤ x → (pos 0 -ℤ pos (get_or both.b (get_or touched i 0) 0 * 2 ^ 22)) ≤ℤ y
    → next ≡ cost +ℤ (x +ℤ y) → IsCostTo both m n touched (i + 1) next
IsCostTo-more both m n touched i cost x y next within h is_x is_y high_x high_y low_x low_y is_next =
    let more : weight both touched (i + 1) ≡ weight both touched i + of_term both (get_or touched i 0) = sum_by_more (of_term both) touched i 0 within in
    let total = total_more (term_cost both m n) touched i 0 within in
    record {
      sum = omega (arith, ints, h.sum, total);
      high = omega (arith, ints, h.high);
      low = omega (arith, ints, h.low);
    }

-- the counts of touched terms are within all counts
pub weight_within : (both : Both) (touched : List ℕ) (i : ℕ) → AreTouched both touched → length both.b ≡ length both.a
    → weight both touched i ≤ sum both.a + sum both.b
weight_within both touched i h len =
    let in_a : ℕ → ℕ = λ p. get_or both.a p 0 in
    let in_b : ℕ → ℕ = λ p. get_or both.b p 0 in
    let front : sum_by (of_term both) (take i touched) ≤ sum_by (of_term both) touched = sum_by-take-le (of_term both) touched i in
    let split : sum_by (of_term both) touched ≡ sum_by in_a touched + sum_by in_b touched = sum_by_plus in_a in_b touched in
    let a : sum_by in_a touched ≤ sum both.a = places_within (λ (x : ℕ). x) 0 refl touched both.a h.below h.different in
    let b : sum_by in_b touched ≤ sum both.b = places_within (λ (x : ℕ). x) 0 refl touched both.b (λ k d lt. omega (arith, len, h.below k d lt)) h.different in
    omega arith

-- terms that aren't touched cost nothing
pub cost_of_touched : (both : Both) (m n : ℕ) (touched : List ℕ) → AreTouched both touched
    → total_by (term_cost both m n) touched ≡ cost_by (length both.a) (λ (term : ℕ). get_or both.a term 0) (λ (term : ℕ). get_or both.b term 0) m n
cost_of_touched both m n touched h =
    total_over (term_cost both m n) touched (length both.a) h.below h.different (λ term low out.
    elim (cases_eq (of_term both term) 0) [
      | inl none ↦
          let a : part (get_or both.a term 0) m ≡ pos 0 = ap (λ (k : ℕ). part k m) (omega arith) ∙ part_none m in
          let b : part (get_or both.b term 0) n ≡ pos 0 = ap (λ (k : ℕ). part k n) (omega arith) ∙ part_none n in
          omega (arith, ints)
      | inr some ↦ absurd (out (h.each term low (omega arith)))
    ])
