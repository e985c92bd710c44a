-- Degrees and the cost of two halves (L. Dhulipala and others, "Compressing Graphs and Indexes with
-- Recursive Graph Bisection", KDD 2016, section 3.2), with the logarithm in fixed point.
-- A half is a list of places of a forward index.
use Rattle.std.specs.Prelude.{ℕ, ◌+◌, ℤ, pos, ◌+ℤ◌, ◌-ℤ◌, ◌*ℤ◌, Bool, List, length, count_by, nat_eq}
use Rattle.std.specs.List.{range_with_len, list_any}
use Rattle.fixed_log.specs.Log.{lg}
use Rattle.forward_index.specs.Forward.{ForwardIndex, row_at}
use Rattle.degrees.specs.Sums.{total_by}

-- whether the row has the term
abbrev pub has_term : List ℕ → ℕ → Bool
has_term row term = list_any (λ entry. nat_eq entry term) row

-- the degree of a term in a half: how many of its documents have it
abbrev pub degree : ForwardIndex → List ℕ → ℕ → ℕ
degree forward half term = count_by (λ place. has_term (row_at forward.rows place) term) half

-- what a term costs in a half of n documents in which it has the degree d: d (log n - log (d + 1))
unfoldable pub part : ℕ → ℕ → ℤ
part d n = pos d *ℤ (pos (lg n) -ℤ pos (lg (d + 1)))

-- what the terms below a number cost in two halves of m and n documents, by their degrees there
abbrev pub cost_by : ℕ → (ℕ → ℕ) → (ℕ → ℕ) → ℕ → ℕ → ℤ
cost_by terms a b m n =
    total_by (λ term. part (a term) m +ℤ part (b term) n) (range_with_len 0 terms)

-- the cost of two halves
abbrev pub cost : ForwardIndex → List ℕ → List ℕ → ℤ
cost forward a b =
    cost_by forward.terms (degree forward a) (degree forward b) (length a) (length b)
