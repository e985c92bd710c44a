-- What the move of a document from one half into the other gains (L. Dhulipala and others,
-- "Compressing Graphs and Indexes with Recursive Graph Bisection", KDD 2016, section 3.2).
use Rattle.std.specs.Prelude.{ℕ, ◌+◌, ◌-◌, ◌<◌, ℤ, ◌+ℤ◌, ◌-ℤ◌, List, length, slice_index}
use Rattle.rgb_base.specs.declared.parts.Side.{Side}
use Rattle.rgb_base.specs.declared.parts.Side.TheVariants.{A, B}
use Rattle.forward_index.specs.Forward.{ForwardIndex, row_at}
use Rattle.degrees.specs.Sums.{total_by}
use Rattle.degrees.specs.Cost.{degree, part}
use Rattle.degrees.specs.Counts.{Counted}

-- What a term of the document costs less by the move out of a half of m documents, where its degree
-- is a, into one of n, where it is b. The sizes are held fixed, since documents are exchanged.
unfoldable pub term_gain : ℕ → ℕ → ℕ → ℕ → ℤ
term_gain m n a b = (part a m +ℤ part b n) -ℤ (part (a - 1) m +ℤ part (b + 1) n)

-- the gain of the document at a place of a half
abbrev pub gain : ForwardIndex → List ℕ → List ℕ → ℕ → ℤ
gain forward half other place =
    total_by (λ term. term_gain (length half) (length other)
    (degree forward half term) (degree forward other term)) (row_at forward.rows place)

-- the same of one term, by the counts and sizes of a table
abbrev pub term_gain_of : Side → Counted → ℕ → ℤ
term_gain_of A table term =
    term_gain table.len_a table.len_b (slice_index table.a term) (slice_index table.b term)
term_gain_of B table term =
    term_gain table.len_b table.len_a (slice_index table.b term) (slice_index table.a term)

-- the gain of a document with this row, by the counts and sizes of a table
abbrev pub gain_of : Side → Counted → List ℕ → ℤ
gain_of side table row = total_by (term_gain_of side table) row

-- Neither half is empty, and the number is more than both sizes, and than both counts of each term
-- together.
pub record IsReady (top : ℕ) (table : Counted) : Type 0 where
  pub some_a : 0 < table.len_a
  pub some_b : 0 < table.len_b
  pub low_a : table.len_a < top
  pub low_b : table.len_b < top
  pub both : (term : ℕ) → term < length table.a
      → slice_index table.a term + slice_index table.b term < top
