-- A table of degrees: for each term a count in each of two halves, and the halves' sizes.
use Rattle.std.specs.Prelude.{◌≡◌, ℕ, ◌+◌, ◌-◌, ◌^◌, ◌<◌, ℤ, min, if◌then◌else◌, List, length, map, replicate, slice_index, sum, All}
use Rattle.std.specs.List.{range_with_len}
use Rattle.rgb_base.specs.declared.parts.Side.{Side}
use Rattle.rgb_base.specs.declared.parts.Side.TheVariants.{A, B}
use Rattle.forward_index.specs.Forward.{ForwardIndex}
use Rattle.degrees.specs.Cost.{has_term, degree, cost_by}

-- the counts by term, the sizes, and how often the table was loaded
pub record Counted : Type 0 where
  pub a : List ℕ
  pub b : List ℕ
  pub len_a : ℕ
  pub len_b : ℕ
  pub loads : ℕ

-- what each table keeps
pub record IsCounted (table : Counted) : Type 0 where
  pub few_terms : length table.a < 2 ^ 32
  pub len : length table.b ≡ length table.a
  pub len_a : table.len_a < 2 ^ 31
  pub len_b : table.len_b < 2 ^ 31
  pub both : (term : ℕ) → term < length table.a
      → slice_index table.a term + slice_index table.b term < 2 ^ 31
  pub few : sum table.a + sum table.b < 2 ^ 32
  pub loads : table.loads < 2 ^ 64

-- all counts and sizes are 0
abbrev pub cleared : ℕ → ℕ → Counted
cleared terms loads = record {
  a = replicate terms 0;
  b = replicate terms 0;
  len_a = 0;
  len_b = 0;
  loads = loads;
}

abbrev pub degrees_of : ForwardIndex → List ℕ → List ℕ
degrees_of forward half = map (degree forward half) (range_with_len 0 forward.terms)

-- the counts are the degrees of two halves
abbrev pub loaded : ForwardIndex → List ℕ → List ℕ → ℕ → Counted
loaded forward a b loads = record {
  a = degrees_of forward a;
  b = degrees_of forward b;
  len_a = length a;
  len_b = length b;
  loads = loads;
}

-- one load more, as far as 64 bits count
unfoldable pub one_load_more : ℕ → ℕ
one_load_more loads = min (loads + 1) (2 ^ 64 - 1)

-- ---- a document is moved across

-- the counts with one less, or one more, for each term of the row
abbrev pub with_less : List ℕ → List ℕ → List ℕ
with_less row counts =
    map (λ term. slice_index counts term - (if has_term row term then 1 else 0))
    (range_with_len 0 (length counts))

abbrev pub with_more : List ℕ → List ℕ → List ℕ
with_more row counts =
    map (λ term. slice_index counts term + (if has_term row term then 1 else 0))
    (range_with_len 0 (length counts))

abbrev pub counts_in : Side → Counted → List ℕ
counts_in A table = table.a
counts_in B table = table.b

-- each term of the row has a count of at least 1 in that half
abbrev pub IsCountedIn : Side → List ℕ → Counted → Type 0
IsCountedIn side row table = All (λ term. 0 < slice_index (counts_in side table) term) row

-- one is taken from each term of the row in the half, and added in the other
unfoldable pub moved_across : Side → List ℕ → Counted → Counted
moved_across A row table =
    record table { a = with_less row table.a; b = with_more row table.b }
moved_across B row table =
    record table { a = with_more row table.a; b = with_less row table.b }

-- ---- what a table costs

-- the cost by the counts and sizes of the table
abbrev pub cost_of : Counted → ℤ
cost_of table =
    cost_by (length table.a) (slice_index table.a) (slice_index table.b) table.len_a table.len_b

-- all counts and both sizes are below the number
pub record AreBelow (top : ℕ) (table : Counted) : Type 0 where
  pub a : All (λ count. count < top) table.a
  pub b : All (λ count. count < top) table.b
  pub len_a : table.len_a < top
  pub len_b : table.len_b < top
