-- Bands of documents with neighbouring numbers, by which the lists are read, and what rows have when
-- the documents below a limit are done.
use Rattle.std.specs.Prelude.{◌≡◌, ℕ, ◌+◌, ◌^◌, ◌<◌, ◌≤◌, List, [], length, map, take, drop, slice_get, slice_index, Some, All, cond, nat_le, sum_by}
use Rattle.rgb_base.specs.declared.parts.Posting.{Posting}
use Rattle.rgb_base.specs.declared.parts.TermList.{TermList}
use Rattle.forward_index.specs.declared.bands.Band.{Band}
use Rattle.forward_index.specs.Forward.{row_at}
use Rattle.forward_index.specs.Rows.{kept_times, row_from, begins}

-- at this place the documents of the postings reach the limit
pub record IsPassed (limit : ℕ) (postings : List Posting) (at : ℕ) : Type 0 where
  pub within : at ≤ length postings
  pub below : All (λ posting. posting.doc < limit) (take at postings)
  pub above : All (λ posting. limit ≤ posting.doc) (drop at postings)

-- the table has that place of each list with enough postings
pub record ArePassed (min_df limit : ℕ) (lists : List TermList) (table : List ℕ) : Type 0 where
  pub len : length table ≡ length lists
  pub each : (k : ℕ) (list : TermList) → slice_get lists k ≡ Some list
      → min_df ≤ length list.postings → IsPassed limit list.postings (slice_index table k)

-- how many of a list's postings are of the document, where it is one of the band
abbrev pub band_times : Band → ℕ → ℕ → List Posting → ℕ
band_times band min_df document postings =
    cond (nat_le band.from document)
    (cond (nat_le band.limit document) 0 (kept_times min_df document postings)) 0

-- the whole rows of the documents below the limit, and empty ones of the others
abbrev pub row_below : ℕ → ℕ → List TermList → ℕ → List ℕ
row_below limit min_df lists document =
    cond (nat_le limit document) [] (row_from min_df document 0 lists)

abbrev pub rows_below : ℕ → ℕ → List TermList → List ℕ → List (List ℕ)
rows_below limit min_df lists documents = map (row_below limit min_df lists) documents

-- there is room for the rows side by side, so much of each is written, and its cursor is behind that
pub record AreBegun
    (base : ℕ) (rows done : List (List ℕ)) (cursors entries : List ℕ) : Type 0 where
  pub len : length cursors ≡ length rows
  pub room : length entries ≡ sum_by (λ row. length row) rows
  pub small : base + length entries < 2 ^ 32
  pub at : (k : ℕ) → k < length cursors
      → slice_index cursors k ≡ slice_index (begins base rows) k + length (row_at done k)
  pub there : (k i j : ℕ) → k < length cursors → i < length (row_at done k)
      → base + j ≡ slice_index (begins base rows) k + i
      → slice_index entries j ≡ slice_index (row_at done k) i
