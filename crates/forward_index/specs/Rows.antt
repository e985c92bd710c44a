-- The rows of documents list by list, and where they lie side by side, as the functions of this
-- crate hand them to one another.
use Rattle.std.specs.Prelude.{◌≡◌, ◌==◌, ◌⊎◌, ℕ, ◌+◌, ◌^◌, ◌<◌, ◌≤◌, List, [], ◌∷◌, ◌++◌, length, map, take, drop, flat_map, slice_index, cond, nat_le, replicate, count_by, sum_by}
use Rattle.rgb_base.specs.declared.parts.Posting.{Posting}
use Rattle.rgb_base.specs.declared.parts.TermList.{TermList}
use Rattle.rgb_base.specs.Order.{new_of}

-- how many of the postings are of the document
abbrev pub times : ℕ → List Posting → ℕ
times document postings = count_by (λ posting. posting.doc == document) postings

-- the same, where there are enough of them
abbrev pub kept_times : ℕ → ℕ → List Posting → ℕ
kept_times min_df document postings =
    cond (nat_le min_df (length postings)) (times document postings) 0

-- the document's row over these lists, the first of which has this term
abbrev pub row_from : ℕ → ℕ → ℕ → List TermList → List ℕ
row_from min_df document term [] = []
row_from min_df document term (list ∷ lists) =
    replicate (kept_times min_df document list.postings) term
    ++ row_from min_df document (term + 1) lists

-- the rows of the documents
abbrev pub rows_of : ℕ → List TermList → List ℕ → List (List ℕ)
rows_of min_df lists documents = map (λ document. row_from min_df document 0 lists) documents

-- so many documents of a start order, from a place on
abbrev pub block : List ℕ → ℕ → ℕ → List ℕ
block start first n = take n (drop first start)

-- the places of a start order are found again
pub record IsStart (start : List ℕ) : Type 0 where
  pub small : length start < 2 ^ 31
  pub undoes : (place : ℕ) → place < length start → new_of start (slice_index start place) ≡ place

-- where each of these rows begins and ends in a table that has them from a place on
abbrev pub begins : ℕ → List (List ℕ) → List ℕ
begins from [] = []
begins from (row ∷ rows) = from ∷ begins (from + length row) rows

abbrev pub ends : ℕ → List (List ℕ) → List ℕ
ends from [] = []
ends from (row ∷ rows) = (from + length row) ∷ ends (from + length row) rows

-- each number grew by so much
abbrev pub AreMoved : (ℕ → ℕ) → List ℕ → List ℕ → Type 0
AreMoved by old new = (k : ℕ) → k < length old → slice_index new k ≡ slice_index old k + by k

-- the term stands from each old cursor to the new one, and elsewhere the entries are as they were;
-- cursors count from the base on
pub record AreWritten (base term : ℕ) (cursors moved entries filled : List ℕ) : Type 0 where
  pub there : (k i : ℕ) → k < length cursors → slice_index cursors k ≤ base + i
      → base + i < slice_index moved k → slice_index filled i ≡ term
  pub kept : (i : ℕ)
      → ((k : ℕ) → k < length cursors
      → (base + i < slice_index cursors k) ⊎ (slice_index moved k ≤ base + i))
      → slice_index filled i ≡ slice_index entries i

-- there is room for the rows, and each cursor stands where its row begins
pub record IsReady (base : ℕ) (rows : List (List ℕ)) (cursors entries : List ℕ) : Type 0 where
  pub starts : cursors ≡ begins base rows
  pub room : length entries ≡ sum_by (λ row. length row) rows
  pub small : base + length entries < 2 ^ 32

-- the rows side by side, with the place at which each ends
pub record AreFilled (base : ℕ) (rows : List (List ℕ)) (cursors entries : List ℕ) : Type 0 where
  pub ends : cursors ≡ ends base rows
  pub filled : entries ≡ flat_map (λ row. row) rows
