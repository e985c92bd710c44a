-- How the draws go into one table of postings: what stands there after some documents and some term
-- draws of the next one (no public clause cites it).
use Rattle.std.specs.Prelude.{◌≡◌, ℕ, pos, ◌+◌, ◌<◌, ◌≤◌, List, [], ◌∷◌, ◌++◌, length, take, drop, map, filter, sum_by, nat_le, nat_lt, slice_index_or, if◌then◌else◌}
use Rattle.std.specs.List.{range_with_len}
use Rattle.rgb_base.specs.declared.parts.Posting.{Posting}
use Rattle.rgb_base.specs.declared.parts.TermList.{TermList}
use Rattle.rgb_base.specs.Parts.{IndexParts}
use Rattle.generated_index.specs.declared.cursor.Cursor.{Cursor}
use Rattle.generated_index.specs.Generated.{postings_of, total_drawn, times_drawn, list_of, is_drawn, terms_drawn, all_terms, generated}

-- the posting of a document that drew a term so often, and none where it never did
abbrev pub posting_if : ℕ → ℕ → List Posting
posting_if document times =
    if nat_lt 0 times then record { doc = document; tf = pos times } ∷ [] else []

-- the postings of a term after the documents below this one and some term draws of this one
unfoldable pub row_at : ℕ → ℕ → ℕ → ℕ → List Posting
row_at number document draws term =
    postings_of number document term ++ posting_if document (times_drawn number term document draws)

-- a cursor after one more draw of its term, for this document
abbrev pub advanced : ℕ → Cursor → Cursor
advanced document cursor =
    if nat_le cursor.after document
    then record {
      end = cursor.end + 1;
      draws = cursor.draws + 1;
      after = document + 1;
      times = 1;
    }
    else record cursor { draws = cursor.draws + 1; times = cursor.times + 1 }

-- the cursor of a term whose postings begin at this place
pub record IsCursor (number document draws term base : ℕ) (cursor : Cursor) : Type 0 where
  pub end : cursor.end ≡ base + length (row_at number document draws term)
  pub drawn : cursor.draws
      ≡ total_drawn number document term + times_drawn number term document draws
  pub before : times_drawn number term document draws ≡ 0 → cursor.after ≤ document
  pub after : 0 < times_drawn number term document draws → cursor.after ≡ document + 1
  pub times : 0 < times_drawn number term document draws
      → cursor.times ≡ times_drawn number term document draws

abbrev pub no_cursor : Cursor
no_cursor = record { end = 0; draws = 0; after = 0; times = 0 }

abbrev pub cursor_at : List Cursor → ℕ → Cursor
cursor_at cursors term = slice_index_or cursors term no_cursor

-- the cursors of all terms, the postings of each of which begin at this place
pub record AreCursors (number document draws : ℕ) (begins : ℕ → ℕ) (cursors : List Cursor)
    : Type 0 where
  pub len : length cursors ≡ all_terms
  pub each : (term : ℕ) → term < all_terms
      → IsCursor number document draws term (begins term) (cursor_at cursors term)

-- where the postings of a term begin in the table of all
unfoldable pub begins : ℕ → ℕ → ℕ → ℕ
begins number documents term =
    sum_by (λ other. length (postings_of number documents other)) (range_with_len 0 term)

-- what there is of each term's postings stands at its place
pub record AreFilled (number document draws documents : ℕ) (table : List Posting) : Type 0 where
  pub len : length table ≡ begins number documents all_terms
  pub each : (term : ℕ) → term < all_terms
      → take (length (row_at number document draws term))
      (drop (begins number documents term) table)
      ≡ row_at number document draws term

-- ---- the lists before their postings are there

abbrev pub bare_list : ℕ → ℕ → ℕ → TermList
bare_list number documents term = record (list_of number documents term) { postings = [] }

-- where the postings of the terms that were drawn end
abbrev pub ends_of : ℕ → ℕ → List ℕ → List ℕ
ends_of number documents terms = map (λ term. begins number documents (term + 1)) terms

-- the terms below a number that were drawn
unfoldable pub drawn_below : ℕ → ℕ → ℕ → List ℕ
drawn_below number documents limit =
    filter (is_drawn number documents) (range_with_len 0 limit)

-- the generated index before its postings are there
abbrev pub bare_index : ℕ → ℕ → IndexParts
bare_index number documents = record (generated number documents) {
  lists = map (bare_list number documents) (terms_drawn number documents);
}
