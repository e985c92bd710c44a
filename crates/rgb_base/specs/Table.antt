-- The postings of all lists as one table, in which the lists' parts stand one behind another.
use Rattle.std.specs.Prelude.{◌≡◌, ℕ, ◌+◌, ◌-◌, ◌<◌, ◌≤◌, List, [], ◌∷◌, length, take, drop, flat_map, slice_index}
use Rattle.rgb_base.specs.declared.parts.Posting.{Posting}
use Rattle.rgb_base.specs.declared.parts.TermList.{TermList}
use Rattle.rgb_base.specs.declared.parts.DocRecord.{DocRecord}
use Rattle.rgb_base.specs.Parts.{IndexParts, posting_count}

-- the table: the postings of list 0, then those of list 1, and so on
abbrev pub all_postings : List TermList → List Posting
all_postings lists = flat_map (λ list. list.postings) lists

-- the place at which each list's part ends
pub record AreEnds (lists : List TermList) (ends : List ℕ) : Type 0 where
  pub len : length ends ≡ length lists
  pub each : (k : ℕ) → k < length lists → slice_index ends k ≡ posting_count (take (k + 1) lists)

-- the same lists with parts of this table, each as long as its postings were
unfoldable pub cut_anew : List TermList → List Posting → List TermList
cut_anew [] table = []
cut_anew (list ∷ lists) table =
    record list { postings = take (length list.postings) table }
    ∷ cut_anew lists (drop (length list.postings) table)

-- the records of the documents of these numbers, in order
abbrev pub taken_at : List ℕ → List DocRecord → List DocRecord
taken_at numbers documents = flat_map (λ number. take 1 (drop number documents)) numbers

-- the index with the postings of this table, and at each new number the record of the old one
abbrev pub with_table : IndexParts → List Posting → List ℕ → IndexParts
with_table index table order = record index {
  lists = cut_anew index.lists table;
  documents = taken_at order index.documents;
}

-- ends of parts, the first of which begins at this place: they don't fall, and the last part ends
-- where a table of this length does
abbrev pub AreSplits : ℕ → List ℕ → ℕ → Type 0
AreSplits from [] size = from ≡ size
AreSplits from (end ∷ ends) size = (from ≤ end) × AreSplits end ends size

-- the same lists with the parts of this table that end there
unfoldable pub cut_at : ℕ → List ℕ → List TermList → List Posting → List TermList
cut_at from (end ∷ ends) (list ∷ lists) table =
    record list { postings = take (end - from) (drop from table) } ∷ cut_at end ends lists table
cut_at from ends lists table = []

-- the index with the parts of this table as its postings
abbrev pub with_postings : IndexParts → List Posting → List ℕ → IndexParts
with_postings index table ends = record index { lists = cut_at 0 ends index.lists table }
