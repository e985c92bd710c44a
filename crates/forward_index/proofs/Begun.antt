-- Rows of which a part is done: at the first band, and behind the last one.
use Rattle.std.proofs.Common.{◌≡◌, ℕ, ◌+◌, ◌<◌, ◌≤◌, List, [], length, get_or, map, refl, sym, ap, subst, ◌∙◌, arith, All}
use Rattle.std.specs.Prelude.{nat_le}
use Rattle.std.proofs.lemmas.Bool.{cond-true, cond-false, le-leb, lt-leb}
use Rattle.std.proofs.lemmas.List.{ext_get_or, get_or-map, length-map}
use Rattle.rgb_base.specs.declared.parts.TermList.{TermList}
use Rattle.forward_index.specs.Rows.{row_from, rows_of, block, begins, IsReady, AreFilled}
use Rattle.forward_index.specs.Bands.{row_below, rows_below, AreBegun}
use Rattle.forward_index.proofs.Rows.{length-block, block_at}
use Rattle.forward_index.proofs.Filling.{ready_len, filled_from}

-- ---- rows of a block by any rule

module _ (row : ℕ → List ℕ) (start : List ℕ) (first n : ℕ) (within : first + n ≤ length start) where
  pub length-mapped : length (map row (block start first n)) ≡ n
  length-mapped = length-map (block start first n) row ∙ length-block start first n within

  pub mapped_at : (k : ℕ) → k < n → get_or (map row (block start first n)) k [] ≡ row (get_or start (first + k) 0)
  mapped_at k lt = get_or-map row (block start first n) k 0 [] (omega (arith, lt, length-block start first n within)) ∙ ap row (block_at start first n k lt)

  pub count_at : (counts : List ℕ) → counts ≡ map (λ row. length row) (map row (block start first n)) → (k : ℕ) → k < n → get_or counts k 0 ≡ length (row (get_or start (first + k) 0))
  count_at counts counts_are k lt =
      ap (λ (xs : List ℕ). get_or xs k 0) counts_are ∙ get_or-map (λ (r : List ℕ). length r) (map row (block start first n)) k [] 0 (omega (arith, lt, length-mapped))
      ∙ ap length (mapped_at k lt)

  pub counts_from : (counts : List ℕ) → length counts ≡ n → ((k : ℕ) → k < n → get_or counts k 0 ≡ length (row (get_or start (first + k) 0))) → counts ≡ map (λ row. length row) (map row (block start first n))
  counts_from counts len each =
      let lengths = map (λ (r : List ℕ). length r) (map row (block start first n)) in
      ext_get_or 0 counts lengths (len ∙ sym (length-map (map row (block start first n)) (λ (r : List ℕ). length r) ∙ length-mapped)) (λ k lt.
      let lt' : k < n = omega (arith, lt, len) in
      each k lt' ∙ sym (count_at lengths refl k lt'))

-- ---- below a limit

below_none : (limit min_df : ℕ) (lists : List TermList) (document : ℕ) → limit ≤ document → row_below limit min_df lists document ≡ []
below_none limit min_df lists document le = cond-true {A = List ℕ} (nat_le limit document) [] (row_from min_df document 0 lists) (le-leb limit document le)

below_all : (limit min_df : ℕ) (lists : List TermList) (document : ℕ) → document < limit → row_below limit min_df lists document ≡ row_from min_df document 0 lists
below_all limit min_df lists document lt = cond-false {A = List ℕ} (nat_le limit document) [] (row_from min_df document 0 lists) (lt-leb limit document lt)

module _ (limit min_df : ℕ) (lists : List TermList) (start : List ℕ) (first n : ℕ) (within : first + n ≤ length start) where
  abbrev rows : List (List ℕ)
  rows = rows_of min_df lists (block start first n)

  -- no document is below it
  module _ (low : (k : ℕ) → k < n → limit ≤ get_or start (first + k) 0) where
    none_at : (k : ℕ) → k < n → get_or (rows_below limit min_df lists (block start first n)) k [] ≡ []
    none_at k lt = mapped_at (row_below limit min_df lists) start first n within k lt ∙ below_none limit min_df lists (get_or start (first + k) 0) (low k lt)

    pub counts_none : (counts : List ℕ) → length counts ≡ n → All (λ count. count ≡ 0) counts → counts ≡ map (λ row. length row) (rows_below limit min_df lists (block start first n))
    counts_none counts len noughts =
        counts_from (row_below limit min_df lists) start first n within counts len (λ k lt.
        noughts k 0 (omega (arith, lt, len)) ∙ sym (ap length (below_none limit min_df lists (get_or start (first + k) 0) (low k lt))))

    pub begun_none : (base : ℕ) (cursors entries : List ℕ) → length cursors ≡ n → IsReady base rows cursors entries → AreBegun base rows (rows_below limit min_df lists (block start first n)) cursors entries
    begun_none base cursors entries len ready = record {
      len = ready_len base rows cursors entries ready;
      room = ready.room;
      small = ready.small;
      at = λ k lt.
          let none = ap length (none_at k (omega (arith, lt, len))) in
          omega (arith, none, ap (λ (xs : List ℕ). get_or xs k 0) ready.starts);
      there = λ k i j lt low' place. let none = ap length (none_at k (omega (arith, lt, len))) in absurd (omega (arith, none, low'));
    }

  -- all documents are below it
  module _ (high : (k : ℕ) → k < n → get_or start (first + k) 0 < limit) where
    rows_all : rows_below limit min_df lists (block start first n) ≡ rows
    rows_all =
        let whole : ℕ → List ℕ = (λ document. row_from min_df document 0 lists) in
        let size = length-mapped (row_below limit min_df lists) start first n within in
        ext_get_or [] (rows_below limit min_df lists (block start first n)) rows (size ∙ sym (length-mapped whole start first n within)) (λ k lt.
        let lt' : k < n = omega (arith, lt, size) in
        mapped_at (row_below limit min_df lists) start first n within k lt' ∙ below_all limit min_df lists (get_or start (first + k) 0) (high k lt') ∙ sym (mapped_at whole start first n within k lt'))

    pub counts_all : (counts : List ℕ) → counts ≡ map (λ row. length row) (rows_below limit min_df lists (block start first n)) → counts ≡ map (λ row. length row) rows
    counts_all counts counts_are = counts_are ∙ ap (λ (rs : List (List ℕ)). map (λ (r : List ℕ). length r) rs) rows_all

    pub begun_all : (base : ℕ) (cursors entries : List ℕ) → AreBegun base rows (rows_below limit min_df lists (block start first n)) cursors entries → AreFilled base rows cursors entries
    begun_all base cursors entries begun =
        let all : AreBegun base rows rows cursors entries = subst (λ (rs : List (List ℕ)). AreBegun base rows rs cursors entries) rows_all begun in
        let ready : IsReady base rows (begins base rows) entries = record { starts = refl; room = begun.room; small = begun.small } in
        let len : length cursors ≡ length (begins base rows) = begun.len ∙ sym (ready_len base rows (begins base rows) entries ready) in
        filled_from base rows (begins base rows) entries ready cursors entries len refl
        (λ k lt. all.at k (omega (arith, lt, len)))
        (λ k i j lt low place. all.there k i j (omega (arith, lt, len)) low place)
