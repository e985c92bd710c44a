-- The forward index of an index: what its tables hold, and what they mean.
use Rattle.std.proofs.Common.{◌≡◌, ℕ, ◌+◌, ◌<◌, ◌^◌, List, [], length, get_or, take, map, refl, sym, ap, subst, ◌∙◌, arith, Contains, IfSome, sum, zero-add, ◌↔◌}
use Rattle.std.specs.Prelude.{slice_get}
use Rattle.std.proofs.lemmas.List.{ext_get_or, take_all, take-map, get_or-map, length-map}
use Rattle.std.proofs.lemmas.List.Elements.{All-map}
use Rattle.std.proofs.lemmas.List.Sums.{sum-map}
use Rattle.std.proofs.lemmas.List.Concat.{length-flat_map}
use Rattle.rgb_base.specs.Parts.{IndexParts, IsIndex}
use Rattle.rgb_base.specs.Order.{IsOrder}
use Rattle.forward_index.specs.Forward.{ForwardIndex, IsForward, IsForwardOf, IsRow, Holds}
use Rattle.forward_index.specs.Flat.{pieces, AreEnds}
use Rattle.forward_index.specs.Rows.{ends as row_ends, row_from, rows_of, block, begins, AreFilled}
use Rattle.forward_index.proofs.Filling.{before, total, length-begins, length-ends, begins_at}
use Rattle.forward_index.proofs.Pieces.{AreEnds-of, pieces-of}
use Rattle.forward_index.proofs.Meaning.{row_means, row_is}
use Rattle.forward_index.proofs.Sums.{rows_few}

pub block_all : (start : List ℕ) (n : ℕ) → n ≡ length start → block start 0 n ≡ start
block_all start n same = take_all n start (omega (arith, same))

-- ---- where rows begin, from their lengths

pub sum_lengths : (rows : List (List ℕ)) → sum (map (λ row. length row) rows) ≡ total rows
sum_lengths rows = sum-map (λ (row : List ℕ). length row) rows

pub begins_from_lengths : (rows : List (List ℕ)) (counts starts : List ℕ) → counts ≡ map (λ row. length row) rows → length starts ≡ length counts
    → ((k : ℕ) → k < length counts → get_or starts k 0 ≡ sum (take k counts)) → starts ≡ begins 0 rows
begins_from_lengths rows counts starts counts_are len each =
    let size : length counts ≡ length rows = ap length counts_are ∙ length-map rows (λ (row : List ℕ). length row) in
    ext_get_or 0 starts (begins 0 rows) (len ∙ size ∙ sym (length-begins 0 rows)) (λ k lt.
    let front : sum (take k counts) ≡ before rows k = ap (λ (xs : List ℕ). sum (take k xs)) counts_are ∙ ap sum (take-map (λ (row : List ℕ). length row) k rows) ∙ sum_lengths (take k rows) in
    each k (omega (arith, lt, len)) ∙ front ∙ sym (begins_at 0 rows k (omega (arith, lt, len, size)) ∙ zero-add (before rows k)))

-- ---- the tables

pub rows_held : (rows : List (List ℕ)) (ends entries : List ℕ) → AreFilled 0 rows ends entries → pieces 0 ends entries ≡ rows
rows_held rows ends entries filled =
    ap (λ (es : List ℕ). pieces 0 es entries) filled.ends ∙ ap (pieces 0 (row_ends 0 rows)) filled.filled ∙ pieces-of 0 rows [] refl

pub ends_held : (rows : List (List ℕ)) (ends entries : List ℕ) → AreFilled 0 rows ends entries → AreEnds 0 ends (length entries)
ends_held rows ends entries filled =
    let size : 0 + total rows ≡ length entries = zero-add (total rows) ∙ sym (ap length filled.filled ∙ length-flat_map (λ (row : List ℕ). row) rows) in
    subst (λ (es : List ℕ). AreEnds 0 es (length entries)) (sym filled.ends) (subst (AreEnds 0 (row_ends 0 rows)) size (AreEnds-of 0 rows))

-- ---- the forward index

abbrev pub made : ℕ → List (List ℕ) → List ℕ → ForwardIndex
made terms rows documents = record { terms = terms; rows = rows; documents = documents }

module _ (index : IndexParts) (min_df : ℕ) (start : List ℕ) (sound : IsIndex index) (ordered : IsOrder start) (len : length start ≡ length index.documents) where
  pub the_forward : ForwardIndex
  the_forward = record { terms = length index.lists; rows = rows_of min_df index.lists start; documents = start }

  pub few_entries : total (rows_of min_df index.lists start) < 2 ^ 32
  few_entries = omega (arith, rows_few min_df index.lists start ordered.numbers.different, sound.sized.postings)

  pub forward_sound : IsForward the_forward
  unfolding the_forward
  forward_sound = record {
    few_terms = sound.counted.lists;
    rows = All-map (IsRow (length index.lists)) (λ (document : ℕ). row_from min_df document 0 index.lists) start (λ k d lt. row_is (length index.documents) min_df (get_or start k d) index.lists sound.ordered);
    few = few_entries;
    len = sym (length-map start (λ (document : ℕ). row_from min_df document 0 index.lists));
    ordered = ordered;
  }

  pub forward_of : IsForwardOf index min_df start the_forward
  unfolding the_forward
  forward_of = record {
    terms = refl;
    documents = refl;
    rows = λ place lt term within.
        let row = get_or-map (λ (document : ℕ). row_from min_df document 0 index.lists) start place 0 [] lt in
        subst (λ (r : List ℕ). Contains r term ↔ IfSome (slice_get index.lists term) (Holds min_df (get_or start place 0))) (sym row) (row_means min_df (get_or start place 0) index.lists term within);
  }

  -- the tables that hold it
  module _ (n terms : ℕ) (ends entries documents : List ℕ) (n_is : n ≡ length start) (terms_is : terms ≡ length index.lists) (documents_are : documents ≡ start) (filled : AreFilled 0 (rows_of min_df index.lists (block start 0 n)) ends entries) where
    filled_whole : AreFilled 0 (rows_of min_df index.lists start) ends entries
    filled_whole = subst (λ (documents' : List ℕ). AreFilled 0 (rows_of min_df index.lists documents') ends entries) (block_all start n n_is) filled

    pub ends_size : length ends ≡ length start
    ends_size = ap length filled_whole.ends ∙ length-ends 0 (rows_of min_df index.lists start) ∙ length-map start (λ (document : ℕ). row_from min_df document 0 index.lists)

    pub entries_size : length entries ≡ total (rows_of min_df index.lists start)
    entries_size = ap length filled_whole.filled ∙ length-flat_map (λ (row : List ℕ). row) (rows_of min_df index.lists start)

    pub are_ends : AreEnds 0 ends (length entries)
    are_ends = ends_held (rows_of min_df index.lists start) ends entries filled_whole

    pub is_the_forward : made terms (pieces 0 ends entries) documents ≡ the_forward
    unfolding the_forward
    is_the_forward =
        ap (λ (t : ℕ). made t (pieces 0 ends entries) documents) terms_is
        ∙ ap (λ (rows : List (List ℕ)). made (length index.lists) rows documents) (rows_held (rows_of min_df index.lists start) ends entries filled_whole)
        ∙ ap (made (length index.lists) (rows_of min_df index.lists start)) documents_are
