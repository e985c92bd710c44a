-- A cell with its terms numbered anew is a forward index, and that of its places.
use Rattle.std.proofs.Common.{◌≡◌, ℕ, ◌+◌, ◌<◌, ◌≤◌, List, [], ◌∷◌, length, get_or, take, map, refl, sym, ap, subst, ◌∙◌, arith, All, AllPairs, Any, Contains, sum, zero-add}
use Rattle.std.specs.List.{range_with_len}
use Rattle.std.proofs.lemmas.List.{length-map, get_or-map}
use Rattle.std.proofs.lemmas.List.FromFn.{length-range_with_len}
use Rattle.std.proofs.lemmas.List.Elements.{All-map, All-weaker, All-head, All-tail}
use Rattle.std.specs.List.Sorted.{IsStrictlyIncreasing}
use Rattle.forward_index.specs.Forward.{ForwardIndex, IsForward, IsRow, row_at}
use Rattle.forward_index.specs.Cell.{IsCellOf}
use Rattle.forward_index.specs.Marks.{AreMarks, AreWrittenRows, renamed_rows}
use Rattle.forward_index.specs.Rows.{AreFilled}
use Rattle.forward_index.specs.Flat.{pieces, AreEnds}
use Rattle.forward_index.proofs.Built.{made, rows_held, ends_held}
use Rattle.forward_index.proofs.Cells.{entries_few, length_places, total-renamed}
use Rattle.forward_index.proofs.Marks.{ones_from, IsOne, few_bits, length-ones, one_at, ones_are, ones_rise, within_marks, rank_below, rank_rises}
use Rattle.forward_index.proofs.Starts.{IsOrder-range}

module _ (whole : ForwardIndex) (places marks numbers : List ℕ) (sound : IsForward whole) (rising : AllPairs (λ a b. a < b) places) (below : All (λ place. place < length whole.rows) places) (are : AreMarks whole.rows places marks) (len : length marks ≡ whole.terms) (each : (k : ℕ) → k < length marks → get_or numbers k 0 ≡ sum (take k marks)) where
  renamed : List ℕ → List ℕ
  renamed row = map (λ (term : ℕ). get_or numbers term 0) row

  old_number : ℕ → ℕ
  old_number number = get_or (ones_from 0 marks) number 0

  pub the_cell : ForwardIndex
  the_cell = made (sum marks) (renamed_rows whole.rows numbers places) (range_with_len 0 (length places))

  few_ones : sum marks ≤ length marks
  few_ones = few_bits marks are.bits

  few_places : length places ≤ length whole.rows
  few_places = let few = length_places (length whole.rows) places 0 (omega arith) rising below (λ k d lt. omega arith) in omega (arith, few)

  rank : (term : ℕ) → get_or marks term 0 ≡ 1 → get_or numbers term 0 ≡ sum (take term marks)
  rank term one = each term (within_marks marks term one)

  renamed_is : (row : List ℕ) → IsStrictlyIncreasing row → All (λ term. get_or marks term 0 ≡ 1) row → IsRow (sum marks) (renamed row)
  unfolding renamed
  renamed_is row up marked = record {
    rising = λ k within.
        let size = length-map row (λ (term : ℕ). get_or numbers term 0) in
        let next : k + 1 < length row = omega (arith, within, size) in
        let lt : k < length row = omega (arith, next) in
        let here = get_or-map (λ (term : ℕ). get_or numbers term 0) row k 0 0 lt ∙ rank (get_or row k 0) (marked k 0 lt) in
        let there = get_or-map (λ (term : ℕ). get_or numbers term 0) row (k + 1) 0 0 next ∙ rank (get_or row (k + 1) 0) (marked (k + 1) 0 next) in
        let less = rank_rises marks (get_or row k 0) (get_or row (k + 1) 0) (marked k 0 lt) (up k next) in
        omega (arith, here, there, less);
    below = All-map (λ (n : ℕ). n < sum marks) (λ (term : ℕ). get_or numbers term 0) row (All-weaker (λ (term : ℕ). get_or marks term 0 ≡ 1) (λ (term : ℕ). get_or numbers term 0 < sum marks) (λ term one. omega (arith, rank term one, rank_below marks term one)) row marked);
  }

  pub cell_sound : IsForward the_cell
  unfolding the_cell renamed
  cell_sound = record {
    few_terms = omega (arith, few_ones, len, sound.few_terms);
    rows = All-map (IsRow (sum marks)) (λ (place : ℕ). renamed (row_at whole.rows place)) places (λ k d lt. renamed_is (row_at whole.rows (get_or places k d)) (sound.rows (get_or places k d) [] (below k d lt)).rising (are.marked k d lt));
    few = omega (arith, total-renamed whole.rows numbers places, entries_few whole.rows places rising below, sound.few);
    len = length-range_with_len 0 (length places) ∙ sym (length-map places (λ (place : ℕ). renamed (row_at whole.rows place)));
    ordered = IsOrder-range (length places) (omega (arith, few_places, sound.len, sound.ordered.small));
  }

  -- the old numbers of a row's new ones
  back : (row : List ℕ) → All (λ term. get_or marks term 0 ≡ 1) row → map old_number (renamed row) ≡ row
  unfolding old_number renamed
  back [] marked = refl
  back (term ∷ row) marked =
      let one = All-head (λ (t : ℕ). get_or marks t 0 ≡ 1) term row marked in
      let here : old_number (get_or numbers term 0) ≡ term = ap (λ (n : ℕ). get_or (ones_from 0 marks) n 0) (rank term one) ∙ one_at 0 marks term are.bits one ∙ zero-add term in
      let rest = back row (All-tail (λ (t : ℕ). get_or marks t 0 ≡ 1) term row marked) in
      ap (λ (n : ℕ). n ∷ map old_number (renamed row)) here ∙ ap (λ (r : List ℕ). term ∷ r) rest

  rows_back : (ps : List ℕ) → All (λ place. All (λ term. get_or marks term 0 ≡ 1) (row_at whole.rows place)) ps
      → map (λ row. map old_number row) (renamed_rows whole.rows numbers ps) ≡ map (row_at whole.rows) ps
  unfolding old_number renamed
  rows_back [] marked = refl
  rows_back (place ∷ ps) marked =
      let here = back (row_at whole.rows place) (All-head (λ (p : ℕ). All (λ term. get_or marks term 0 ≡ 1) (row_at whole.rows p)) place ps marked) in
      let rest = rows_back ps (All-tail (λ (p : ℕ). All (λ term. get_or marks term 0 ≡ 1) (row_at whole.rows p)) place ps marked) in
      ap (λ (r : List ℕ). r ∷ map (λ row. map old_number row) (renamed_rows whole.rows numbers ps)) here ∙ ap (λ (rs : List (List ℕ)). row_at whole.rows place ∷ rs) rest

  occurs : (term : ℕ) → IsOne 0 marks term → Any (λ place. Contains (row_at whole.rows place) term) places
  occurs term is =
      let same : term ≡ is.k = is.place ∙ zero-add is.k in
      subst (λ (t : ℕ). Any (λ place. Contains (row_at whole.rows place) t) places) (sym same) (are.occur is.k is.one)

  pub cell_of : IsCellOf whole places the_cell
  unfolding the_cell old_number renamed
  cell_of = record {
    old_terms = ones_from 0 marks;
    rising = λ k within. ones_rise 0 marks k (k + 1) 0 (omega arith) within;
    occur = All-weaker (IsOne 0 marks) (λ (term : ℕ). Any (λ place. Contains (row_at whole.rows place) term) places) occurs (ones_from 0 marks) (ones_are 0 marks);
    terms = sym (length-ones 0 marks are.bits);
    rows = rows_back places are.marked;
    documents = refl;
  }

  -- the tables that hold it
  filled : (read ends entries : List ℕ) → read ≡ numbers → AreWrittenRows whole.rows places read ends entries → AreFilled 0 (renamed_rows whole.rows numbers places) ends entries
  filled read ends entries read_is written =
      subst (λ (ns : List ℕ). AreFilled 0 (renamed_rows whole.rows ns places) ends entries) read_is (record { ends = written.ends; filled = written.filled })

  pub cell_ends : (read ends entries : List ℕ) → read ≡ numbers → AreWrittenRows whole.rows places read ends entries → AreEnds 0 ends (length entries)
  cell_ends read ends entries read_is written = ends_held (renamed_rows whole.rows numbers places) ends entries (filled read ends entries read_is written)

  pub cell_held : (terms : ℕ) (read ends entries documents : List ℕ) → terms ≡ sum marks → read ≡ numbers → AreWrittenRows whole.rows places read ends entries → documents ≡ range_with_len 0 (length places)
      → made terms (pieces 0 ends entries) documents ≡ the_cell
  unfolding the_cell
  cell_held terms read ends entries documents terms_is read_is written documents_are =
      let rows = renamed_rows whole.rows numbers places in
      ap (λ (t : ℕ). made t (pieces 0 ends entries) documents) terms_is
      ∙ ap (λ (rs : List (List ℕ)). made (sum marks) rs documents) (rows_held rows ends entries (filled read ends entries read_is written))
      ∙ ap (made (sum marks) rows) documents_are
