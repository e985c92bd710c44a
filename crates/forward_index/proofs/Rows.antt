-- The rows of documents, list by list.
use Rattle.std.proofs.Common.{◌≡◌, ◌==◌, ℕ, ◌+◌, ◌<◌, ◌≤◌, List, [], ◌∷◌, ◌++◌, length, get_or, take, drop, map, sym, ap, ◌∙◌, arith, Some, option_map, length-append, length-drop, add-zero}
use Rattle.std.specs.Prelude.{slice_get, pos, nat_le, replicate}
use Rattle.std.proofs.Math.Seq.{take-add}
use Rattle.std.proofs.lemmas.Option.{slice_get-get_or}
use Rattle.std.proofs.lemmas.Bool.{cond_both}
use Rattle.std.proofs.lemmas.List.{ext_get_or, map-append, length-map, get_or-map, append-nil, append_assoc, take-append-drop, take_more, length-take-le, length-replicate, get_or-take, get_or-drop, drop-drop}
use Rattle.std.proofs.lemmas.List.Sums.{sum_by-cons, sum_by_more, sum_by-take-le, count_by-le-length}
use Rattle.rgb_base.specs.declared.parts.Posting.{Posting}
use Rattle.rgb_base.specs.declared.parts.TermList.{TermList}
use Rattle.rgb_base.specs.Parts.{posting_count}
use Rattle.rgb_base.specs.Order.{IsOrder}
use Rattle.rgb_base.specs.Laws.{NumbersUndoTheOrder}
use Rattle.forward_index.specs.Rows.{times, kept_times, row_from, rows_of, block, IsStart}

abbrev pub no_list : TermList
no_list = record { term = []; df = pos 0; cf = pos 0; postings = [] }

pub postings_read : (lists : List TermList) (i : ℕ) (postings : List Posting) → i < length lists → option_map (λ (list : TermList). list.postings) (slice_get lists i) ≡ Some postings → (get_or lists i no_list).postings ≡ postings
postings_read lists i postings within read = let found = slice_get-get_or lists i no_list within in cc

pub times_few : (document : ℕ) (postings : List Posting) → times document postings ≤ length postings
times_few document postings = count_by-le-length (λ (posting : Posting). posting.doc == document) postings

pub kept_times_few : (min_df document : ℕ) (postings : List Posting) → kept_times min_df document postings ≤ length postings
kept_times_few min_df document postings =
    cond_both (nat_le min_df (length postings)) (times document postings) 0 (λ (n : ℕ). n ≤ length postings) (λ _. times_few document postings) (λ _. omega arith)

pub row_from-append : (min_df document term : ℕ) (front back : List TermList)
    → row_from min_df document term (front ++ back) ≡ row_from min_df document term front ++ row_from min_df document (term + length front) back
row_from-append min_df document term [] back = ap (λ (t : ℕ). row_from min_df document t back) (sym (add-zero term))
row_from-append min_df document term (list ∷ lists) back =
    let here = replicate (kept_times min_df document list.postings) term in
    let next : term + 1 + length lists ≡ term + length (list ∷ lists) = omega arith in
    ap (λ (row : List ℕ). here ++ row) (row_from-append min_df document (term + 1) lists back ∙ ap (λ (t : ℕ). row_from min_df document (term + 1) lists ++ row_from min_df document t back) next)
    ∙ sym (append_assoc here (row_from min_df document (term + 1) lists) (row_from min_df document (term + length (list ∷ lists)) back))

-- with one list more
pub row_more : (min_df document : ℕ) (lists : List TermList) (k : ℕ) → k < length lists
    → row_from min_df document 0 (take (k + 1) lists) ≡ row_from min_df document 0 (take k lists) ++ replicate (kept_times min_df document (get_or lists k no_list).postings) k
row_more min_df document lists k within =
    let list = get_or lists k no_list in
    let place : 0 + length (take k lists) ≡ k = omega (arith, length-take-le k lists (omega arith)) in
    ap (row_from min_df document 0) (take_more lists k no_list within)
    ∙ row_from-append min_df document 0 (take k lists) (list ∷ [])
    ∙ ap (λ (row : List ℕ). row_from min_df document 0 (take k lists) ++ row) (append-nil (replicate (kept_times min_df document list.postings) (0 + length (take k lists))) ∙ ap (replicate (kept_times min_df document list.postings)) place)

-- no more entries than postings
pub row_few : (min_df document term : ℕ) (lists : List TermList) → length (row_from min_df document term lists) ≤ posting_count lists
row_few min_df document term [] = omega arith
row_few min_df document term (list ∷ lists) =
    let here = replicate (kept_times min_df document list.postings) term in
    omega (arith, length-append here (row_from min_df document (term + 1) lists), length-replicate (kept_times min_df document list.postings) term, kept_times_few min_df document list.postings, row_few min_df document (term + 1) lists, sum_by-cons (λ (l : TermList). length l.postings) list lists)

-- the row over the first lists is a front of the row
pub row_within : (min_df document : ℕ) (lists : List TermList) (k : ℕ) → length (row_from min_df document 0 (take k lists)) ≤ length (row_from min_df document 0 lists)
row_within min_df document lists k =
    let whole = ap (row_from min_df document 0) (sym (take-append-drop k lists)) ∙ row_from-append min_df document 0 (take k lists) (drop k lists) in
    omega (arith, ap length whole, length-append (row_from min_df document 0 (take k lists)) (row_from min_df document (0 + length (take k lists)) (drop k lists)))

-- the postings of the first lists and of the next one
pub postings_more : (lists : List TermList) (k : ℕ) → k < length lists → posting_count (take k lists) + length (get_or lists k no_list).postings ≤ posting_count lists
postings_more lists k within =
    omega (arith, sum_by_more (λ (l : TermList). length l.postings) lists k no_list within, sum_by-take-le (λ (l : TermList). length l.postings) lists (k + 1))

-- ---- blocks of a start order

pub block_at : (start : List ℕ) (first n k : ℕ) → k < n → get_or (block start first n) k 0 ≡ get_or start (first + k) 0
block_at start first n k lt = get_or-take n (drop first start) k 0 lt ∙ get_or-drop first start k 0

pub length-block : (start : List ℕ) (first n : ℕ) → first + n ≤ length start → length (block start first n) ≡ n
length-block start first n within = length-take-le n (drop first start) (omega (arith, length-drop first start))

pub block_both : (start : List ℕ) (first n m : ℕ) → block start first (n + m) ≡ block start first n ++ block start (first + n) m
block_both start first n m = take-add n m (drop first start) ∙ ap (λ (xs : List ℕ). take n (drop first start) ++ take m xs) (drop-drop n first start)

-- the lengths of the rows of a block
pub counts_are : (min_df : ℕ) (lists : List TermList) (start counts : List ℕ) (first n : ℕ) → length counts ≡ n → first + n ≤ length start
    → ((k : ℕ) → k < n → get_or counts k 0 ≡ length (row_from min_df (get_or start (first + k) 0) 0 lists))
    → counts ≡ map (λ row. length row) (rows_of min_df lists (block start first n))
counts_are min_df lists start counts first n len within each =
    let documents = block start first n in
    let size : length documents ≡ n = length-block start first n within in
    let row : ℕ → List ℕ = (λ document. row_from min_df document 0 lists) in
    ext_get_or 0 counts (map (λ row. length row) (rows_of min_df lists documents))
    (len ∙ sym (length-map (rows_of min_df lists documents) (λ (r : List ℕ). length r) ∙ length-map documents row ∙ size))
    (λ k lt.
    let lt' : k < n = omega (arith, lt, len) in
    each k lt'
    ∙ sym (get_or-map (λ (r : List ℕ). length r) (rows_of min_df lists documents) k [] 0 (omega (arith, lt', length-map documents row, size))
    ∙ ap length (get_or-map row documents k 0 [] (omega (arith, lt', size)) ∙ ap row (block_at start first n k lt'))))

pub rows_both : (min_df : ℕ) (lists : List TermList) (start : List ℕ) (first n m : ℕ)
    → rows_of min_df lists (block start first (n + m)) ≡ rows_of min_df lists (block start first n) ++ rows_of min_df lists (block start (first + n) m)
rows_both min_df lists start first n m =
    let row : ℕ → List ℕ = (λ document. row_from min_df document 0 lists) in
    ap (map row) (block_both start first n m) ∙ map-append row (block start first n) (block start (first + n) m)

pub IsStart-from_order : NumbersUndoTheOrder → (start : List ℕ) → IsOrder start → IsStart start
IsStart-from_order undo start ordered = record { small = ordered.small; undoes = λ place lt. ((undo start ordered).1 place lt).1 }

-- the k-th row of a block
pub rows_at : (min_df : ℕ) (lists : List TermList) (start : List ℕ) (first n k : ℕ) → first + n ≤ length start → k < n
    → get_or (rows_of min_df lists (block start first n)) k [] ≡ row_from min_df (get_or start (first + k) 0) 0 lists
rows_at min_df lists start first n k within lt =
    let row : ℕ → List ℕ = (λ document. row_from min_df document 0 lists) in
    get_or-map row (block start first n) k 0 [] (omega (arith, lt, length-block start first n within)) ∙ ap row (block_at start first n k lt)

-- with one list more a row is still no longer than the whole one
pub row_fits : (min_df document : ℕ) (lists : List TermList) (k : ℕ) → k < length lists
    → length (row_from min_df document 0 (take k lists)) + kept_times min_df document (get_or lists k no_list).postings ≤ length (row_from min_df document 0 lists)
row_fits min_df document lists k within =
    let n = kept_times min_df document (get_or lists k no_list).postings in
    omega (arith, row_within min_df document lists (k + 1), ap length (row_more min_df document lists k within), length-append (row_from min_df document 0 (take k lists)) (replicate n k), length-replicate n k)

pub counts_both : (min_df : ℕ) (lists : List TermList) (start : List ℕ) (first second n m whole : ℕ) (front back : List ℕ) → second ≡ first + n → whole ≡ n + m
    → front ≡ map (λ row. length row) (rows_of min_df lists (block start first n)) → back ≡ map (λ row. length row) (rows_of min_df lists (block start second m))
    → front ++ back ≡ map (λ row. length row) (rows_of min_df lists (block start first whole))
counts_both min_df lists start first second n m whole front back at sum front_is back_is =
    let lengths : List (List ℕ) → List ℕ = map (λ row. length row) in
    let ahead = lengths (rows_of min_df lists (block start first n)) in
    let behind : back ≡ lengths (rows_of min_df lists (block start (first + n) m)) = back_is ∙ ap (λ (k : ℕ). lengths (rows_of min_df lists (block start k m))) at in
    ap (λ (xs : List ℕ). xs ++ back) front_is ∙ ap (λ (xs : List ℕ). ahead ++ xs) behind
    ∙ sym (ap (λ (k : ℕ). lengths (rows_of min_df lists (block start first k))) sum ∙ ap lengths (rows_both min_df lists start first n m) ∙ map-append (λ (row : List ℕ). length row) (rows_of min_df lists (block start first n)) (rows_of min_df lists (block start (first + n) m)))

-- what the first list gives, and the others
pub row_step : (min_df document term : ℕ) (list : TermList) (lists : List TermList)
    → length (row_from min_df document term (list ∷ lists)) ≡ kept_times min_df document list.postings + length (row_from min_df document (term + 1) lists)
row_step min_df document term list lists =
    let n = kept_times min_df document list.postings in
    omega (arith, length-append (replicate n term) (row_from min_df document (term + 1) lists), length-replicate n term)
