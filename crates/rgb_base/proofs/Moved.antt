-- An index with the postings of another table and its records in another order.
use Rattle.std.proofs.Common.{◌≡◌, ◌≢◌, ℕ, ℤ, ◌<◌, ◌≤◌, List, [], ◌∷◌, ◌++◌, length, get_or, set, take, drop, map, sum_by, All, suc, pos, refl, sym, ap, subst, ◌∙◌, arith, length-set, length-drop}
use Rattle.std.specs.Prelude.{FitsSigned}
use Rattle.std.specs.Int.{w32}
use Rattle.std.specs.List.{AllPairs}
use Rattle.std.proofs.lemmas.List.{length-take-le, get_or-set_other, get_or-map, drop_more, length-map}
use Rattle.std.proofs.lemmas.List.Sums.{sum_by-set, sum_by-cons}
use Rattle.std.proofs.lemmas.List.Elements.{All-head, All-tail, All-cons, All-nil, All-append, All-take, All-drop}
use Rattle.rgb_base.specs.declared.parts.Posting.{Posting}
use Rattle.rgb_base.specs.declared.parts.TermList.{TermList}
use Rattle.rgb_base.specs.declared.parts.DocRecord.{DocRecord}
use Rattle.rgb_base.specs.declared.parts.Header.{Header}
use Rattle.rgb_base.specs.declared.columns.Counts.{Counts}
use Rattle.rgb_base.specs.Parts.{IndexParts, IsIndex, FitsList, FitsRecord, AreOrdered, AreDifferent, terms_of, posting_count}
use Rattle.rgb_base.specs.Order.{IsOrder}
use Rattle.rgb_base.specs.Table.{cut_anew, taken_at, with_table}
use Rattle.rgb_base.specs.Flat.{lists_of, records_of, cut_like}
use Rattle.rgb_base.proofs.Rows.{sum_by-mapped, cut_anew-lists_of, taken_at-records_of}

-- ---- the lists

length-cut_anew : (lists : List TermList) (table : List Posting) → length (cut_anew lists table) ≡ length lists
unfolding cut_anew
length-cut_anew [] table = refl
length-cut_anew (list ∷ lists) table = let h = length-cut_anew lists (drop (length list.postings) table) in omega (arith, h)

terms-cut_anew : (lists : List TermList) (table : List Posting) → terms_of (cut_anew lists table) ≡ terms_of lists
unfolding cut_anew
terms-cut_anew [] table = refl
terms-cut_anew (list ∷ lists) table = ap (λ (rest : List (List ℕ)). list.term ∷ rest) (terms-cut_anew lists (drop (length list.postings) table))

count-cut_anew : (lists : List TermList) (table : List Posting) → posting_count lists ≤ length table → posting_count (cut_anew lists table) ≡ posting_count lists
unfolding cut_anew
count-cut_anew [] table low = refl
count-cut_anew (list ∷ lists) table low =
    let size : TermList → ℕ = λ l. length l.postings in
    let n = length list.postings in
    let whole = sum_by-cons size list lists in
    let first : length (take n table) ≡ n = length-take-le n table (omega (arith, low, whole)) in
    let rest = count-cut_anew lists (drop n table) (omega (arith, low, whole, length-drop n table)) in
    let cut : TermList = record list { postings = take n table } in
    omega (arith, whole, first, rest, sum_by-cons size cut (cut_anew lists (drop n table)))

fits-cut_anew : (lists : List TermList) (table : List Posting) → All FitsList lists → All (λ posting. FitsSigned w32 posting.tf) table → All FitsList (cut_anew lists table)
unfolding cut_anew
fits-cut_anew [] table fit values = All-nil FitsList
fits-cut_anew (list ∷ lists) table fit values =
    let n = length list.postings in
    let value : Posting → Type 0 = λ posting. FitsSigned w32 posting.tf in
    let first = All-head FitsList list lists fit in
    let cut : TermList = record list { postings = take n table } in
    let here : FitsList cut = record { term = first.term; df = first.df; cf = first.cf; postings = All-take value n table values } in
    All-cons FitsList cut (cut_anew lists (drop n table)) here (fits-cut_anew lists (drop n table) (All-tail FitsList list lists fit) (All-drop value n table values))

-- ---- the records

no_record : DocRecord
no_record = record { name = []; length = pos 0 }

-- each number takes one record
taken_is : (order : List ℕ) (documents : List DocRecord) → All (λ old. old < length documents) order → taken_at order documents ≡ map (λ old. get_or documents old no_record) order
taken_is [] documents low = refl
taken_is (old ∷ order) documents low =
    let within : old < length documents = All-head (λ (k : ℕ). k < length documents) old order low in
    ap (λ (rs : List DocRecord). take 1 rs ++ taken_at order documents) (drop_more documents old no_record within)
    ∙ ap (λ (rs : List DocRecord). get_or documents old no_record ∷ rs) (taken_is order documents (All-tail (λ (k : ℕ). k < length documents) old order low))

All-taken : (P : DocRecord → Type 0) (order : List ℕ) (documents : List DocRecord) → All P documents → All P (taken_at order documents)
All-taken P [] documents all = All-nil P
All-taken P (old ∷ order) documents all = All-append P (take 1 (drop old documents)) (taken_at order documents) (All-take P 1 (drop old documents) (All-drop P old documents all)) (All-taken P order documents all)

-- the sum over numbers that differ is at most the sum over all
sum_agree : (f g : ℕ → ℕ) (ks : List ℕ) → All (λ k. f k ≡ g k) ks → sum_by f ks ≡ sum_by g ks
sum_agree f g [] same = refl
sum_agree f g (k ∷ ks) same =
    let first : f k ≡ g k = All-head (λ (j : ℕ). f j ≡ g j) k ks same in
    let rest = sum_agree f g ks (All-tail (λ (j : ℕ). f j ≡ g j) k ks same) in
    omega (arith, first, rest, sum_by-cons f k ks, sum_by-cons g k ks)

sum_of_different : (ks weights : List ℕ) → AllPairs (λ a b. a ≢ b) ks → All (λ k. k < length weights) ks → sum_by (λ k. get_or weights k 0) ks ≤ sum_by (λ n. n) weights
sum_of_different [] weights different below = omega arith
sum_of_different (k ∷ ks) weights different below =
    let without = set weights k 0 in
    let within : k < length weights = All-head (λ (j : ℕ). j < length weights) k ks below in
    let below' : All (λ (j : ℕ). j < length without) ks = λ i d lt. omega (arith, All-tail (λ (j : ℕ). j < length weights) k ks below i d lt, length-set weights k 0) in
    let different' : AllPairs (λ (a : ℕ) (b : ℕ). a ≢ b) ks = λ i j d lt inside. different (suc i) (suc j) d (omega (arith, lt)) (omega (arith, inside)) in
    let same : All (λ (j : ℕ). get_or weights j 0 ≡ get_or without j 0) ks = λ i d lt.
    let unlike : get_or ks i d ≢ k = λ e. different 0 (suc i) d (omega arith) (omega (arith, lt)) (sym e) in
    sym (get_or-set_other weights k (get_or ks i d) 0 0 unlike) in
    let rest = sum_of_different ks without different' below' in
    let moved = sum_agree (λ (j : ℕ). get_or weights j 0) (λ (j : ℕ). get_or without j 0) ks same in
    let changed = sum_by-set (λ (n : ℕ). n) weights k 0 0 within in
    omega (arith, rest, moved, changed, sum_by-cons (λ (j : ℕ). get_or weights j 0) k ks)

names_taken : (order : List ℕ) (documents : List DocRecord) → AllPairs (λ a b. a ≢ b) order → All (λ old. old < length documents) order
    → sum_by (λ document. length document.name) (taken_at order documents) ≤ sum_by (λ document. length document.name) documents
names_taken order documents different below =
    let size : DocRecord → ℕ = λ document. length document.name in
    let weights = map size documents in
    let below' : All (λ (k : ℕ). k < length weights) order = λ i d lt. omega (arith, below i d lt, length-map documents size) in
    let bound = sum_of_different order weights different below' in
    let all : sum_by (λ (n : ℕ). n) weights ≡ sum_by size documents = sum_by-mapped (λ (n : ℕ). n) size documents in
    let taken : sum_by size (taken_at order documents) ≡ sum_by (λ old. size (get_or documents old no_record)) order =
    ap (sum_by size) (taken_is order documents below) ∙ sum_by-mapped size (λ (old : ℕ). get_or documents old no_record) order in
    let same = sum_agree (λ (old : ℕ). size (get_or documents old no_record)) (λ (k : ℕ). get_or weights k 0) order (λ i d lt. sym (get_or-map size documents (get_or order i d) no_record 0 (below i d lt))) in
    omega (arith, bound, all, taken, same)

-- ---- both

pub IsIndex-moved : (index : IndexParts) (table : List Posting) (order : List ℕ) → IsIndex index → IsOrder order → length order ≡ length index.documents
    → length table ≡ posting_count index.lists → AreOrdered (length index.documents) (cut_anew index.lists table) → All (λ posting. FitsSigned w32 posting.tf) table
    → IsIndex (with_table index table order)
IsIndex-moved index table order h permutes documents_len table_len ordered values =
    let below : All (λ (old : ℕ). old < length index.documents) order = λ i d lt. omega (arith, permutes.numbers.below i d lt, documents_len) in
    let count = ap length (taken_is order index.documents below) ∙ length-map order (λ (old : ℕ). get_or index.documents old no_record) in
    let lists_len = length-cut_anew index.lists table in
    let terms = terms-cut_anew index.lists table in
    let postings = count-cut_anew index.lists table (omega (arith, table_len)) in
    let names = names_taken order index.documents permutes.numbers.different below in
    let term_bytes : sum_by (λ (list : TermList). length list.term) (cut_anew index.lists table) ≡ sum_by (λ (list : TermList). length list.term) index.lists =
    sym (sum_by-mapped (λ (text : List ℕ). length text) (λ (list : TermList). list.term) (cut_anew index.lists table)) ∙ ap (sum_by (λ (text : List ℕ). length text)) terms
    ∙ sum_by-mapped (λ (text : List ℕ). length text) (λ (list : TermList). list.term) index.lists in
    record {
      counted = record { lists = omega (arith, h.counted.lists, lists_len); documents = omega (arith, h.counted.documents, count, documents_len) };
      ordered = let same : length index.documents ≡ length (taken_at order index.documents) = omega (arith, count, documents_len) in subst (λ (n : ℕ). AreOrdered n (cut_anew index.lists table)) same ordered;
      different = subst AreDifferent (sym terms) h.different;
      sized = record { postings = omega (arith, postings, h.sized.postings); text = omega (arith, names, term_bytes, h.sized.text) };
      header = h.header;
      lists = fits-cut_anew index.lists table h.lists values;
      documents = All-taken FitsRecord order index.documents h.documents;
    }

-- the parts that columns make
abbrev pub columns : Header → List (List ℕ) → List Counts → List (List Posting) → List (List ℕ) → List ℤ → IndexParts
columns header terms counts closed names sizes = record { header = header; lists = lists_of terms counts closed; documents = records_of names sizes }

-- the parts that moved columns make are those of the index with that table and order
pub moved_parts : (header header' : Header) (terms terms' : List (List ℕ)) (counts counts' : List Counts) (closed closed' : List (List Posting)) (names names' : List (List ℕ)) (sizes sizes' : List ℤ)
    (table : List Posting) (order : List ℕ)
    → header' ≡ header → terms' ≡ terms → counts' ≡ counts → closed' ≡ cut_like closed table → names' ≡ map (λ old. get_or names old []) order → sizes' ≡ map (λ old. get_or sizes old (pos 0)) order
    → length names ≡ length sizes → All (λ old. old < length names) order
    → columns header' terms' counts' closed' names' sizes' ≡ with_table (columns header terms counts closed names sizes) table order
moved_parts header header' terms terms' counts counts' closed closed' names names' sizes sizes' table order eh et en ep ed es len below =
    let moved_names = map (λ (old : ℕ). get_or names old []) order in
    let moved_sizes = map (λ (old : ℕ). get_or sizes old (pos 0)) order in
    ap (λ (h : Header). columns h terms' counts' closed' names' sizes') eh
    ∙ ap (λ (ts : List (List ℕ)). columns header ts counts' closed' names' sizes') et
    ∙ ap (λ (ns : List Counts). columns header terms ns closed' names' sizes') en
    ∙ ap (λ (ps : List (List Posting)). columns header terms counts ps names' sizes') ep
    ∙ ap (λ (ds : List (List ℕ)). columns header terms counts (cut_like closed table) ds sizes') ed
    ∙ ap (λ (ss : List ℤ). columns header terms counts (cut_like closed table) moved_names ss) es
    ∙ ap (λ (ls : List TermList). let parts : IndexParts = record { header = header; lists = ls; documents = records_of moved_names moved_sizes } in parts) (sym (cut_anew-lists_of terms counts closed table))
    ∙ ap (λ (rs : List DocRecord). let parts : IndexParts = record { header = header; lists = cut_anew (lists_of terms counts closed) table; documents = rs } in parts) (sym (taken_at-records_of order names sizes len below))
