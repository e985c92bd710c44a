-- The rows of a cell: how many there are, what is marked, and what is written.
use Rattle.std.proofs.Common.{◌≡◌, ℕ, suc, ◌+◌, ◌<◌, ◌≤◌, List, [], ◌∷◌, ◌++◌, length, get_or, set, take, drop, map, refl, sym, ap, subst, ◌∙◌, arith, All, AllPairs, Any, Contains, sum_by, inl, inr, zero-add, length-append}
use Rattle.std.specs.Prelude.{flat_map}
use Rattle.std.proofs.lemmas.Bool.{cases_eq, cases_lt}
use Rattle.std.proofs.lemmas.List.{append-nil, take_more, get_or_past, map_push, get_or-set_same, get_or-set_other, get_or_append_left, length-map}
use Rattle.std.proofs.lemmas.List.Elements.{All-push, All-weaker, All-tail, Contains-append_left, Contains-push}
use Rattle.std.proofs.lemmas.List.Quantifiers.{Any-push}
use Rattle.std.proofs.lemmas.List.Sums.{sum_by-cons, sum_by-take-drop, sum_by-drop_more, sum_by-take-le, sum_by_more}
use Rattle.std.proofs.lemmas.List.Concat.{flat_map-append, length-flat_map}
use Rattle.forward_index.specs.Forward.{row_at}
use Rattle.forward_index.specs.Marks.{AreMarked, AreMarks, AreWrittenRows, renamed_rows}
use Rattle.forward_index.specs.Rows.{ends}
use Rattle.forward_index.proofs.Sums.{AllPairs-tail}
use Rattle.forward_index.proofs.Filling.{total, before-le, ends-append}

-- ---- rising places

later : (place : ℕ) (places : List ℕ) → AllPairs (λ a b. a < b) (place ∷ places) → All (λ p. place + 1 ≤ p) places
later place places rising k d lt = let less : place < get_or places k d = rising 0 (suc k) d (omega arith) (omega (arith, lt)) in omega (arith, less)

pub places_few : (rows : List (List ℕ)) (places : List ℕ) (low : ℕ) → AllPairs (λ a b. a < b) places → All (λ place. place < length rows) places → All (λ place. low ≤ place) places
    → sum_by (λ place. length (row_at rows place)) places ≤ total (drop low rows)
places_few rows [] low rising below above = omega arith
places_few rows (place ∷ places) low rising below above =
    let rest = places_few rows places (place + 1) (AllPairs-tail (λ (a b : ℕ). a < b) place places rising) (All-tail (λ (p : ℕ). p < length rows) place places below) (later place places rising) in
    let within : place < length rows = below 0 0 (omega arith) in
    let low_le : low ≤ place = above 0 0 (omega arith) in
    omega (arith, rest, sum_by-cons (λ (p : ℕ). length (row_at rows p)) place places, sum_by-drop_more (λ (r : List ℕ). length r) rows place [] within, sum_by-take-drop (λ (r : List ℕ). length r) rows place, sum_by-take-drop (λ (r : List ℕ). length r) rows low, before-le rows low place low_le)

pub length_places : (n : ℕ) (places : List ℕ) (low : ℕ) → low ≤ n → AllPairs (λ a b. a < b) places → All (λ place. place < n) places → All (λ place. low ≤ place) places → length places + low ≤ n
length_places n [] low le rising below above = omega (arith, le)
length_places n (place ∷ places) low le rising below above =
    let within : place < n = below 0 0 (omega arith) in
    let low_le : low ≤ place = above 0 0 (omega arith) in
    let rest = length_places n places (place + 1) (omega (arith, within)) (AllPairs-tail (λ (a b : ℕ). a < b) place places rising) (All-tail (λ (p : ℕ). p < n) place places below) (later place places rising) in
    omega (arith, rest, low_le)

pub entries_few : (rows : List (List ℕ)) (places : List ℕ) → AllPairs (λ a b. a < b) places → All (λ place. place < length rows) places
    → sum_by (λ place. length (row_at rows place)) places ≤ total rows
entries_few rows places rising below = places_few rows places 0 rising below (λ k d lt. omega arith)

-- the row at a place, and those before it
pub next_few : (rows : List (List ℕ)) (places : List ℕ) (j : ℕ) → AllPairs (λ a b. a < b) places → All (λ place. place < length rows) places → j < length places
    → sum_by (λ place. length (row_at rows place)) (take j places) + length (row_at rows (get_or places j 0)) ≤ total rows
next_few rows places j rising below lt =
    omega (arith, sum_by_more (λ (p : ℕ). length (row_at rows p)) places j 0 lt, sum_by-take-le (λ (p : ℕ). length (row_at rows p)) places (j + 1), entries_few rows places rising below)

-- ---- marks

pub marked_more : (row old now : List ℕ) (i : ℕ) → i < length row → get_or row i 0 < length now → AreMarked (take i row) old now → AreMarked (take (i + 1) row) old (set now (get_or row i 0) 1)
marked_more row old now i lt within is =
    let x = get_or row i 0 in
    let more : take (i + 1) row ≡ take i row ++ x ∷ [] = take_more row i 0 lt in
    let here : get_or (set now x 1) x 0 ≡ 1 = get_or-set_same now x 1 0 within in
    let kept : (t : ℕ) → get_or now t 0 ≡ 1 → get_or (set now x 1) t 0 ≡ 1 = (λ t one. elim (cases_eq t x) [
      | inl e ↦ ap (λ (n : ℕ). get_or (set now x 1) n 0) e ∙ here
      | inr ne ↦ get_or-set_other now x t 1 0 ne ∙ one
    ]) in
    let pushed : AreMarked (take i row ++ x ∷ []) old (set now x 1) = record {
      marked = All-push (λ (t : ℕ). get_or (set now x 1) t 0 ≡ 1) (take i row) x (All-weaker (λ (t : ℕ). get_or now t 0 ≡ 1) (λ (t : ℕ). get_or (set now x 1) t 0 ≡ 1) kept (take i row) is.marked) here;
      others = λ t. elim (cases_eq t x) [
        | inl e ↦ inr (subst (Contains (take i row ++ x ∷ [])) (sym e) (Contains-push (take i row) x), ap (λ (n : ℕ). get_or (set now x 1) n 0) e ∙ here)
        | inr ne ↦ elim (is.others t) [
          | inl same ↦ inl (get_or-set_other now x t 1 0 ne ∙ same)
          | inr there ↦ inr (Contains-append_left (take i row) (x ∷ []) t there.0, kept t there.1)
        ]
      ];
    } in
    subst (λ (r : List ℕ). AreMarked r old (set now x 1)) (sym more) pushed

pub marks_none : (rows : List (List ℕ)) (marks : List ℕ) → All (λ mark. mark ≡ 0) marks → AreMarks rows [] marks
marks_none rows marks noughts =
    let nought : (t : ℕ) → get_or marks t 0 ≡ 0 = (λ t. elim (cases_lt t (length marks)) [
      | inl lt ↦ noughts t 0 lt
      | inr ge ↦ get_or_past marks t 0 ge
    ]) in
    record {
      bits = λ t. omega (arith, nought t);
      occur = λ t one. absurd (omega (arith, nought t, one));
      marked = λ k d lt. absurd (omega (arith, lt));
    }

Any-append_left : (P : ℕ → Type 0) (xs ys : List ℕ) → Any P xs → Any P (xs ++ ys)
Any-append_left P xs ys any =
    let lt = any.2 in
    (any.0, any.1, omega (arith, lt, length-append xs ys), get_or_append_left xs ys any.1 any.0 any.2 ∙ any.3, any.4)

marks_push : (rows : List (List ℕ)) (places marks new : List ℕ) (place : ℕ) → AreMarks rows places marks → AreMarked (row_at rows place) marks new → AreMarks rows (places ++ place ∷ []) new
marks_push rows places marks new place is step =
    let kept : (t : ℕ) → get_or marks t 0 ≡ 1 → get_or new t 0 ≡ 1 = (λ t one. elim (step.others t) [
      | inl same ↦ same ∙ one
      | inr there ↦ there.1
    ]) in
    record {
      bits = λ t. elim (step.others t) [
        | inl same ↦ omega (arith, same, is.bits t)
        | inr there ↦ let one = there.1 in omega (arith, one)
      ];
      occur = λ t one. elim (step.others t) [
        | inl same ↦ Any-append_left (λ (p : ℕ). Contains (row_at rows p) t) places (place ∷ []) (is.occur t (sym same ∙ one))
        | inr there ↦ Any-push (λ (p : ℕ). Contains (row_at rows p) t) places place there.0
      ];
      marked = All-push (λ (p : ℕ). All (λ t. get_or new t 0 ≡ 1) (row_at rows p)) places place
          (All-weaker (λ (p : ℕ). All (λ t. get_or marks t 0 ≡ 1) (row_at rows p)) (λ (p : ℕ). All (λ t. get_or new t 0 ≡ 1) (row_at rows p)) (λ p all. All-weaker (λ (t : ℕ). get_or marks t 0 ≡ 1) (λ (t : ℕ). get_or new t 0 ≡ 1) kept (row_at rows p) all) places is.marked)
          step.marked;
    }

pub marks_more : (rows : List (List ℕ)) (places marks new : List ℕ) (j : ℕ) → j < length places → AreMarks rows (take j places) marks → AreMarked (row_at rows (get_or places j 0)) marks new
    → AreMarks rows (take (j + 1) places) new
marks_more rows places marks new j lt is step =
    subst (λ (ps : List ℕ). AreMarks rows ps new) (sym (take_more places j 0 lt)) (marks_push rows (take j places) marks new (get_or places j 0) is step)

-- ---- rows by other numbers

pub renamed_more : (rows : List (List ℕ)) (numbers places : List ℕ) (j : ℕ) → j < length places
    → renamed_rows rows numbers (take (j + 1) places) ≡ renamed_rows rows numbers (take j places) ++ map (λ term. get_or numbers term 0) (row_at rows (get_or places j 0)) ∷ []
renamed_more rows numbers places j lt =
    let row : ℕ → List ℕ = (λ place. map (λ term. get_or numbers term 0) (row_at rows place)) in
    ap (map row) (take_more places j 0 lt) ∙ map_push row (take j places) (get_or places j 0)

pub total-renamed : (rows : List (List ℕ)) (numbers places : List ℕ) → total (renamed_rows rows numbers places) ≡ sum_by (λ place. length (row_at rows place)) places
total-renamed rows numbers [] = refl
total-renamed rows numbers (place ∷ places) =
    let rest = total-renamed rows numbers places in
    let row = map (λ (term : ℕ). get_or numbers term 0) (row_at rows place) in
    omega (arith, rest, sum_by-cons (λ (r : List ℕ). length r) row (renamed_rows rows numbers places), sum_by-cons (λ (p : ℕ). length (row_at rows p)) place places, length-map (row_at rows place) (λ (term : ℕ). get_or numbers term 0))

pub flat_more : (rows : List (List ℕ)) (row : List ℕ) → flat_map (λ r. r) (rows ++ row ∷ []) ≡ flat_map (λ r. r) rows ++ row
flat_more rows row = flat_map-append (λ (r : List ℕ). r) rows (row ∷ []) ∙ ap (λ (xs : List ℕ). flat_map (λ r. r) rows ++ xs) (append-nil row)

pub ends_more : (rows : List (List ℕ)) (row : List ℕ) → ends 0 (rows ++ row ∷ []) ≡ ends 0 rows ++ (total rows + length row) ∷ []
ends_more rows row = ends-append 0 rows (row ∷ []) ∙ ap (λ (n : ℕ). ends 0 rows ++ (n + length row) ∷ []) (zero-add (total rows))

pub length-flat : (rows : List (List ℕ)) → length (flat_map (λ row. row) rows) ≡ total rows
length-flat rows = length-flat_map (λ (row : List ℕ). row) rows

-- one row more is written
pub written_more : (rows : List (List ℕ)) (places numbers : List ℕ) (j : ℕ) (ends_old ends_new old new row : List ℕ) (end : ℕ) → j < length places → row_at rows (get_or places j 0) ≡ row
    → AreWrittenRows rows (take j places) numbers ends_old old → new ≡ old ++ map (λ term. get_or numbers term 0) row → end ≡ length new → ends_new ≡ ends_old ++ end ∷ []
    → AreWrittenRows rows (take (j + 1) places) numbers ends_new new
written_more rows places numbers j ends_old ends_new old new row end lt read is new_is end_is ends_is =
    let renamed : List ℕ → List ℕ = map (λ (term : ℕ). get_or numbers term 0) in
    let before = renamed_rows rows numbers (take j places) in
    let here = renamed (row_at rows (get_or places j 0)) in
    let more : renamed_rows rows numbers (take (j + 1) places) ≡ before ++ here ∷ [] = renamed_more rows numbers places j lt in
    let filled : new ≡ flat_map (λ (r : List ℕ). r) (before ++ here ∷ []) =
    new_is ∙ ap (λ (xs : List ℕ). xs ++ renamed row) is.filled ∙ ap (λ (r : List ℕ). flat_map (λ (x : List ℕ). x) before ++ renamed r) (sym read) ∙ sym (flat_more before here) in
    let size : end ≡ total before + length here = end_is ∙ ap length new_is ∙ length-append old (renamed row) ∙ ap (λ (n : ℕ). n + length (renamed row)) (ap length is.filled ∙ length-flat before) ∙ ap (λ (r : List ℕ). total before + length (renamed r)) (sym read) in
    record {
      ends = ends_is ∙ ap (λ (xs : List ℕ). xs ++ end ∷ []) is.ends ∙ ap (λ (n : ℕ). ends 0 before ++ n ∷ []) size ∙ sym (ends_more before here) ∙ ap (ends 0) (sym more);
      filled = filled ∙ ap (flat_map (λ (r : List ℕ). r)) (sym more);
    }
