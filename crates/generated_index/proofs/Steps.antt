-- What one more draw, and one more document, make of rows, cursors and the table.
use Rattle.std.proofs.Common.{◌≡◌, ◌≢◌, ℕ, zero, suc, pos, ◌+◌, ◌-◌, ◌*◌, ◌<◌, ◌≤◌, ◌⊎◌, inl, inr, Bool, true, false, cond, List, [], ◌∷◌, ◌++◌, length, get_or, set, take, drop, take-take, map, sum_by, All, nat_lt, refl, sym, ap, subst, ◌∙◌, arith, add-one, add-zero, zero-add, length-append, length-drop, length-set}
use Rattle.std.specs.List.{range_with_len, filter, count_by}
use Rattle.std.proofs.lemmas.Bool.{cases_lt, cases_eq, le-leb}
use Rattle.std.proofs.lemmas.Bool.Decides.{nat_tests}
use Rattle.std.proofs.lemmas.List.{map-append, append-nil, length-map, get_or-set_same, get_or-set_other, take-append-le, take-set-le, drop-set-lt, drop-set-add, take_more_set}
use Rattle.std.proofs.lemmas.List.Elements.{filter-append, All-from_get_or}
use Rattle.std.proofs.lemmas.List.Sums.{length-filter, count_by-le-length, sum_by_push, sum_by-le}
use Rattle.std.proofs.lemmas.List.FromFn.{length-range_with_len}
use Rattle.std.proofs.Math.Seq.{take-append_seam, take-length}
use Rattle.std.proofs.Math.Dec.{eqb}
use Rattle.rgb_base.specs.declared.parts.Posting.{Posting}
use Rattle.generated_index.specs.declared.cursor.Cursor.{Cursor}
use Rattle.generated_index.specs.Generated.{term_drawn, times_drawn, tf_of, postings_of, total_drawn, all_terms}
use Rattle.generated_index.specs.Steps.{posting_if, row_at, advanced, IsCursor, no_cursor, cursor_at, AreCursors, begins, AreFilled}
use Rattle.generated_index.proofs.Ranges.{range_more, equal, unequal, below, not_below, not_le}

-- ---- how often a term was drawn

times_more : (number term document draws : ℕ) → times_drawn number term document (draws + 1) ≡ times_drawn number term document draws + cond (eqb (term_drawn number document draws) term) 1 0
unfolding times_drawn
times_more number term document draws =
    let one : ℕ → ℕ = λ place. cond (eqb (term_drawn number document place) term) 1 0 in
    ap (sum_by one) (range_more draws) ∙ sum_by_push one (range_with_len 0 draws) draws

pub times_none : (number term document : ℕ) → times_drawn number term document 0 ≡ 0
unfolding times_drawn
times_none number term document = refl

pub times_hit : (number term document draws : ℕ) → term_drawn number document draws ≡ term → times_drawn number term document (draws + 1) ≡ times_drawn number term document draws + 1
times_hit number term document draws same =
    times_more number term document draws ∙ ap (λ (b : Bool). times_drawn number term document draws + cond b 1 0) (equal (term_drawn number document draws) term same)

pub times_miss : (number term document draws : ℕ) → term_drawn number document draws ≢ term → times_drawn number term document (draws + 1) ≡ times_drawn number term document draws
times_miss number term document draws other =
    times_more number term document draws ∙ ap (λ (b : Bool). times_drawn number term document draws + cond b 1 0) (unequal (term_drawn number document draws) term other) ∙ add-zero (times_drawn number term document draws)

pub times_le : (number term document draws : ℕ) → times_drawn number term document draws ≤ draws
unfolding times_drawn
times_le number term document draws =
    let p : ℕ → Bool = λ place. eqb (term_drawn number document place) term in
    omega (arith, count_by-le-length p (range_with_len 0 draws), length-range_with_len 0 draws)

times_grow : (number term document draws : ℕ) → times_drawn number term document draws ≤ times_drawn number term document (draws + 1)
times_grow number term document draws =
    let n = times_drawn number term document draws in
    elim (cases_eq (term_drawn number document draws) term) [
      | inl same ↦ omega (arith, times_hit number term document draws same)
      | inr other ↦ omega (arith, times_miss number term document draws other)
    ]

times_later : (number term document draws more : ℕ) → times_drawn number term document draws ≤ times_drawn number term document (draws + more)
times_later number term document draws zero = let same = ap (times_drawn number term document) (add-zero draws) in omega (arith, same)
times_later number term document draws (suc more) =
    let before = times_later number term document draws more in
    let step = times_grow number term document (draws + more) in
    let place : (draws + more) + 1 ≡ draws + suc more = omega arith in
    let same = ap (times_drawn number term document) place in
    omega (arith, before, step, same)

pub times_within : (number term document draws : ℕ) → draws ≤ 20 → times_drawn number term document draws ≤ tf_of number term document
unfolding tf_of
times_within number term document draws low =
    let place : draws + (20 - draws) ≡ 20 = omega (arith, low) in
    let same = ap (times_drawn number term document) place in
    omega (arith, times_later number term document draws (20 - draws), same)

pub tf_le : (number term document : ℕ) → tf_of number term document ≤ 20
unfolding tf_of
tf_le number term document = times_le number term document 20

-- ---- the postings of whole documents

posting_at : (b : Bool) (f : ℕ → Posting) (document : ℕ) → map f (cond b (document ∷ []) []) ≡ cond b (f document ∷ []) []
posting_at true f document = refl
posting_at false f document = refl

pub postings_more : (number documents term : ℕ) → postings_of number (documents + 1) term ≡ postings_of number documents term ++ posting_if documents (tf_of number term documents)
unfolding postings_of
postings_more number documents term =
    let p : ℕ → Bool = λ document. nat_lt 0 (tf_of number term document) in
    let f : ℕ → Posting = λ document. record { doc = document; tf = pos (tf_of number term document) } in
    let before = range_with_len 0 documents in
    ap (λ (ds : List ℕ). map f (filter p ds)) (range_more documents)
    ∙ ap (map f) (filter-append p before (documents ∷ []))
    ∙ map-append f (filter p before) (filter p (documents ∷ []))
    ∙ ap (λ (ps : List Posting). map f (filter p before) ++ ps) (posting_at (p documents) f documents)

pub postings_none : (number term : ℕ) → postings_of number 0 term ≡ []
unfolding postings_of
postings_none number term = refl

length-posting_at : (b : Bool) (posting : Posting) → length (cond b (posting ∷ []) []) ≡ cond b 1 0
length-posting_at true posting = refl
length-posting_at false posting = refl

pub length-posting_some : (document times : ℕ) → 0 < times → length (posting_if document times) ≡ 1
length-posting_some document times some =
    let posting : Posting = record { doc = document; tf = pos times } in
    length-posting_at (nat_lt 0 times) posting ∙ ap (λ (b : Bool). cond b 1 0) (below 0 times some)

pub length-posting_none : (document times : ℕ) → times ≡ 0 → length (posting_if document times) ≡ 0
length-posting_none document times none =
    let posting : Posting = record { doc = document; tf = pos times } in
    length-posting_at (nat_lt 0 times) posting ∙ ap (λ (b : Bool). cond b 1 0) (not_below 0 times (omega (arith, none)))

some_or_none : (n : ℕ) → (0 < n) ⊎ (n ≡ 0)
some_or_none zero = inr refl
some_or_none (suc n) = inl (omega arith)

length-posting_le : (document times : ℕ) → length (posting_if document times) ≤ 1
length-posting_le document times = elim (some_or_none times) [
  | inl some ↦ omega (arith, length-posting_some document times some)
  | inr none ↦ omega (arith, length-posting_none document times none)
]

pub postings_le : (number documents term : ℕ) → length (postings_of number documents term) ≤ documents
postings_le number zero term = let none = ap (λ (ps : List Posting). length ps) (postings_none number term) in omega (arith, none)
postings_le number (suc documents) term =
    let before = postings_le number documents term in
    let same = ap (λ (n : ℕ). length (postings_of number n term)) (add-one documents) in
    let more = ap (λ (ps : List Posting). length ps) (postings_more number documents term) in
    let split = length-append (postings_of number documents term) (posting_if documents (tf_of number term documents)) in
    omega (arith, before, same, more, split, length-posting_le documents (tf_of number term documents))

postings_later : (number documents more term : ℕ) → length (postings_of number documents term) ≤ length (postings_of number (documents + more) term)
postings_later number documents zero term = let same = ap (λ (n : ℕ). length (postings_of number n term)) (add-zero documents) in omega (arith, same)
postings_later number documents (suc more) term =
    let before = postings_later number documents more term in
    let place : (documents + more) + 1 ≡ documents + suc more = omega arith in
    let same = ap (λ (n : ℕ). length (postings_of number n term)) place in
    let whole = ap (λ (ps : List Posting). length ps) (postings_more number (documents + more) term) in
    let split = length-append (postings_of number (documents + more) term) (posting_if (documents + more) (tf_of number term (documents + more))) in
    omega (arith, before, same, whole, split)

pub postings_within : (number documents all term : ℕ) → documents ≤ all → length (postings_of number documents term) ≤ length (postings_of number all term)
postings_within number documents all term low =
    let place : documents + (all - documents) ≡ all = omega (arith, low) in
    let same = ap (λ (n : ℕ). length (postings_of number n term)) place in
    omega (arith, postings_later number documents (all - documents) term, same)

pub total_more : (number documents term : ℕ) → total_drawn number (documents + 1) term ≡ total_drawn number documents term + tf_of number term documents
unfolding total_drawn
total_more number documents term = ap (sum_by (tf_of number term)) (range_more documents) ∙ sum_by_push (tf_of number term) (range_with_len 0 documents) documents

pub total_none : (number term : ℕ) → total_drawn number 0 term ≡ 0
unfolding total_drawn
total_none number term = refl

pub total_le : (number documents term : ℕ) → total_drawn number documents term ≤ 20 * documents
total_le number zero term = let none = total_none number term in omega (arith, none)
total_le number (suc documents) term =
    let before = total_le number documents term in
    let same = ap (λ (n : ℕ). total_drawn number n term) (add-one documents) in
    let more = total_more number documents term in
    omega (arith, before, same, more, tf_le number term documents)

-- ---- rows

length-row : (number document draws term : ℕ) → length (row_at number document draws term) ≡ length (postings_of number document term) + length (posting_if document (times_drawn number term document draws))
unfolding row_at
length-row number document draws term = length-append (postings_of number document term) (posting_if document (times_drawn number term document draws))

pub row_miss : (number document draws term : ℕ) → term_drawn number document draws ≢ term → row_at number document (draws + 1) term ≡ row_at number document draws term
unfolding row_at
row_miss number document draws term other = ap (λ (n : ℕ). postings_of number document term ++ posting_if document n) (times_miss number term document draws other)

pub row_hit : (number document draws term : ℕ) → term_drawn number document draws ≡ term
    → row_at number document (draws + 1) term ≡ postings_of number document term ++ record { doc = document; tf = pos (times_drawn number term document (draws + 1)) } ∷ []
unfolding row_at
row_hit number document draws term same =
    let n = times_drawn number term document (draws + 1) in
    let some : 0 < n = omega (arith, times_hit number term document draws same) in
    ap (λ (b : Bool). postings_of number document term ++ cond b (record { doc = document; tf = pos n } ∷ []) []) (below 0 n some)

pub row_begins : (number document term : ℕ) → row_at number document 0 term ≡ postings_of number document term
unfolding row_at
row_begins number document term = ap (λ (n : ℕ). postings_of number document term ++ posting_if document n) (times_none number term document) ∙ append-nil (postings_of number document term)

whole_row : (number document term : ℕ) → row_at number document 20 term ≡ postings_of number document term ++ posting_if document (tf_of number term document)
unfolding row_at tf_of
whole_row number document term = refl

pub row_ends : (number document term : ℕ) → row_at number document 20 term ≡ row_at number (document + 1) 0 term
row_ends number document term = whole_row number document term ∙ sym (postings_more number document term) ∙ sym (row_begins number (document + 1) term)

-- the row of a document is no longer than that of all
pub row_within : (number document draws all term : ℕ) → draws ≤ 20 → document < all → length (row_at number document draws term) ≤ length (postings_of number all term)
row_within number document draws all term low within =
    let n = times_drawn number term document draws in
    let m = tf_of number term document in
    let len = length-row number document draws term in
    let whole = ap (λ (ps : List Posting). length ps) (postings_more number document term) in
    let split = length-append (postings_of number document term) (posting_if document m) in
    let all_of = postings_within number (document + 1) all term (omega (arith, within)) in
    let grow = times_within number term document draws low in
    elim (some_or_none n) [
      | inl some ↦ omega (arith, len, whole, split, all_of, length-posting_some document n some, length-posting_some document m (omega (arith, some, grow)))
      | inr none ↦ omega (arith, len, whole, split, all_of, length-posting_none document n none)
    ]

-- a posting of the document itself has room behind those of the documents before it
pub place_within : (number document draws all term : ℕ) → draws < 20 → document < all → term_drawn number document draws ≡ term → length (postings_of number document term) < length (postings_of number all term)
place_within number document draws all term low within same =
    let m = tf_of number term document in
    let whole = ap (λ (ps : List Posting). length ps) (postings_more number document term) in
    let split = length-append (postings_of number document term) (posting_if document m) in
    let all_of = postings_within number (document + 1) all term (omega (arith, within)) in
    let some : 0 < m = omega (arith, times_hit number term document draws same, times_within number term document (draws + 1) (omega (arith, low))) in
    omega (arith, whole, split, all_of, length-posting_some document m some)

-- ---- cursors

advanced_early : (document : ℕ) (cursor : Cursor) → cursor.after ≤ document → advanced document cursor ≡ record { end = cursor.end + 1; draws = cursor.draws + 1; after = document + 1; times = 1 }
advanced_early document cursor early =
    let first : Cursor = record { end = cursor.end + 1; draws = cursor.draws + 1; after = document + 1; times = 1 } in
    let more : Cursor = record cursor { draws = cursor.draws + 1; times = cursor.times + 1 } in
    ap (λ (b : Bool). cond b first more) (le-leb cursor.after document early)

advanced_late : (document : ℕ) (cursor : Cursor) → document < cursor.after → advanced document cursor ≡ record cursor { draws = cursor.draws + 1; times = cursor.times + 1 }
advanced_late document cursor late =
    let first : Cursor = record { end = cursor.end + 1; draws = cursor.draws + 1; after = document + 1; times = 1 } in
    let more : Cursor = record cursor { draws = cursor.draws + 1; times = cursor.times + 1 } in
    ap (λ (b : Bool). cond b first more) (not_le cursor.after document late)

-- a draw of the term
pub cursor_hit : (number document draws term base : ℕ) (cursor : Cursor) → IsCursor number document draws term base cursor → term_drawn number document draws ≡ term
    → IsCursor number document (draws + 1) term base (advanced document cursor)
cursor_hit number document draws term base cursor h same =
    let n = times_drawn number term document draws in
    let hit = times_hit number term document draws same in
    let row = ap (λ (ps : List Posting). length ps) (row_hit number document draws term same) in
    let posting : Posting = record { doc = document; tf = pos (times_drawn number term document (draws + 1)) } in
    let split = length-append (postings_of number document term) (posting ∷ []) in
    let len = length-row number document draws term in
    elim (some_or_none n) [
      | inl some ↦
          let late : document < cursor.after = omega (arith, h.after some) in
          let is : advanced document cursor ≡ record cursor { draws = cursor.draws + 1; times = cursor.times + 1 } = advanced_late document cursor late in
          subst (IsCursor number document (draws + 1) term base) (sym is) (record {
            end = omega (arith, h.end, row, split, len, length-posting_some document n some);
            drawn = omega (arith, h.drawn, hit);
            before = λ none. absurd (omega (arith, none, hit));
            after = λ _. h.after some;
            times = λ _. omega (arith, h.times some, hit);
          })
      | inr none ↦
          let early : cursor.after ≤ document = h.before none in
          let is = advanced_early document cursor early in
          subst (IsCursor number document (draws + 1) term base) (sym is) (record {
            end = omega (arith, h.end, row, split, len, length-posting_none document n none);
            drawn = omega (arith, h.drawn, hit);
            before = λ zero_times. absurd (omega (arith, zero_times, hit));
            after = λ _. refl;
            times = λ _. omega (arith, none, hit);
          })
    ]

-- a draw of another term
pub cursor_miss : (number document draws term base : ℕ) (cursor : Cursor) → IsCursor number document draws term base cursor → term_drawn number document draws ≢ term
    → IsCursor number document (draws + 1) term base cursor
cursor_miss number document draws term base cursor h other =
    let miss = times_miss number term document draws other in
    let row = ap (λ (ps : List Posting). length ps) (row_miss number document draws term other) in
    record {
      end = omega (arith, h.end, row);
      drawn = omega (arith, h.drawn, miss);
      before = λ none. h.before (omega (arith, none, miss));
      after = λ some. h.after (omega (arith, some, miss));
      times = λ some. omega (arith, h.times (omega (arith, some, miss)), miss);
    }

all_times : (number document term : ℕ) → times_drawn number term document 20 ≡ tf_of number term document
unfolding tf_of
all_times number document term = refl

-- the next document
pub cursor_next : (number document term base : ℕ) (cursor : Cursor) → IsCursor number document 20 term base cursor → IsCursor number (document + 1) 0 term base cursor
cursor_next number document term base cursor h =
    let n = times_drawn number term document 20 in
    let row = ap (λ (ps : List Posting). length ps) (row_ends number document term) in
    let none = times_none number term (document + 1) in
    let low : cursor.after ≤ document + 1 = elim (some_or_none n) [
      | inl some ↦ omega (arith, h.after some)
      | inr never ↦ omega (arith, h.before never)
    ] in
    record {
      end = omega (arith, h.end, row);
      drawn = omega (arith, h.drawn, total_more number document term, all_times number document term, none);
      before = λ _. low;
      after = λ some. absurd (omega (arith, some, none));
      times = λ some. absurd (omega (arith, some, none));
    }

-- a fresh cursor before the first document
pub cursor_fresh : (number term base : ℕ) → IsCursor number 0 0 term base (record no_cursor { end = base })
cursor_fresh number term base =
    let row = ap (λ (ps : List Posting). length ps) (row_begins number 0 term ∙ postings_none number term) in
    let none = times_none number term 0 in
    record {
      end = omega (arith, row);
      drawn = omega (arith, total_none number term, none);
      before = λ _. omega arith;
      after = λ some. absurd (omega (arith, some, none));
      times = λ some. absurd (omega (arith, some, none));
    }

-- bounds of a cursor, so that none of its numbers is too large for its type
pub cursor_below : (number document draws term base : ℕ) (cursor : Cursor) → IsCursor number document draws term base cursor → draws ≤ 20
    → (cursor.end ≤ base + document + 1) × (cursor.draws ≤ 20 * document + 20) × (document < cursor.after → cursor.times ≤ 20)
cursor_below number document draws term base cursor h low =
    let n = times_drawn number term document draws in
    let len = length-row number document draws term in
    let few = times_le number term document draws in (
      omega (arith, h.end, len, postings_le number document term, length-posting_le document n),
      omega (arith, h.drawn, few, total_le number document term),
      λ late. elim (some_or_none n) [
        | inl some ↦ omega (arith, h.times some, few)
        | inr none ↦ absurd (omega (arith, late, h.before none))
      ],
    )

pub cursors_drawn : (number document draws term : ℕ) (base : ℕ → ℕ) (cursors : List Cursor) → AreCursors number document draws base cursors → term_drawn number document draws ≡ term → term < all_terms
    → AreCursors number document (draws + 1) base (set cursors term (advanced document (cursor_at cursors term)))
cursors_drawn number document draws term base cursors h same within = record {
  len = length-set cursors term (advanced document (cursor_at cursors term)) ∙ h.len;
  each = λ k lt.
      let cursor = advanced document (cursor_at cursors term) in
      elim (cases_eq k term) [
        | inl here ↦
            let put : cursor_at (set cursors term cursor) k ≡ cursor = ap (cursor_at (set cursors term cursor)) here ∙ get_or-set_same cursors term cursor no_cursor (omega (arith, h.len, within)) in
            let hit = cursor_hit number document draws k (base k) (cursor_at cursors k) (h.each k lt) (same ∙ sym here) in
            subst (IsCursor number document (draws + 1) k (base k)) (ap (λ (t : ℕ). advanced document (cursor_at cursors t)) here ∙ sym put) hit
        | inr other ↦
            let kept : cursor_at (set cursors term cursor) k ≡ cursor_at cursors k = get_or-set_other cursors term k cursor no_cursor other in
            let miss = cursor_miss number document draws k (base k) (cursor_at cursors k) (h.each k lt) (λ e. other (sym e ∙ same)) in
            subst (IsCursor number document (draws + 1) k (base k)) (sym kept) miss
      ];
}

pub cursors_next : (number document : ℕ) (base : ℕ → ℕ) (cursors : List Cursor) → AreCursors number document 20 base cursors → AreCursors number (document + 1) 0 base cursors
cursors_next number document base cursors h = record {
  len = h.len;
  each = λ k lt. cursor_next number document k (base k) (cursor_at cursors k) (h.each k lt);
}

-- ---- the table

pub begins_more : (number documents term : ℕ) → begins number documents (term + 1) ≡ begins number documents term + length (postings_of number documents term)
unfolding begins
begins_more number documents term =
    let size : ℕ → ℕ = λ other. length (postings_of number documents other) in
    ap (sum_by size) (range_more term) ∙ sum_by_push size (range_with_len 0 term) term

pub begins_none : (number documents : ℕ) → begins number documents 0 ≡ 0
unfolding begins
begins_none number documents = refl

begins_later : (number documents term more : ℕ) → begins number documents term ≤ begins number documents (term + more)
begins_later number documents term zero = let same = ap (begins number documents) (add-zero term) in omega (arith, same)
begins_later number documents term (suc more) =
    let place : (term + more) + 1 ≡ term + suc more = omega arith in
    let same = ap (begins number documents) place in
    omega (arith, begins_later number documents term more, begins_more number documents (term + more), same)

pub begins_within : (number documents term later : ℕ) → term ≤ later → begins number documents term ≤ begins number documents later
begins_within number documents term later low =
    let place : term + (later - term) ≡ later = omega (arith, low) in
    let same = ap (begins number documents) place in
    omega (arith, begins_later number documents term (later - term), same)

pub begins_le : (number documents term : ℕ) → begins number documents term ≤ term * documents
begins_le number documents zero = let none = begins_none number documents in omega (arith, none)
begins_le number documents (suc term) =
    let same = ap (begins number documents) (add-one term) in
    omega (arith, begins_le number documents term, begins_more number documents term, same, postings_le number documents term)

-- a part of the table ahead of what is written, and one behind it
part_before : (table : List Posting) (from size i : ℕ) (posting : Posting) → from + size ≤ i → take size (drop from (set table i posting)) ≡ take size (drop from table)
part_before table from size i posting low =
    let place : i ≡ from + (i - from) = omega (arith, low) in
    ap (λ (k : ℕ). take size (drop from (set table k posting))) place ∙ ap (take size) (drop-set-add from table (i - from) posting) ∙ take-set-le size (drop from table) (i - from) posting (omega (arith, low))

part_behind : (table : List Posting) (from size i : ℕ) (posting : Posting) → i < from → take size (drop from (set table i posting)) ≡ take size (drop from table)
part_behind table from size i posting low = ap (take size) (drop-set-lt from table i posting low)

-- one more posting in a part
part_more : (table : List Posting) (from size : ℕ) (posting : Posting) → from + size < length table → take (size + 1) (drop from (set table (from + size) posting)) ≡ take size (drop from table) ++ posting ∷ []
part_more table from size posting within =
    ap (take (size + 1)) (drop-set-add from table size posting) ∙ take_more_set (drop from table) size posting (omega (arith, within, length-drop from table))

take_shorter : (n m : ℕ) (ps : List Posting) → n ≤ m → take n (take m ps) ≡ take n ps
take_shorter n m ps low = take-take n m ps low

-- the postings of whole documents stand in front of a row
front_of_row : (number document draws term from : ℕ) (table : List Posting) → take (length (row_at number document draws term)) (drop from table) ≡ row_at number document draws term
    → take (length (postings_of number document term)) (drop from table) ≡ postings_of number document term
unfolding row_at
front_of_row number document draws term from table there =
    let front = postings_of number document term in
    let row = front ++ posting_if document (times_drawn number term document draws) in
    let low : length front ≤ length row = omega (arith, length-append front (posting_if document (times_drawn number term document draws))) in
    sym (take_shorter (length front) (length row) (drop from table) low) ∙ ap (take (length front)) there ∙ take-append_seam front (posting_if document (times_drawn number term document draws))

there : (number document draws documents term : ℕ) (table : List Posting) (posting : Posting) → AreFilled number document draws documents table
    → term_drawn number document draws ≡ term → term < all_terms → length (postings_of number document term) < length (postings_of number documents term)
    → posting ≡ record { doc = document; tf = pos (times_drawn number term document (draws + 1)) }
    → take (length (row_at number document (draws + 1) term)) (drop (begins number documents term) (set table (begins number documents term + length (postings_of number document term)) posting))
    ≡ row_at number document (draws + 1) term
there number document draws documents term table posting h same small room is =
    let front = postings_of number document term in
    let from = begins number documents term in
    let row : row_at number document (draws + 1) term ≡ front ++ posting ∷ [] = row_hit number document draws term same ∙ ap (λ (p : Posting). front ++ p ∷ []) (sym is) in
    let len : length (row_at number document (draws + 1) term) ≡ length front + 1 = ap (λ (ps : List Posting). length ps) row ∙ length-append front (posting ∷ []) in
    let within : from + length front < length table = omega (arith, room, h.len, begins_more number documents term, begins_within number documents (term + 1) all_terms (omega (arith, small))) in
    ap (λ (n : ℕ). take n (drop from (set table (from + length front) posting))) len ∙ part_more table from (length front) posting within
    ∙ ap (λ (ps : List Posting). ps ++ posting ∷ []) (front_of_row number document draws term from table (h.each term small)) ∙ sym row

pub filled_drawn : (number document draws documents term : ℕ) (table : List Posting) (posting : Posting) → AreFilled number document draws documents table → draws < 20 → document < documents
    → term_drawn number document draws ≡ term → term < all_terms → posting ≡ record { doc = document; tf = pos (times_drawn number term document (draws + 1)) }
    → AreFilled number document (draws + 1) documents (set table (begins number documents term + length (postings_of number document term)) posting)
filled_drawn number document draws documents term table posting h low within same small is =
    let front = length (postings_of number document term) in
    let i = begins number documents term + front in
    let room = place_within number document draws documents term low within same in
    let next = begins_more number documents term in
    record {
      len = length-set table i posting ∙ h.len;
      each = λ k lt.
          elim (cases_lt k term) [
            | inl before ↦
                let kept = row_miss number document draws k (λ e. absurd (omega (arith, before, e, same))) in
                let fits = row_within number document draws documents k (omega (arith, low)) within in
                let apart : begins number documents k + length (row_at number document draws k) ≤ i = omega (arith, fits, begins_more number documents k, begins_within number documents (k + 1) term (omega (arith, before))) in
                ap (λ (row : List Posting). take (length row) (drop (begins number documents k) (set table i posting))) kept
                ∙ part_before table (begins number documents k) (length (row_at number document draws k)) i posting apart ∙ h.each k lt ∙ sym kept
            | inr not_before ↦ elim (cases_lt term k) [
              | inl behind ↦
                  let kept = row_miss number document draws k (λ e. absurd (omega (arith, behind, e, same))) in
                  let apart : i < begins number documents k = omega (arith, room, next, begins_within number documents (term + 1) k (omega (arith, behind))) in
                  ap (λ (row : List Posting). take (length row) (drop (begins number documents k) (set table i posting))) kept
                  ∙ part_behind table (begins number documents k) (length (row_at number document draws k)) i posting apart ∙ h.each k lt ∙ sym kept
              | inr not_behind ↦
                  let here : term ≡ k = omega (arith, not_before, not_behind) in
                  let P : ℕ → Type 0 = λ t. take (length (row_at number document (draws + 1) t)) (drop (begins number documents t) (set table i posting)) ≡ row_at number document (draws + 1) t in
                  subst P here (there number document draws documents term table posting h same small room is)
            ]
          ];
    }

pub filled_next : (number document documents : ℕ) (table : List Posting) → AreFilled number document 20 documents table → AreFilled number (document + 1) 0 documents table
filled_next number document documents table h = record {
  len = h.len;
  each = λ k lt.
      let P : List Posting → Type 0 = λ row. take (length row) (drop (begins number documents k) table) ≡ row in
      subst P (row_ends number document k) (h.each k lt);
}

-- an empty row stands anywhere
pub filled_fresh : (number documents : ℕ) (table : List Posting) → length table ≡ begins number documents all_terms → AreFilled number 0 0 documents table
filled_fresh number documents table len = record {
  len = len;
  each = λ k lt.
      let P : List Posting → Type 0 = λ row. take (length row) (drop (begins number documents k) table) ≡ row in
      subst P (sym (row_begins number 0 k ∙ postings_none number k)) refl;
}

-- all postings of a term
pub filled_all : (number documents term : ℕ) (table : List Posting) → AreFilled number documents 0 documents table → term < all_terms
    → take (length (postings_of number documents term)) (drop (begins number documents term) table) ≡ postings_of number documents term
filled_all number documents term table h small =
    let P : List Posting → Type 0 = λ row. take (length row) (drop (begins number documents term) table) ≡ row in
    subst P (row_begins number documents term) (h.each term small)
