-- Bands of documents: what each adds to the rows of documents, and to what lists have passed.
use Rattle.std.proofs.Common.{◌≡◌, ◌≢◌, ◌==◌, ℕ, ◌+◌, ◌-◌, ◌<◌, ◌≤◌, List, [], ◌++◌, length, get_or, take, drop, map, replicate, refl, sym, ap, subst, ◌∙◌, arith, All, cond, eqb, inl, inr, length-drop, length-append}
use Rattle.std.specs.Prelude.{nat_le}
use Rattle.std.specs.List.Sorted.{IsStrictlyIncreasing}
use Rattle.std.proofs.Math.Seq.{take-add}
use Rattle.std.proofs.lemmas.Bool.{cases_lt, cond-true, cond-false, le-leb, lt-leb, ne_eqb}
use Rattle.std.proofs.lemmas.List.{take_all, drop-drop, drop-map, get_or_default, length-replicate, length-take-le, get_or-take, get_or-drop, get_or-map, length-map, append-nil}
use Rattle.std.proofs.lemmas.List.Elements.{All-take, All-drop, All-append}
use Rattle.std.proofs.lemmas.List.Kept.{AllPairs-from_increasing}
use Rattle.std.proofs.lemmas.List.Sums.{sum_by-take-drop}
use Rattle.rgb_base.specs.declared.parts.Posting.{Posting}
use Rattle.rgb_base.specs.declared.parts.TermList.{TermList}
use Rattle.rgb_base.specs.Parts.{IsPostings}
use Rattle.forward_index.specs.declared.bands.Band.{Band}
use Rattle.forward_index.specs.Rows.{times, kept_times, row_from}
use Rattle.forward_index.specs.Bands.{IsPassed, band_times, row_below}
use Rattle.forward_index.proofs.Rows.{no_list, row_more, row_fits}
use Rattle.forward_index.proofs.Sums.{sum_by-none}

-- ---- tests of numbers

cond_le : {A : Type 0} (a b : ℕ) (x y : A) → a ≤ b → cond (nat_le a b) x y ≡ x
cond_le {A} a b x y le = cond-true {A = A} (nat_le a b) x y (le-leb a b le)

cond_gt : {A : Type 0} (a b : ℕ) (x y : A) → b < a → cond (nat_le a b) x y ≡ y
cond_gt {A} a b x y lt = cond-false {A = A} (nat_le a b) x y (lt-leb a b lt)

-- ---- postings of a document

times_none : (document : ℕ) (postings : List Posting) → All (λ posting. posting.doc ≢ document) postings → times document postings ≡ 0
times_none document postings none =
    sum_by-none (λ (posting : Posting). cond (posting.doc == document) 1 0) postings (λ k d lt.
    let no = cond-false {A = ℕ} (eqb (get_or postings k d).doc document) 1 0 (ne_eqb (get_or postings k d).doc document (none k d lt)) in
    omega (arith, no))

times_parts : (document : ℕ) (postings : List Posting) (n : ℕ) → times document (take n postings) + times document (drop n postings) ≡ times document postings
times_parts document postings n = sum_by-take-drop (λ (posting : Posting). cond (posting.doc == document) 1 0) postings n

-- ---- what a list has passed

module _ (postings : List Posting) (from limit passed more : ℕ) (order : from ≤ limit) (before : IsPassed from postings passed) (next : IsPassed limit (drop passed postings) more) where
  abbrev part : List Posting
  part = take more (drop passed postings)

  pub passed_more : IsPassed limit postings (passed + more)
  passed_more = record {
    within = omega (arith, before.within, next.within, length-drop passed postings);
    below = subst (All (λ (posting : Posting). posting.doc < limit)) (sym (take-add passed more postings))
        (All-append (λ (posting : Posting). posting.doc < limit) (take passed postings) part
        (λ k d lt. let low = before.below k d lt in omega (arith, low, order)) next.below);
    above = subst (All (λ (posting : Posting). limit ≤ posting.doc)) (drop-drop more passed postings) next.above;
  }

  -- a document of the band has all its postings in the part, and the others none
  pub part_within : (document : ℕ) → from ≤ document → document < limit → times document part ≡ times document postings
  part_within document low high =
      let front = times_none document (take passed postings) (λ k d lt e. let less = before.below k d lt in absurd (omega (arith, less, e, low))) in
      let back = times_none document (drop more (drop passed postings)) (λ k d lt e. let above = next.above k d lt in absurd (omega (arith, above, e, high))) in
      omega (arith, front, back, times_parts document postings passed, times_parts document (drop passed postings) more)

-- postings behind those passed, all below the limit
module _ (postings : List Posting) (from limit passed more : ℕ) (before : IsPassed from postings passed) (low : All (λ posting. posting.doc < limit) (take more (drop passed postings))) where
  pub part_before : (document : ℕ) → document < from → times document (take more (drop passed postings)) ≡ 0
  part_before document less =
      times_none document (take more (drop passed postings)) (λ k d lt e.
      let above = All-take (λ (posting : Posting). from ≤ posting.doc) more (drop passed postings) before.above k d lt in
      absurd (omega (arith, above, e, less)))

  pub part_behind : (document : ℕ) → limit ≤ document → times document (take more (drop passed postings)) ≡ 0
  part_behind document more' = times_none document (take more (drop passed postings)) (λ k d lt e. let less = low k d lt in absurd (omega (arith, less, e, more')))

  pub part_few : (band : Band) (min_df document : ℕ) → band.from ≡ from → band.limit ≡ limit → min_df ≤ length postings → times document (take more (drop passed postings)) ≤ band_times band min_df document postings
  part_few band min_df document from_is limit_is enough =
      let kept = cond_le min_df (length postings) (times document postings) 0 enough in
      let inner = cond (nat_le band.limit document) 0 (kept_times min_df document postings) in
      elim (cases_lt document band.from) [
        | inl less ↦ omega (arith, part_before document (omega (arith, less, from_is)))
        | inr ge ↦ elim (cases_lt document band.limit) [
          | inl less ↦
              omega (
                arith,
                cond_le band.from document inner 0 ge,
                cond_gt band.limit document 0 (kept_times min_df document postings) less,
                kept,
                times_parts document postings passed,
                times_parts document (drop passed postings) more,
              )
          | inr more' ↦ omega (arith, part_behind document (omega (arith, more', limit_is)))
        ]
      ]

-- what the list adds is what its part adds
pub part_times : (postings : List Posting) (band : Band) (passed more min_df document : ℕ) → IsPassed band.from postings passed → IsPassed band.limit (drop passed postings) more → min_df ≤ length postings
    → band.from ≤ band.limit → times document (take more (drop passed postings)) ≡ band_times band min_df document postings
part_times postings band passed more min_df document before next enough order =
    let kept = cond_le min_df (length postings) (times document postings) 0 enough in
    let inner = cond (nat_le band.limit document) 0 (kept_times min_df document postings) in
    elim (cases_lt document band.from) [
      | inl less ↦ part_before postings band.from band.limit passed more before next.below document less ∙ sym (cond_gt band.from document inner 0 less)
      | inr ge ↦ elim (cases_lt document band.limit) [
        | inl less ↦
            part_within postings band.from band.limit passed more order before next document ge less
            ∙ sym (cond_le band.from document inner 0 ge ∙ cond_gt band.limit document 0 (kept_times min_df document postings) less ∙ kept)
        | inr more' ↦
            part_behind postings band.from band.limit passed more before next.below document more'
            ∙ sym (cond_le band.from document inner 0 ge ∙ cond_le band.limit document 0 (kept_times min_df document postings) more')
      ]
    ]

-- a list with too few postings adds none
pub none_kept : (postings : List Posting) (band : Band) (min_df document : ℕ) → length postings < min_df → band_times band min_df document postings ≡ 0
none_kept postings band min_df document few =
    let kept = cond_gt min_df (length postings) (times document postings) 0 few in
    let inner = cond (nat_le band.limit document) 0 (kept_times min_df document postings) in
    elim (cases_lt document band.from) [
      | inl less ↦ cond_gt band.from document inner 0 less
      | inr ge ↦ elim (cases_lt document band.limit) [
        | inl less ↦ cond_le band.from document inner 0 ge ∙ cond_gt band.limit document 0 (kept_times min_df document postings) less ∙ kept
        | inr more ↦ cond_le band.from document inner 0 ge ∙ cond_le band.limit document 0 (kept_times min_df document postings) more
      ]
    ]

-- ---- the rest of a list

rest_all : (postings : List Posting) (passed : ℕ) → take (length postings - passed) (drop passed postings) ≡ drop passed postings
rest_all postings passed = take_all (length postings - passed) (drop passed postings) (omega (arith, length-drop passed postings))

pub rest_is : (documents : ℕ) (postings : List Posting) (passed : ℕ) → IsPostings documents postings → IsPostings documents (take (length postings - passed) (drop passed postings))
rest_is documents postings passed is = subst (IsPostings documents) (sym (rest_all postings passed)) (record {
  rising = λ k within.
      let doc : Posting → ℕ = (λ posting. posting.doc) in
      let docs = map doc postings in
      let same : map doc (drop passed postings) ≡ drop passed docs = sym (drop-map doc passed postings) in
      let here : get_or (map doc (drop passed postings)) k 0 ≡ get_or docs (passed + k) 0 = ap (λ (xs : List ℕ). get_or xs k 0) same ∙ get_or-drop passed docs k 0 in
      let next : get_or (map doc (drop passed postings)) (k + 1) 0 ≡ get_or docs (passed + (k + 1)) 0 = ap (λ (xs : List ℕ). get_or xs (k + 1) 0) same ∙ get_or-drop passed docs (k + 1) 0 in
      let inside : passed + (k + 1) < length docs = omega (arith, within, length-map (drop passed postings) doc, length-drop passed postings, length-map postings doc) in
      let less = AllPairs-from_increasing docs is.rising (passed + k) (passed + (k + 1)) 0 (omega arith) inside in
      omega (arith, here, next, less);
  below = All-drop (λ (posting : Posting). posting.doc < documents) passed postings is.below;
})

module _ (postings : List Posting) (band : Band) (passed min_df : ℕ) (enough : min_df ≤ length postings) (before : IsPassed band.from postings passed) where
  pub rest_few : (n document : ℕ) → All (λ posting. posting.doc < band.limit) (take n (take (length postings - passed) (drop passed postings))) → times document (take n (take (length postings - passed) (drop passed postings))) ≤ band_times band min_df document postings
  rest_few n document low =
      let all = rest_all postings passed in
      let low' : All (λ posting. posting.doc < band.limit) (take n (drop passed postings)) = subst (λ (xs : List Posting). All (λ posting. posting.doc < band.limit) (take n xs)) all low in
      omega (arith, ap (λ (xs : List Posting). times document (take n xs)) all, part_few postings band.from band.limit passed n before low' band min_df document refl refl enough)

  module _ (order : band.from ≤ band.limit) (more : ℕ) (next : IsPassed band.limit (take (length postings - passed) (drop passed postings)) more) where
    next' : IsPassed band.limit (drop passed postings) more
    next' = subst (λ (xs : List Posting). IsPassed band.limit xs more) (rest_all postings passed) next

    pub list_passed : IsPassed band.limit postings (passed + more)
    list_passed = passed_more postings band.from band.limit passed more order before next'

    pub list_times : (document : ℕ) → times document (take more (take (length postings - passed) (drop passed postings))) ≡ band_times band min_df document postings
    list_times document = ap (λ (xs : List Posting). times document (take more xs)) (rest_all postings passed) ∙ part_times postings band passed more min_df document before next' enough order

-- ---- where a pass stops

pub passed_here : (postings : List Posting) (limit k : ℕ) (d : Posting) → IsStrictlyIncreasing (map (λ posting. posting.doc) postings) → k < length postings
    → All (λ posting. posting.doc < limit) (take k postings) → limit ≤ (get_or postings k d).doc → IsPassed limit postings k
passed_here postings limit k d rising within below stop = record {
  within = omega (arith, within);
  below = below;
  above = λ i e lt.
      let docs = map (λ (posting : Posting). posting.doc) postings in
      let size = length-map postings (λ (posting : Posting). posting.doc) in
      let in' : k + i < length postings = omega (arith, lt, length-drop k postings) in
      let here : get_or docs k 0 ≡ (get_or postings k d).doc = get_or-map (λ (posting : Posting). posting.doc) postings k d 0 within in
      let there : get_or docs (k + i) 0 ≡ (get_or postings (k + i) e).doc = get_or-map (λ (posting : Posting). posting.doc) postings (k + i) e 0 in' in
      let at : (get_or (drop k postings) i e).doc ≡ (get_or postings (k + i) e).doc = ap (λ (p : Posting). p.doc) (get_or-drop k postings i e) in
      elim (cases_lt 0 i) [
        | inl some ↦
            let less : get_or docs k 0 < get_or docs (k + i) 0 = AllPairs-from_increasing docs rising k (k + i) 0 (omega (arith, some)) (omega (arith, in', size)) in
            omega (arith, less, here, there, at, stop)
        | inr none ↦
            let same : get_or docs (k + i) 0 ≡ get_or docs k 0 = ap (λ (n : ℕ). get_or docs n 0) (omega (arith, none)) in
            omega (arith, same, here, there, at, stop)
      ];
}

pub passed_all : (postings : List Posting) (limit n : ℕ) → n ≡ length postings → All (λ posting. posting.doc < limit) (take n postings) → IsPassed limit postings n
passed_all postings limit n all below = record {
  within = omega (arith, all);
  below = below;
  above = λ i e lt. absurd (omega (arith, lt, all, length-drop n postings));
}

-- one more is passed
pub below_more : (postings : List Posting) (limit k : ℕ) (d : Posting) → k < length postings → All (λ posting. posting.doc < limit) (take k postings) → (get_or postings k d).doc < limit → All (λ posting. posting.doc < limit) (take (k + 1) postings)
below_more postings limit k d within below here i e lt =
    let lt' : i < k + 1 = omega (arith, lt, length-take-le (k + 1) postings (omega (arith, within))) in
    let at : (get_or (take (k + 1) postings) i e).doc ≡ (get_or postings i e).doc = ap (λ (p : Posting). p.doc) (get_or-take (k + 1) postings i e lt') in
    elim (cases_lt i k) [
      | inl less ↦
          let low = below i e (omega (arith, less, length-take-le k postings (omega (arith, within)))) in
          let same : (get_or (take k postings) i e).doc ≡ (get_or postings i e).doc = ap (λ (p : Posting). p.doc) (get_or-take k postings i e less) in
          omega (arith, low, same, at)
      | inr more ↦
          let e' : i ≡ k = omega (arith, lt', more) in
          let same : (get_or postings i e).doc ≡ (get_or postings k d).doc = ap (λ (n : ℕ). (get_or postings n e).doc) e' ∙ ap (λ (p : Posting). p.doc) (get_or_default postings k e d within) in
          omega (arith, at, same, here)
    ]

-- ---- what rows have

-- the row of a document after so many lists of a band
abbrev pub row_in : Band → ℕ → List TermList → ℕ → ℕ → List ℕ
row_in band min_df lists list document =
    cond (nat_le band.from document) (cond (nat_le band.limit document) [] (row_from min_df document 0 (take list lists))) (row_from min_df document 0 lists)

module _ (band : Band) (min_df : ℕ) (lists : List TermList) (document : ℕ) where
  inner : ℕ → List ℕ
  inner list = cond (nat_le band.limit document) [] (row_from min_df document 0 (take list lists))

  whole : List ℕ
  whole = row_from min_df document 0 lists

  row_before : (list : ℕ) → document < band.from → row_in band min_df lists list document ≡ whole
  unfolding inner whole
  row_before list less = cond_gt band.from document (inner list) whole less

  row_inside : (list : ℕ) → band.from ≤ document → document < band.limit → row_in band min_df lists list document ≡ row_from min_df document 0 (take list lists)
  unfolding inner whole
  row_inside list ge less = cond_le band.from document (inner list) whole ge ∙ cond_gt band.limit document [] (row_from min_df document 0 (take list lists)) less

  row_behind : (list : ℕ) → band.from ≤ document → band.limit ≤ document → row_in band min_df lists list document ≡ []
  unfolding inner whole
  row_behind list ge more = cond_le band.from document (inner list) whole ge ∙ cond_le band.limit document [] (row_from min_df document 0 (take list lists)) more

  pub row_first : row_in band min_df lists 0 document ≡ row_below band.from min_df lists document
  unfolding whole
  row_first = elim (cases_lt document band.from) [
    | inl less ↦ row_before 0 less ∙ sym (cond_gt band.from document [] whole less)
    | inr ge ↦ elim (cases_lt document band.limit) [
      | inl less ↦ row_inside 0 ge less ∙ sym (cond_le band.from document [] whole ge)
      | inr more ↦ row_behind 0 ge more ∙ sym (cond_le band.from document [] whole ge)
    ]
  ]

  pub row_last : (list : ℕ) → length lists ≤ list → band.from ≤ band.limit → row_in band min_df lists list document ≡ row_below band.limit min_df lists document
  unfolding whole
  row_last list all order = elim (cases_lt document band.from) [
    | inl less ↦ row_before list less ∙ sym (cond_gt band.limit document [] whole (omega (arith, less, order)))
    | inr ge ↦ elim (cases_lt document band.limit) [
      | inl less ↦ row_inside list ge less ∙ ap (row_from min_df document 0) (take_all list lists all) ∙ sym (cond_gt band.limit document [] whole less)
      | inr more ↦ row_behind list ge more ∙ sym (cond_le band.limit document [] whole more)
    ]
  ]

  module _ (list : ℕ) (postings : List Posting) (within : list < length lists) (found : (get_or lists list no_list).postings ≡ postings) where
    add : ℕ
    add = band_times band min_df document postings

    add_before : document < band.from → add ≡ 0
    unfolding add
    add_before less = cond_gt band.from document (cond (nat_le band.limit document) 0 (kept_times min_df document postings)) 0 less

    add_inside : band.from ≤ document → document < band.limit → add ≡ kept_times min_df document (get_or lists list no_list).postings
    unfolding add
    add_inside ge less =
        cond_le band.from document (cond (nat_le band.limit document) 0 (kept_times min_df document postings)) 0 ge ∙ cond_gt band.limit document 0 (kept_times min_df document postings) less
        ∙ ap (kept_times min_df document) (sym found)

    add_behind : band.from ≤ document → band.limit ≤ document → add ≡ 0
    unfolding add
    add_behind ge more =
        cond_le band.from document (cond (nat_le band.limit document) 0 (kept_times min_df document postings)) 0 ge ∙ cond_le band.limit document 0 (kept_times min_df document postings) more

    none_more : add ≡ 0 → (row : List ℕ) → row ≡ row ++ replicate add list
    none_more none row = sym (ap (λ (n : ℕ). row ++ replicate n list) none ∙ append-nil row)

    -- with one list more
    pub row_next : row_in band min_df lists (list + 1) document ≡ row_in band min_df lists list document ++ replicate (band_times band min_df document postings) list
    unfolding add whole
    row_next = elim (cases_lt document band.from) [
      | inl less ↦ row_before (list + 1) less ∙ none_more (add_before less) whole ∙ ap (λ (r : List ℕ). r ++ replicate add list) (sym (row_before list less))
      | inr ge ↦ elim (cases_lt document band.limit) [
        | inl less ↦
            row_inside (list + 1) ge less ∙ row_more min_df document lists list within
            ∙ ap (λ (n : ℕ). row_from min_df document 0 (take list lists) ++ replicate n list) (sym (add_inside ge less))
            ∙ ap (λ (r : List ℕ). r ++ replicate add list) (sym (row_inside list ge less))
        | inr more ↦ row_behind (list + 1) ge more ∙ none_more (add_behind ge more) [] ∙ ap (λ (r : List ℕ). r ++ replicate add list) (sym (row_behind list ge more))
      ]
    ]

    -- no longer than the whole row
    pub row_room : length (row_in band min_df lists list document) + band_times band min_df document postings ≤ length (row_from min_df document 0 lists)
    unfolding add whole
    row_room = elim (cases_lt document band.from) [
      | inl less ↦ omega (arith, ap length (row_before list less), add_before less)
      | inr ge ↦ elim (cases_lt document band.limit) [
        | inl less ↦ omega (arith, ap length (row_inside list ge less), add_inside ge less, row_fits min_df document lists list within)
        | inr more ↦ omega (arith, ap length (row_behind list ge more), add_behind ge more)
      ]
    ]

    pub length-row_next : length (row_in band min_df lists (list + 1) document) ≡ length (row_in band min_df lists list document) + band_times band min_df document postings
    unfolding add
    length-row_next = ap length row_next ∙ length-append (row_in band min_df lists list document) (replicate add list) ∙ ap (λ (n : ℕ). length (row_in band min_df lists list document) + n) (length-replicate add list)
