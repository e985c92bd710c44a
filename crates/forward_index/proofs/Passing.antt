-- The table of what lists have passed, at one list more.
use Rattle.std.proofs.Common.{◌≡◌, ℕ, ◌+◌, ◌*◌, ◌<◌, ◌≤◌, ◌^◌, List, length, get_or, set, map, sym, ap, subst, ◌∙◌, arith, Some, option_map, inl, inr}
use Rattle.std.specs.Prelude.{slice_get}
use Rattle.std.proofs.lemmas.Bool.{cases_eq}
use Rattle.std.specs.List.Sorted.{IsNonDecreasingBy}
use Rattle.std.proofs.lemmas.List.{get_or-set_same, get_or-set_other, get_or-map, length-map}
use Rattle.std.proofs.lemmas.List.Kept.{AllPairs-from_increasing}
use Rattle.rgb_base.specs.declared.parts.Posting.{Posting}
use Rattle.rgb_base.specs.declared.parts.TermList.{TermList}
use Rattle.rgb_base.specs.Parts.{posting_count, IsPostings}
use Rattle.forward_index.specs.Bands.{IsPassed}
use Rattle.forward_index.proofs.Rows.{postings_read, postings_more}

-- a list has no more postings than all lists
pub list_few : (lists : List TermList) (k : ℕ) (postings : List Posting) → k < length lists → option_map (λ (list : TermList). list.postings) (slice_get lists k) ≡ Some postings → posting_count lists < 2 ^ 32 → length postings < 2 ^ 32
list_few lists k postings within read few = omega (arith, ap length (postings_read lists k postings within read), postings_more lists k within, few)

same_postings : (lists : List TermList) (k : ℕ) (postings : List Posting) (list : TermList) → option_map (λ (l : TermList). l.postings) (slice_get lists k) ≡ Some postings → slice_get lists k ≡ Some list → postings ≡ list.postings
same_postings lists k postings list read found = cc

module _ (min_df from limit at now : ℕ) (lists : List TermList) (table : List ℕ) (postings : List Posting) (within : at < length table) (read : option_map (λ (list : TermList). list.postings) (slice_get lists at) ≡ Some postings)
    (done : (k : ℕ) (list : TermList) → k < at → slice_get lists k ≡ Some list → min_df ≤ length list.postings → IsPassed limit list.postings (get_or table k 0))
    (left : (k : ℕ) (list : TermList) → at ≤ k → slice_get lists k ≡ Some list → min_df ≤ length list.postings → IsPassed from list.postings (get_or table k 0))
    (passed : min_df ≤ length postings → IsPassed limit postings now) where
  pub done_more : (k : ℕ) (list : TermList) → k < at + 1 → slice_get lists k ≡ Some list → min_df ≤ length list.postings → IsPassed limit list.postings (get_or (set table at now) k 0)
  done_more k list lt found enough = elim (cases_eq k at) [
    | inl e ↦
        let found' : slice_get lists at ≡ Some list = ap (slice_get lists) (sym e) ∙ found in
        let same : postings ≡ list.postings = same_postings lists at postings list read found' in
        let here : IsPassed limit list.postings now = subst (λ (ps : List Posting). IsPassed limit ps now) same (passed (omega (arith, enough, ap length same))) in
        subst (IsPassed limit list.postings) (sym (ap (λ (n : ℕ). get_or (set table at now) n 0) e ∙ get_or-set_same table at now 0 within)) here
    | inr ne ↦ subst (IsPassed limit list.postings) (sym (get_or-set_other table at k now 0 ne)) (done k list (omega (arith, lt, ne)) found enough)
  ]

  pub left_more : (k : ℕ) (list : TermList) → at + 1 ≤ k → slice_get lists k ≡ Some list → min_df ≤ length list.postings → IsPassed from list.postings (get_or (set table at now) k 0)
  left_more k list le found enough =
      let ne : k ≡ at → ⊥ = (λ e. absurd (omega (arith, e, le))) in
      subst (IsPassed from list.postings) (sym (get_or-set_other table at k now 0 ne)) (left k list (omega (arith, le)) found enough)

-- ---- where a search finds the limit

pub docs_rise : (documents : ℕ) (postings : List Posting) → IsPostings documents postings → IsNonDecreasingBy (λ (posting : Posting). posting.doc) postings
docs_rise documents postings is i j d le within =
    let doc : Posting → ℕ = (λ posting. posting.doc) in
    let here = get_or-map doc postings i d 0 (omega (arith, le, within)) in
    let there = get_or-map doc postings j d 0 within in
    elim (cases_eq i j) [
      | inl e ↦ let same = ap (λ (n : ℕ). (get_or postings n d).doc) e in omega (arith, same)
      | inr ne ↦
          let less = AllPairs-from_increasing (map doc postings) is.rising i j 0 (omega (arith, le, ne)) (omega (arith, within, length-map postings doc)) in
          omega (arith, here, there, less)
    ]

-- ---- parts of the table for threads

pub room_front : (helpers lists length_near count : ℕ) → count ≡ lists → length_near ≡ helpers * count → helpers * lists ≤ length_near
room_front helpers lists length_near count same len = let e = ap (λ (n : ℕ). helpers * n) same in omega (arith, e, len)

pub room_back : (helpers others workers lists count length_far whole : ℕ) → workers ≡ others + helpers → count ≡ lists → workers * lists ≤ whole → length_far + helpers * count ≡ whole → others * lists ≤ length_far
room_back helpers others workers lists count length_far whole split same room len =
    let e = ap (λ (n : ℕ). helpers * n) same in
    let all : (others + helpers) * lists ≤ whole = subst (λ (n : ℕ). n * lists ≤ whole) split room in
    omega (arith, all, e, len)
