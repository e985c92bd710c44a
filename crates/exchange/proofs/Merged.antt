-- Documents that are taken out of a half in start order, and others that are merged into it.
use Rattle.std.proofs.Common.{◌≡◌, ◌≢◌, ℕ, zero, suc, ◌+◌, ◌-◌, ◌<◌, ◌≤◌, List, [], ◌∷◌, ◌++◌, length, get_or, take, drop, Contains, refl, sym, subst, ap, ◌∙◌, inl, inr, arith, append_assoc, All}
use Rattle.std.proofs.Math.ListN.{set}
use Rattle.std.specs.List.Sorted.{IsStrictlyIncreasing, IsNonDecreasing, IsPermutation}
use Rattle.std.proofs.lemmas.Bool.{cases_lt}
use Rattle.std.proofs.lemmas.List.{append-nil, take_all, take_more, take_more_set, drop_more, drop_all, drop-set, take-append-drop, length-take, length-drop, length-append, length-set, take-map, get_or_default, get_or_append_left, get_or-append-add, get_or-take, get_or-drop, get_or-set_same, get_or-set_other, same_lists}
use Rattle.std.proofs.lemmas.List.Elements.{Contains-append_left, Contains-append_right, Contains-append_cases, Contains-get_or}
use Rattle.std.proofs.lemmas.List.Kept.{AllPairs-from_increasing}
use Rattle.std.proofs.lemmas.List.Sorted.{IsPermutation-refl, IsPermutation-sym, IsPermutation-trans, IsPermutation-append_comm, IsPermutation-append_left, IsPermutation-append_right, Contains-permutation, length_permutation, IsNonDecreasingBy-from_default}
use Rattle.exchange.specs.declared.entry.Entry.{Entry}
use Rattle.exchange.specs.Round.{IsHalfAfter}
use Rattle.exchange.specs.Tries.{docs_of, docs_after}
use Rattle.exchange.proofs.Exchanged.{permutation_from_half, Differ, Differ-left, Differ-permutation, Differ-from_rising, Differ-apart, rising_from_sorted}

-- ---- one document more

one_left : (passed stay left : List ℕ) (d : ℕ) → IsPermutation passed (stay ++ left) → IsPermutation (passed ++ d ∷ []) (stay ++ (left ++ d ∷ []))
one_left passed stay left d same =
    subst (λ (zs : List ℕ). IsPermutation (passed ++ d ∷ []) zs) (append_assoc stay left (d ∷ [])) (IsPermutation-append_left (d ∷ []) passed (stay ++ left) same)

one_stays : (passed stay left : List ℕ) (d : ℕ) → IsPermutation passed (stay ++ left) → IsPermutation (passed ++ d ∷ []) ((stay ++ d ∷ []) ++ left)
one_stays passed stay left d same =
    subst (λ (zs : List ℕ). IsPermutation (passed ++ d ∷ []) zs) (sym (append_assoc stay (d ∷ []) left))
    (IsPermutation-trans (passed ++ d ∷ []) (stay ++ (left ++ d ∷ [])) (stay ++ ((d ∷ []) ++ left)) (one_left passed stay left d same)
    (IsPermutation-append_right stay (left ++ d ∷ []) ((d ∷ []) ++ left) (IsPermutation-append_comm left (d ∷ []))))

-- the last of the second part goes to the front of the third
second_to_third : (xs ys zs : List ℕ) (d : ℕ) → (xs ++ (ys ++ d ∷ [])) ++ zs ≡ (xs ++ ys) ++ d ∷ zs
second_to_third xs ys zs d =
    ap (λ (us : List ℕ). us ++ zs) (sym (append_assoc xs ys (d ∷ []))) ∙ append_assoc (xs ++ ys) (d ∷ []) zs

-- the last of the first part goes to the front of the third
first_to_third : (xs ys zs : List ℕ) (d : ℕ) → IsPermutation (((xs ++ d ∷ []) ++ ys) ++ zs) ((xs ++ ys) ++ d ∷ zs)
first_to_third xs ys zs d =
    let moved : IsPermutation ((xs ++ d ∷ []) ++ ys) (xs ++ (ys ++ d ∷ [])) =
    subst (λ (us : List ℕ). IsPermutation us (xs ++ (ys ++ d ∷ []))) (sym (append_assoc xs (d ∷ []) ys))
    (IsPermutation-append_right xs ((d ∷ []) ++ ys) (ys ++ d ∷ []) (IsPermutation-append_comm (d ∷ []) ys)) in
    subst (λ (us : List ℕ). IsPermutation (((xs ++ d ∷ []) ++ ys) ++ zs) us) (second_to_third xs ys zs d)
    (IsPermutation-append_left zs ((xs ++ d ∷ []) ++ ys) (xs ++ (ys ++ d ∷ [])) moved)

-- ---- lists that rise

behind_head : (x z : ℕ) (xs : List ℕ) → Contains (x ∷ xs) z → x ≢ z → Contains xs z
behind_head x z xs (zero, within, at) apart = absurd (apart at)
behind_head x z xs (suc k, within, at) apart = (k, omega (arith, within), at)

not_first : (xs : List ℕ) (p z : ℕ) → p < length xs → Contains (drop p xs) z → get_or xs p 0 ≢ z → Contains (drop (p + 1) xs) z
not_first xs p z within there apart =
    behind_head (get_or xs p 0) z (drop (p + 1) xs) (subst (λ (ys : List ℕ). Contains ys z) (drop_more xs p 0 within) there) apart

least : (xs : List ℕ) (p z : ℕ) → IsStrictlyIncreasing xs → Contains (drop p xs) z → get_or xs p 0 ≤ z
least xs p z rises there =
    let inside : p + there.0 < length xs = omega (arith, there.1, length-drop p xs) in
    let at : get_or xs (p + there.0) 0 ≡ z = get_or_default xs (p + there.0) 0 z inside ∙ sym (get_or-drop p xs there.0 z) ∙ there.2 in
    elim (cases_lt 0 there.0) [
      | inl later ↦ omega (arith, at, AllPairs-from_increasing xs rises p (p + there.0) 0 (omega (arith, later)) inside)
      | inr first ↦ let is : p + there.0 ≡ p = omega (arith, first) in omega (arith, at, ap (λ (k : ℕ). get_or xs k 0) is)
    ]

pub sorted_from_rising : (xs : List ℕ) → IsStrictlyIncreasing xs → IsNonDecreasing xs
sorted_from_rising xs rises i j d order within =
    elim (cases_lt i j) [
      | inl before ↦ omega (arith, AllPairs-from_increasing xs rises i j d before within)
      | inr same ↦ let is : i ≡ j = omega (arith, same, order) in omega (arith, ap (λ (k : ℕ). get_or xs k d) is)
    ]

-- ---- documents that are taken out

pub record AreTaken (place staying left : ℕ) (old docs leave : List ℕ) : Type 0 where
  pub len : length docs ≡ length old
  pub low : staying ≤ place
  pub few : left ≤ length leave
  pub ahead : (k : ℕ) → place ≤ k → get_or docs k 0 ≡ get_or old k 0
  pub same : IsPermutation (take place old) (take staying docs ++ take left leave)
  pub waiting : (k : ℕ) → left ≤ k → k < length leave → Contains (drop place old) (get_or leave k 0)
  pub rising : (k : ℕ) → k + 1 < staying → get_or docs k 0 < get_or docs (k + 1) 0
  pub below : (m : ℕ) → place ≤ m → m < length old → 0 < staying → get_or docs (staying - 1) 0 < get_or old m 0

pub none_taken : (old leave : List ℕ) → All (Contains old) leave → AreTaken 0 0 0 old old leave
none_taken old leave there = record {
  len = refl;
  low = omega arith;
  few = omega arith;
  ahead = λ k from. refl;
  same = IsPermutation-refl [];
  waiting = λ k from inside. there k 0 inside;
  rising = λ k early. absurd (omega (arith, early));
  below = λ m from inside some. absurd (omega (arith, some));
}

-- the same by equal numbers and lists
pub same_taken : (place staying staying_as left left_as : ℕ) (old docs docs_as leave : List ℕ) → staying_as ≡ staying → left_as ≡ left → docs_as ≡ docs → AreTaken place staying left old docs leave → AreTaken place staying_as left_as old docs_as leave
same_taken place staying staying_as left left_as old docs docs_as leave is_staying is_left is_docs are =
    subst (λ (n : ℕ). AreTaken place n left_as old docs_as leave) (sym is_staying)
    (subst (λ (n : ℕ). AreTaken place staying n old docs_as leave) (sym is_left)
    (subst (λ (xs : List ℕ). AreTaken place staying left old xs leave) (sym is_docs) are))

module _ (place staying left : ℕ) (old docs leave : List ℕ) (rises : IsStrictlyIncreasing old) (leave_rises : IsStrictlyIncreasing leave) (within : place < length old) (are : AreTaken place staying left old docs leave) where
  pub one_taken : left < length leave → get_or leave left 0 ≡ get_or old place 0 → AreTaken (place + 1) staying (left + 1) old docs leave
  one_taken more is = record {
    len = are.len;
    low = omega (arith, are.low);
    few = omega (arith, more);
    ahead = λ k from. are.ahead k (omega (arith, from));
    same = subst (λ (xs : List ℕ). IsPermutation xs (take staying docs ++ take (left + 1) leave)) (sym (take_more old place 0 within))
        (subst (λ (ys : List ℕ). IsPermutation (take place old ++ get_or old place 0 ∷ []) (take staying docs ++ ys)) (sym (take_more leave left 0 more ∙ ap (λ (d : ℕ). take left leave ++ d ∷ []) is))
        (one_left (take place old) (take staying docs) (take left leave) (get_or old place 0) are.same));
    waiting = λ k from inside. not_first old place (get_or leave k 0) within (are.waiting k (omega (arith, from)) inside)
        (λ same. omega (arith, is, same, AllPairs-from_increasing leave leave_rises left k 0 (omega (arith, from)) inside));
    rising = are.rising;
    below = λ m from inside some. are.below m (omega (arith, from)) inside some;
  }

  apart_from : (left < length leave → get_or leave left 0 ≢ get_or old place 0) → (k : ℕ) → left ≤ k → k < length leave → get_or old place 0 ≢ get_or leave k 0
  apart_from apart k from inside same =
      let more : left < length leave = omega (arith, from, inside) in
      let low = least old place (get_or leave left 0) rises (are.waiting left (omega arith) more) in
      elim (cases_lt left k) [
        | inl later ↦ omega (arith, low, same, AllPairs-from_increasing leave leave_rises left k 0 later inside)
        | inr first ↦ let is : left ≡ k = omega (arith, first, from) in apart more (ap (λ (n : ℕ). get_or leave n 0) is ∙ sym same)
      ]

  pub one_kept : (left < length leave → get_or leave left 0 ≢ get_or old place 0) → AreTaken (place + 1) (staying + 1) left old (set docs staying (get_or old place 0)) leave
  one_kept apart =
      let doc = get_or old place 0 in
      let room : staying < length docs = omega (arith, are.low, are.len, within) in
      let at : get_or (set docs staying doc) staying 0 ≡ doc = get_or-set_same docs staying doc 0 room in
      record {
        len = length-set docs staying doc ∙ are.len;
        low = omega (arith, are.low);
        few = are.few;
        ahead = λ k from. get_or-set_other docs staying k doc 0 (λ same. omega (arith, same, from, are.low)) ∙ are.ahead k (omega (arith, from));
        same = subst (λ (xs : List ℕ). IsPermutation xs (take (staying + 1) (set docs staying doc) ++ take left leave)) (sym (take_more old place 0 within))
            (subst (λ (ys : List ℕ). IsPermutation (take place old ++ doc ∷ []) (ys ++ take left leave)) (sym (take_more_set docs staying doc room))
            (one_stays (take place old) (take staying docs) (take left leave) doc are.same));
        waiting = λ k from inside. not_first old place (get_or leave k 0) within (are.waiting k from inside) (apart_from apart k from inside);
        rising = λ k early.
            let first = get_or-set_other docs staying k doc 0 (λ same. omega (arith, same, early)) in
            elim (cases_lt (k + 1) staying) [
              | inl before ↦ omega (arith, first, get_or-set_other docs staying (k + 1) doc 0 (λ same. omega (arith, same, before)), are.rising k before)
              | inr last ↦
                  let next : k + 1 ≡ staying = omega (arith, last, early) in
                  let this : staying - 1 ≡ k = omega (arith, next) in
                  omega (arith, first, ap (λ (n : ℕ). get_or (set docs staying doc) n 0) next, at, ap (λ (n : ℕ). get_or docs n 0) this, are.below place (omega arith) within (omega (arith, next)))
            ];
        below = λ m from inside some.
            let last : staying + 1 - 1 ≡ staying = omega arith in
            omega (arith, ap (λ (n : ℕ). get_or (set docs staying doc) n 0) last, at, AllPairs-from_increasing old rises place m 0 (omega (arith, from)) inside);
      }

module _ (place staying left : ℕ) (old docs leave : List ℕ) (all : length old ≤ place) (low : place ≤ length old) (are : AreTaken place staying left old docs leave) where
  all_left : take left leave ≡ leave
  all_left =
      elim (cases_lt left (length leave)) [
        | inl more ↦ let there = are.waiting left (omega arith) more in absurd (omega (arith, there.1, length-drop place old, all))
        | inr none ↦ take_all left leave none
      ]

  pub taken_within : staying ≤ length docs
  taken_within = omega (arith, are.low, are.len, low)

  pub taken_same : IsPermutation old (take staying docs ++ leave)
  taken_same =
      subst (λ (xs : List ℕ). IsPermutation xs (take staying docs ++ leave)) (take_all place old all)
      (subst (λ (ys : List ℕ). IsPermutation (take place old) (take staying docs ++ ys)) all_left are.same)

  pub taken_rising : IsStrictlyIncreasing (take staying docs)
  taken_rising k within =
      let early : k + 1 < staying = omega (arith, within, length-take staying docs) in
      omega (arith, get_or-take staying docs k 0 (omega (arith, early)), get_or-take staying docs (k + 1) 0 early, are.rising k early)

-- ---- documents that are merged in

pub record AreMerged (ahead coming staying : ℕ) (old docs come : List ℕ) : Type 0 where
  pub len : length docs ≡ length old
  pub low : ahead ≤ staying
  pub few : coming ≤ length come
  pub front : (k : ℕ) → k < ahead → get_or docs k 0 ≡ get_or old k 0
  pub same : IsPermutation (take staying old ++ come) ((take ahead old ++ take coming come) ++ drop (ahead + coming) docs)
  pub sorted : (m n : ℕ) → ahead + coming ≤ m → m ≤ n → n < length docs → get_or docs m 0 ≤ get_or docs n 0
  pub above : (k m : ℕ) → k < ahead → ahead + coming ≤ m → m < length docs → get_or old k 0 ≤ get_or docs m 0
  pub above_come : (k m : ℕ) → k < coming → ahead + coming ≤ m → m < length docs → get_or come k 0 ≤ get_or docs m 0

module _ (staying : ℕ) (old come : List ℕ) (all : staying + length come ≡ length old) where
  pub none_merged : AreMerged staying (length come) staying old old come
  none_merged = record {
    len = refl;
    low = omega arith;
    few = omega arith;
    front = λ k early. refl;
    same =
        let nothing : drop (staying + length come) old ≡ [] = drop_all (staying + length come) old (omega (arith, all)) in
        let whole : take (length come) come ≡ come = take_all (length come) come (omega arith) in
        let is : (take staying old ++ take (length come) come) ++ drop (staying + length come) old ≡ take staying old ++ come =
        ap (λ (zs : List ℕ). (take staying old ++ take (length come) come) ++ zs) nothing ∙ append-nil (take staying old ++ take (length come) come) ∙ ap (λ (zs : List ℕ). take staying old ++ zs) whole in
        subst (λ (zs : List ℕ). IsPermutation (take staying old ++ come) zs) (sym is) (IsPermutation-refl (take staying old ++ come));
    sorted = λ m n from order inside. absurd (omega (arith, from, order, inside, all));
    above = λ k m early from inside. absurd (omega (arith, from, inside, all));
    above_come = λ k m early from inside. absurd (omega (arith, from, inside, all));
  }

module _ (staying : ℕ) (old come : List ℕ) (sorted : IsNonDecreasing (take staying old)) (sorted_come : IsNonDecreasing come) (room : staying ≤ length old) where
  front_sorted : (i j : ℕ) → i ≤ j → j < staying → get_or old i 0 ≤ get_or old j 0
  front_sorted i j order early =
      omega (arith, get_or-take staying old i 0 (omega (arith, order, early)), get_or-take staying old j 0 early, sorted i j 0 order (omega (arith, early, length-take staying old, room)))

  module _ (ahead coming w : ℕ) (docs : List ℕ) (place : w + 1 ≡ ahead + coming) (inside_w : w < length docs) (are : AreMerged ahead coming staying old docs come) where
    -- what is written, and what stands behind it
    at_w : (d : ℕ) → get_or (set docs w d) w 0 ≡ d
    at_w d = get_or-set_same docs w d 0 inside_w

    behind_w : (d m : ℕ) → w < m → get_or (set docs w d) m 0 ≡ get_or docs m 0
    behind_w d m later = get_or-set_other docs w m d 0 (λ same. omega (arith, same, later))

    sorted_more : (d : ℕ) → ((m : ℕ) → w < m → m < length docs → d ≤ get_or docs m 0) → (m n : ℕ) → w ≤ m → m ≤ n → n < length (set docs w d) → get_or (set docs w d) m 0 ≤ get_or (set docs w d) n 0
    sorted_more d least m n from order inside =
        let inside_old : n < length docs = omega (arith, inside, length-set docs w d) in
        elim (cases_lt w m) [
          | inl later ↦ omega (arith, behind_w d m later, behind_w d n (omega (arith, later, order)), are.sorted m n (omega (arith, later, place)) order inside_old)
          | inr here ↦
              let is : m ≡ w = omega (arith, here, from) in
              let first = ap (λ (k : ℕ). get_or (set docs w d) k 0) is ∙ at_w d in
              elim (cases_lt w n) [
                | inl later ↦ omega (arith, first, behind_w d n later, least n later inside_old)
                | inr both ↦ let same : m ≡ n = omega (arith, both, order, is) in omega (arith, ap (λ (k : ℕ). get_or (set docs w d) k 0) same)
              ]
        ]

    above_more : (d x m : ℕ) → x ≤ d → (w < m → m < length docs → x ≤ get_or docs m 0) → w ≤ m → m < length (set docs w d) → x ≤ get_or (set docs w d) m 0
    above_more d x m low later_low from inside =
        elim (cases_lt w m) [
          | inl later ↦ omega (arith, behind_w d m later, later_low later (omega (arith, inside, length-set docs w d)))
          | inr here ↦ let is : m ≡ w = omega (arith, here, from) in omega (arith, ap (λ (k : ℕ). get_or (set docs w d) k 0) is, at_w d, low)
        ]

    pub ahead_moves : (a : ℕ) → ahead ≡ a + 1 → 0 < coming → get_or come (coming - 1) 0 ≤ get_or old a 0 → AreMerged a coming staying old (set docs w (get_or old a 0)) come
    ahead_moves a is some low_come =
        let d = get_or old a 0 in
        let w_is : a + coming ≡ w = omega (arith, is, place) in
        let early : a < staying = omega (arith, is, are.low) in
        record {
          len = length-set docs w d ∙ are.len;
          low = omega (arith, early);
          few = are.few;
          front = λ k before. get_or-set_other docs w k d 0 (λ same. omega (arith, same, before, w_is)) ∙ are.front k (omega (arith, before, is));
          same =
              let back : drop (a + coming) (set docs w d) ≡ d ∷ drop (ahead + coming) docs =
              ap (λ (k : ℕ). drop k (set docs w d)) w_is ∙ drop-set docs w d inside_w ∙ ap (λ (k : ℕ). d ∷ drop k docs) place in
              let front : take ahead old ≡ take a old ++ d ∷ [] = ap (λ (k : ℕ). take k old) is ∙ take_more old a 0 (omega (arith, early, room)) in
              let before : IsPermutation (take staying old ++ come) (((take a old ++ d ∷ []) ++ take coming come) ++ drop (ahead + coming) docs) =
              subst (λ (zs : List ℕ). IsPermutation (take staying old ++ come) ((zs ++ take coming come) ++ drop (ahead + coming) docs)) front are.same in
              subst (λ (zs : List ℕ). IsPermutation (take staying old ++ come) ((take a old ++ take coming come) ++ zs)) (sym back)
              (IsPermutation-trans (take staying old ++ come) (((take a old ++ d ∷ []) ++ take coming come) ++ drop (ahead + coming) docs) ((take a old ++ take coming come) ++ d ∷ drop (ahead + coming) docs)
              before (first_to_third (take a old) (take coming come) (drop (ahead + coming) docs) d));
          sorted = λ m n from. sorted_more d (λ k later inside. are.above a k (omega (arith, is)) (omega (arith, later, place)) inside) m n (omega (arith, from, w_is));
          above = λ k m before from. above_more d (get_or old k 0) m (front_sorted k a (omega (arith, before)) early) (λ later inside. are.above k m (omega (arith, before, is)) (omega (arith, later, place)) inside) (omega (arith, from, w_is));
          above_come = λ k m before from. above_more d (get_or come k 0) m
              (omega (arith, low_come, sorted_come k (coming - 1) 0 (omega (arith, before)) (omega (arith, are.few, some)))) (λ later inside. are.above_come k m before (omega (arith, later, place)) inside) (omega (arith, from, w_is));
        }

    pub coming_moves : (b : ℕ) → coming ≡ b + 1 → (0 < ahead → get_or old (ahead - 1) 0 ≤ get_or come b 0) → AreMerged ahead b staying old (set docs w (get_or come b 0)) come
    coming_moves b is low_ahead =
        let d = get_or come b 0 in
        let w_is : ahead + b ≡ w = omega (arith, is, place) in
        let early : b < length come = omega (arith, is, are.few) in
        record {
          len = length-set docs w d ∙ are.len;
          low = are.low;
          few = omega (arith, early);
          front = λ k before. get_or-set_other docs w k d 0 (λ same. omega (arith, same, before, w_is)) ∙ are.front k before;
          same =
              let back : drop (ahead + b) (set docs w d) ≡ d ∷ drop (ahead + coming) docs =
              ap (λ (k : ℕ). drop k (set docs w d)) w_is ∙ drop-set docs w d inside_w ∙ ap (λ (k : ℕ). d ∷ drop k docs) place in
              let second : take coming come ≡ take b come ++ d ∷ [] = ap (λ (k : ℕ). take k come) is ∙ take_more come b 0 early in
              let moved : (take ahead old ++ take coming come) ++ drop (ahead + coming) docs ≡ (take ahead old ++ take b come) ++ drop (ahead + b) (set docs w d) =
              ap (λ (zs : List ℕ). (take ahead old ++ zs) ++ drop (ahead + coming) docs) second
              ∙ second_to_third (take ahead old) (take b come) (drop (ahead + coming) docs) d
              ∙ ap (λ (zs : List ℕ). (take ahead old ++ take b come) ++ zs) (sym back) in
              subst (λ (zs : List ℕ). IsPermutation (take staying old ++ come) zs) moved are.same;
          sorted = λ m n from. sorted_more d (λ k later inside. are.above_come b k (omega (arith, is)) (omega (arith, later, place)) inside) m n (omega (arith, from, w_is));
          above = λ k m before from. above_more d (get_or old k 0) m
              (omega (arith, low_ahead (omega (arith, before)), front_sorted k (ahead - 1) (omega (arith, before)) (omega (arith, before, are.low)))) (λ later inside. are.above k m before (omega (arith, later, place)) inside) (omega (arith, from, w_is));
          above_come = λ k m before from. above_more d (get_or come k 0) m (sorted_come k b 0 (omega (arith, before)) early) (λ later inside. are.above_come k m (omega (arith, before, is)) (omega (arith, later, place)) inside) (omega (arith, from, w_is));
        }

  module _ (ahead : ℕ) (docs : List ℕ) (are : AreMerged ahead 0 staying old docs come) where
    front_same : take ahead old ≡ take ahead docs
    front_same =
        same_lists (take ahead old) (take ahead docs) (omega (arith, length-take ahead old, length-take ahead docs, are.len))
        (λ k d inside.
        let early : k < ahead = omega (arith, inside, length-take ahead old) in
        let within : k < length old = omega (arith, inside, length-take ahead old) in
        let within_docs : k < length docs = omega (arith, within, are.len) in
        get_or-take ahead old k d early ∙ get_or_default old k d 0 within ∙ sym (are.front k early) ∙ get_or_default docs k 0 d within_docs ∙ sym (get_or-take ahead docs k d early))

    pub merged_same : IsPermutation (take staying old ++ come) docs
    merged_same =
        let none : ahead + 0 ≡ ahead = omega arith in
        let is : (take ahead old ++ take 0 come) ++ drop (ahead + 0) docs ≡ docs =
        ap (λ (zs : List ℕ). zs ++ drop (ahead + 0) docs) (append-nil (take ahead old) ∙ front_same)
        ∙ ap (λ (k : ℕ). take ahead docs ++ drop k docs) none ∙ take-append-drop ahead docs in
        subst (λ (zs : List ℕ). IsPermutation (take staying old ++ come) zs) is are.same

    pub merged_sorted : IsNonDecreasing docs
    merged_sorted =
        IsNonDecreasingBy-from_default (λ (n : ℕ). n) docs 0 (λ i j order inside.
        elim (cases_lt i ahead) [
          | inl early ↦
              elim (cases_lt j ahead) [
                | inl both ↦ omega (arith, are.front i early, are.front j both, front_sorted i j order (omega (arith, both, are.low)))
                | inr late ↦ omega (arith, are.front i early, are.above i j early (omega (arith, late)) inside)
              ]
          | inr late ↦ are.sorted i j (omega (arith, late)) order inside
        ])

-- ---- a half after documents left it and others came

Differ-append : (xs ys : List ℕ) → Differ xs → Differ ys → ((z : ℕ) → Contains xs z → Contains ys z → ⊥) → Differ (xs ++ ys)
Differ-append xs ys one other apart i j d order within same =
    elim (cases_lt j (length xs)) [
      | inl both ↦
          let early : i < length xs = omega (arith, both, order) in
          one i j d order both (sym (get_or_append_left xs ys d i early) ∙ same ∙ get_or_append_left xs ys d j both)
      | inr late ↦
          let j_is : length xs + (j - length xs) ≡ j = omega (arith, late) in
          let in_ys : j - length xs < length ys = omega (arith, late, within, length-append xs ys) in
          let at_j : get_or (xs ++ ys) j d ≡ get_or ys (j - length xs) d = ap (λ (k : ℕ). get_or (xs ++ ys) k d) (sym j_is) ∙ get_or-append-add xs ys (j - length xs) d in
          elim (cases_lt i (length xs)) [
            | inl early ↦
                let x = get_or xs i d in
                let at_i = get_or_append_left xs ys d i early in
                apart x (i, early, get_or_default xs i x d early)
                (j - length xs, in_ys, get_or_default ys (j - length xs) x d in_ys ∙ sym at_j ∙ sym same ∙ at_i)
            | inr later ↦
                let i_is : length xs + (i - length xs) ≡ i = omega (arith, later) in
                let at_i : get_or (xs ++ ys) i d ≡ get_or ys (i - length xs) d = ap (λ (k : ℕ). get_or (xs ++ ys) k d) (sym i_is) ∙ get_or-append-add xs ys (i - length xs) d in
                other (i - length xs) (j - length xs) d (omega (arith, order, later)) in_ys (sym at_i ∙ same ∙ at_j)
          ]
    ]

module _ (old sorted stay leave come new : List ℕ) (differ : Differ old) (same : IsPermutation old sorted) (taken : IsPermutation sorted (stay ++ leave))
    (rising_come : IsStrictlyIncreasing come) (apart : All (λ doc. Contains old doc → ⊥) come) (merged : IsPermutation (stay ++ come) new) where
  parts : IsPermutation old (stay ++ leave)
  parts = IsPermutation-trans old sorted (stay ++ leave) same taken

  back : IsPermutation (stay ++ leave) old
  back = IsPermutation-sym old (stay ++ leave) parts

  parts_differ : Differ (stay ++ leave)
  parts_differ = Differ-permutation old (stay ++ leave) parts differ

  there : (z : ℕ) → Contains stay z → Contains old z
  there z stays = Contains-permutation (stay ++ leave) old z back (Contains-append_left stay leave z stays)

  not_there : (z : ℕ) → Contains old z → Contains come z → ⊥
  not_there z first second = subst (λ (d : ℕ). Contains old d → ⊥) second.2 (apart second.0 z second.1) first

  new_differ : Differ new
  new_differ =
      Differ-permutation (stay ++ come) new merged
      (Differ-append stay come (Differ-left stay leave parts_differ) (Differ-from_rising come rising_come) (λ z first second. not_there z (there z first) second))

  pub half_from_merged : IsNonDecreasing new → IsHalfAfter old leave come new
  half_from_merged sorted_new = record {
    rising = rising_from_sorted new new_differ sorted_new;
    documents = λ z. (
      (λ inside.
          elim (Contains-append_cases stay come z (Contains-permutation new (stay ++ come) z (IsPermutation-sym (stay ++ come) new merged) inside)) [
            | inl stays ↦ inl (there z stays, (λ leaves. Differ-apart stay leave z parts_differ stays leaves))
            | inr comes ↦ inr comes
          ]),
      (λ inside. Contains-permutation (stay ++ come) new z merged (
          elim inside [
            | inl stays ↦
                elim (Contains-append_cases stay leave z (Contains-permutation old (stay ++ leave) z parts stays.0)) [
                  | inl found ↦ Contains-append_left stay come z found
                  | inr leaves ↦ absurd (stays.1 leaves)
                ]
            | inr comes ↦ Contains-append_right stay come z comes
          ])),
    );
  }

-- the same whatever the order in which those that leave and those that come are listed
pub half_reordered : (half leave come leave_as come_as new : List ℕ) → IsPermutation leave_as leave → IsPermutation come_as come → IsHalfAfter half leave come new → IsHalfAfter half leave_as come_as new
half_reordered half leave come leave_as come_as new to_leave to_come is = record {
  rising = is.rising;
  documents = λ z. (
    (λ inside.
        elim ((is.documents z).0 inside) [
          | inl stays ↦ inl (stays.0, (λ leaves. stays.1 (Contains-permutation leave_as leave z to_leave leaves)))
          | inr comes ↦ inr (Contains-permutation come come_as z (IsPermutation-sym come_as come to_come) comes)
        ]),
    (λ inside. (is.documents z).1 (
        elim inside [
          | inl stays ↦ inl (stays.0, (λ leaves. stays.1 (Contains-permutation leave leave_as z (IsPermutation-sym leave_as leave to_leave) leaves)))
          | inr comes ↦ inr (Contains-permutation come_as come z to_come comes)
        ])),
  );
}

-- ---- halves by their entries

front_docs : (pairs : ℕ) (entries : List Entry) (docs : List ℕ) → IsPermutation (docs_of (take pairs entries)) docs → IsPermutation (take pairs (docs_of entries)) docs
front_docs pairs entries docs same = subst (λ (xs : List ℕ). IsPermutation xs docs) (sym (take-map (λ (entry : Entry). entry.doc) pairs entries)) same

front_there : (pairs : ℕ) (entries : List Entry) (docs : List ℕ) → IsPermutation (docs_of (take pairs entries)) docs → (z : ℕ) → Contains docs z → Contains (docs_of entries) z
front_there pairs entries docs same z there =
    let all = docs_of entries in
    let found = Contains-permutation docs (take pairs all) z (IsPermutation-sym (take pairs all) docs (front_docs pairs entries docs same)) there in
    subst (λ (xs : List ℕ). Contains xs z) (take-append-drop pairs all) (Contains-append_left (take pairs all) (drop pairs all) z found)

pub leave_there : (pairs : ℕ) (entries : List Entry) (half docs : List ℕ) → IsPermutation half (docs_of entries) → IsPermutation (docs_of (take pairs entries)) docs → All (Contains half) docs
leave_there pairs entries half docs are same k d within =
    let z = get_or docs k d in
    Contains-permutation (docs_of entries) half z (IsPermutation-sym half (docs_of entries) are) (front_there pairs entries docs same z (Contains-get_or docs k d within))

pub come_apart : (pairs : ℕ) (entries other : List Entry) (half docs : List ℕ) → IsPermutation half (docs_of entries) → IsPermutation (docs_of (take pairs other)) docs → Differ (docs_of entries ++ docs_of other) → All (λ doc. Contains half doc → ⊥) docs
come_apart pairs entries other half docs are same differ k d within here =
    let z = get_or docs k d in
    Differ-apart (docs_of entries) (docs_of other) z differ (Contains-permutation half (docs_of entries) z are here) (front_there pairs other docs same z (Contains-get_or docs k d within))

pub half_from_entries : (pairs : ℕ) (entries other : List Entry) (half leave come new : List ℕ) → IsPermutation half (docs_of entries) → Differ (docs_of entries ++ docs_of other)
    → IsPermutation (docs_of (take pairs entries)) leave → IsPermutation (docs_of (take pairs other)) come → IsHalfAfter half leave come new → IsPermutation (docs_after pairs entries other) new
half_from_entries pairs entries other half leave come new are differ to_leave to_come is =
    permutation_from_half pairs half (docs_of entries) (docs_of other) new are differ
    (half_reordered half leave come (take pairs (docs_of entries)) (take pairs (docs_of other)) new (front_docs pairs entries leave to_leave) (front_docs pairs other come to_come) is)

pub half_differs : (entries : List Entry) (half : List ℕ) → IsPermutation half (docs_of entries) → Differ (docs_of entries) → Differ half
half_differs entries half are differ = Differ-permutation (docs_of entries) half (IsPermutation-sym half (docs_of entries) are) differ

pub other_way : (entries other : List Entry) → Differ (docs_of entries ++ docs_of other) → Differ (docs_of other ++ docs_of entries)
other_way entries other differ = Differ-permutation (docs_of entries ++ docs_of other) (docs_of other ++ docs_of entries) (IsPermutation-append_comm (docs_of entries) (docs_of other)) differ

-- how many stay
pub staying_len : (staying : ℕ) (old docs leave come : List ℕ) → staying ≤ length docs → length docs ≡ length old → IsPermutation old (take staying docs ++ leave) → length come ≡ length leave → staying + length come ≡ length docs
staying_len staying old docs leave come low len same as_many =
    omega (arith, low, len, as_many, length_permutation old (take staying docs ++ leave) same, length-append (take staying docs) leave, length-take staying docs)
