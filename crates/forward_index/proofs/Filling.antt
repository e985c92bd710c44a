-- Rows side by side: where each begins and ends, and one list more.
use Rattle.std.proofs.Common.{◌≡◌, ◌⊎◌, ℕ, zero, suc, ◌+◌, ◌-◌, ◌<◌, ◌≤◌, List, [], ◌∷◌, ◌++◌, length, get_or, take, drop, refl, sym, ap, ◌∙◌, arith, inl, inr, add-zero, zero-add, length-append, length-drop, replicate}
use Rattle.std.specs.Prelude.{sum_by, flat_map}
use Rattle.std.proofs.lemmas.Bool.{cases_lt, cases_order}
use Rattle.std.proofs.lemmas.List.{ext_get_or, take-append-drop, take-take, length-take-le, get_or-take, get_or-drop, get_or_append_left, get_or-append_right, get_or-replicate, length-replicate, nil_from_length, take_at, drop_at}
use Rattle.std.proofs.lemmas.List.Concat.{flat_map-append}
use Rattle.std.proofs.lemmas.List.Sums.{sum_by-cons, sum_by_more, sum_by-take-le, sum_by-append}
use Rattle.forward_index.specs.Rows.{begins, ends, AreMoved, AreWritten, IsReady, AreFilled}

-- how many entries the rows before the k-th have
abbrev pub before : List (List ℕ) → ℕ → ℕ
before rows k = sum_by (λ row. length row) (take k rows)

abbrev pub total : List (List ℕ) → ℕ
total rows = sum_by (λ row. length row) rows

pub total-cons : (row : List ℕ) (rows : List (List ℕ)) → total (row ∷ rows) ≡ length row + total rows
total-cons row rows = sum_by-cons (λ (r : List ℕ). length r) row rows

pub before_more : (rows : List (List ℕ)) (k : ℕ) → k < length rows → before rows (k + 1) ≡ before rows k + length (get_or rows k [])
before_more rows k lt = sum_by_more (λ (r : List ℕ). length r) rows k [] lt

pub before-le : (rows : List (List ℕ)) (j k : ℕ) → j ≤ k → before rows j ≤ before rows k
before-le rows j k le = omega (arith, sum_by-take-le (λ (r : List ℕ). length r) (take k rows) j, ap total (take-take j k rows le))

pub before-total : (rows : List (List ℕ)) (k : ℕ) → before rows k ≤ total rows
before-total rows k = sum_by-take-le (λ (r : List ℕ). length r) rows k

pub length-begins : (from : ℕ) (rows : List (List ℕ)) → length (begins from rows) ≡ length rows
length-begins from [] = refl
length-begins from (row ∷ rows) = ap suc (length-begins (from + length row) rows)

pub length-ends : (from : ℕ) (rows : List (List ℕ)) → length (ends from rows) ≡ length rows
length-ends from [] = refl
length-ends from (row ∷ rows) = ap suc (length-ends (from + length row) rows)

pub begins_at : (from : ℕ) (rows : List (List ℕ)) (k : ℕ) → k < length rows → get_or (begins from rows) k 0 ≡ from + before rows k
begins_at from [] k lt = absurd (omega (arith, lt))
begins_at from (row ∷ rows) zero lt = sym (add-zero from)
begins_at from (row ∷ rows) (suc k) lt =
    let rest = begins_at (from + length row) rows k (omega (arith, lt)) in
    omega (arith, rest, total-cons row (take k rows))

pub ends_at : (from : ℕ) (rows : List (List ℕ)) (k : ℕ) → k < length rows → get_or (ends from rows) k 0 ≡ from + before rows k + length (get_or rows k [])
ends_at from [] k lt = absurd (omega (arith, lt))
ends_at from (row ∷ rows) zero lt = ap (λ (n : ℕ). n + length row) (sym (add-zero from))
ends_at from (row ∷ rows) (suc k) lt =
    let rest = ends_at (from + length row) rows k (omega (arith, lt)) in
    omega (arith, rest, total-cons row (take k rows))

pub begins-append : (from : ℕ) (front back : List (List ℕ)) → begins from (front ++ back) ≡ begins from front ++ begins (from + total front) back
begins-append from [] back = ap (λ (n : ℕ). begins n back) (sym (add-zero from))
begins-append from (row ∷ front) back =
    let at : from + length row + total front ≡ from + total (row ∷ front) = omega (arith, total-cons row front) in
    ap (λ xs. from ∷ xs) (begins-append (from + length row) front back ∙ ap (λ (n : ℕ). begins (from + length row) front ++ begins n back) at)

pub ends-append : (from : ℕ) (front back : List (List ℕ)) → ends from (front ++ back) ≡ ends from front ++ ends (from + total front) back
ends-append from [] back = ap (λ (n : ℕ). ends n back) (sym (add-zero from))
ends-append from (row ∷ front) back =
    let at : from + length row + total front ≡ from + total (row ∷ front) = omega (arith, total-cons row front) in
    ap (λ xs. (from + length row) ∷ xs) (ends-append (from + length row) front back ∙ ap (λ (n : ℕ). ends (from + length row) front ++ ends n back) at)

-- a table that has each row at its place is the rows side by side
pub flat_from_rows : (rows : List (List ℕ)) (entries : List ℕ) → length entries ≡ total rows
    → ((k i : ℕ) → k < length rows → i < length (get_or rows k []) → get_or entries (before rows k + i) 0 ≡ get_or (get_or rows k []) i 0)
    → entries ≡ flat_map (λ row. row) rows
flat_from_rows [] entries len each = nil_from_length entries len
flat_from_rows (row ∷ rows) entries len each =
    let n = length row in
    let whole : length entries ≡ n + total rows = len ∙ total-cons row rows in
    let front : take n entries ≡ row = ext_get_or 0 (take n entries) row (length-take-le n entries (omega (arith, whole))) (λ i lt.
    let lt' : i < n = omega (arith, lt, length-take-le n entries (omega (arith, whole))) in
    get_or-take n entries i 0 lt' ∙ ap (λ (j : ℕ). get_or entries j 0) (sym (zero-add i)) ∙ each 0 i (omega arith) lt') in
    let back : drop n entries ≡ flat_map (λ row. row) rows = flat_from_rows rows (drop n entries) (omega (arith, length-drop n entries, whole)) (λ k i lt low.
    let at : n + (before rows k + i) ≡ before (row ∷ rows) (suc k) + i = omega (arith, total-cons row (take k rows)) in
    get_or-drop n entries (before rows k + i) 0 ∙ ap (λ (j : ℕ). get_or entries j 0) at ∙ each (suc k) i (omega (arith, lt)) low) in
    sym (take-append-drop n entries) ∙ ap (λ (xs : List ℕ). xs ++ drop n entries) front ∙ ap (λ (xs : List ℕ). row ++ xs) back

-- ---- one list more

module _ (base term : ℕ) (old now moved entries filled : List ℕ) (row : ℕ → List ℕ) (add size : ℕ → ℕ) (len : length now ≡ length old) (apart : (p q : ℕ) → p < q → q < length old → get_or old p 0 + size p ≤ get_or old q 0) (fits : (k : ℕ) → k < length old → length (row k) + add k ≤ size k) (at : (k : ℕ) → k < length old → get_or now k 0 ≡ get_or old k 0 + length (row k)) (there : (k i j : ℕ) → k < length old → i < length (row k) → base + j ≡ get_or old k 0 + i → get_or entries j 0 ≡ get_or (row k) i 0) (step : AreMoved add now moved) (written : AreWritten base term now moved entries filled) where
  -- an entry of a row is no place that is written now
  outside : (k i j : ℕ) → k < length old → i < length (row k) → base + j ≡ get_or old k 0 + i → (q : ℕ) → q < length now → (base + j < get_or now q 0) ⊎ (get_or moved q 0 ≤ base + j)
  outside k i j lt low place q in' =
      let in'' : q < length old = omega (arith, in', len) in
      elim (cases_order q k) [
        | inl e ↦
            let cursor : get_or now q 0 ≡ get_or now k 0 = ap (λ (n : ℕ). get_or now n 0) e in
            inl (omega (arith, cursor, at k lt, low, place))
        | inr other ↦ elim other [
          | inl less ↦ inr (omega (arith, step q in', at q in'', fits q in'', apart q k less lt, place))
          | inr more ↦ inl (omega (arith, at q in'', fits k lt, apart k q more in'', low, place))
        ]
      ]

  pub there_more : (k i j : ℕ) → k < length old → i < length (row k ++ replicate (add k) term) → base + j ≡ get_or old k 0 + i → get_or filled j 0 ≡ get_or (row k ++ replicate (add k) term) i 0
  there_more k i j lt low place =
      let n = length (row k) in
      let in' : k < length now = omega (arith, lt, len) in
      let size' : i < n + add k = omega (arith, low, length-append (row k) (replicate (add k) term), length-replicate (add k) term) in
      elim (cases_lt i n) [
        | inl less ↦ written.kept j (outside k i j lt less place) ∙ there k i j lt less place ∙ sym (get_or_append_left (row k) (replicate (add k) term) 0 i less)
        | inr more ↦
            written.there k j in' (omega (arith, at k lt, more, place)) (omega (arith, at k lt, step k in', size', place))
            ∙ sym (get_or-append_right (row k) (replicate (add k) term) n i 0 refl more ∙ get_or-replicate (add k) (i - n) term 0 (omega (arith, size', more)))
      ]

  pub at_more : (k : ℕ) → k < length old → get_or moved k 0 ≡ get_or old k 0 + length (row k ++ replicate (add k) term)
  at_more k lt = omega (arith, at k lt, step k (omega (arith, lt, len)), length-append (row k) (replicate (add k) term), length-replicate (add k) term)

-- ---- from cursors that are ready, and to rows that are filled

module _ (base : ℕ) (rows : List (List ℕ)) (old entries : List ℕ) (ready : IsReady base rows old entries) where
  pub ready_len : length old ≡ length rows
  ready_len = ap length ready.starts ∙ length-begins base rows

  pub ready_at : (k : ℕ) → k < length old → get_or old k 0 ≡ base + before rows k
  ready_at k lt = ap (λ (xs : List ℕ). get_or xs k 0) ready.starts ∙ begins_at base rows k (omega (arith, lt, ready_len))

  pub ready_apart : (p q : ℕ) → p < q → q < length old → get_or old p 0 + length (get_or rows p []) ≤ get_or old q 0
  ready_apart p q less lt = omega (arith, ready_at p (omega (arith, less, lt)), ready_at q lt, before_more rows p (omega (arith, less, lt, ready_len)), before-le rows (p + 1) q (omega (arith, less)))

  pub ready_within : (k : ℕ) → k < length old → get_or old k 0 + length (get_or rows k []) ≤ base + length entries
  ready_within k lt = omega (arith, ready_at k lt, before_more rows k (omega (arith, lt, ready_len)), before-total rows (k + 1), ready.room)

  pub filled_from : (now filled : List ℕ) → length now ≡ length old → length filled ≡ length entries
      → ((k : ℕ) → k < length old → get_or now k 0 ≡ get_or old k 0 + length (get_or rows k []))
      → ((k i j : ℕ) → k < length old → i < length (get_or rows k []) → base + j ≡ get_or old k 0 + i → get_or filled j 0 ≡ get_or (get_or rows k []) i 0)
      → AreFilled base rows now filled
  filled_from now filled len size at there = record {
    ends = ext_get_or 0 now (ends base rows) (len ∙ ready_len ∙ sym (length-ends base rows)) (λ k lt.
        let lt' : k < length old = omega (arith, lt, len) in
        omega (arith, at k lt', ready_at k lt', ends_at base rows k (omega (arith, lt', ready_len))));
    filled = flat_from_rows rows filled (size ∙ ready.room) (λ k i lt low.
        let lt' : k < length old = omega (arith, lt, ready_len) in
        there k i (before rows k + i) lt' low (omega (arith, ready_at k lt')));
  }

-- ---- two blocks side by side

module _ (base : ℕ) (front back : List (List ℕ)) (old entries : List ℕ) (ready : IsReady base (front ++ back) old entries) where
  ready_total : length entries ≡ total front + total back
  ready_total = ready.room ∙ sum_by-append (λ (r : List ℕ). length r) front back

  ready_begins : old ≡ begins base front ++ begins (base + total front) back
  ready_begins = ready.starts ∙ begins-append base front back

  pub ready_front : (cursors near : List ℕ) → cursors ≡ take (length front) old → near ≡ take (total front) entries → IsReady base front cursors near
  ready_front cursors near cursors_is near_is =
      let room : length near ≡ total front = ap length near_is ∙ length-take-le (total front) entries (omega (arith, ready_total)) in
      record {
        starts = cursors_is ∙ ap (take (length front)) ready_begins ∙ take_at (begins base front) (begins (base + total front) back) (length front) (length-begins base front);
        room = room;
        small = omega (arith, room, ready.small, ready_total);
      }

  pub ready_back : (cut : ℕ) (cursors far : List ℕ) → cut ≡ base + total front → cursors ≡ drop (length front) old → far ≡ drop (total front) entries → IsReady cut back cursors far
  ready_back cut cursors far cut_is cursors_is far_is =
      let room : length far ≡ total back = ap length far_is ∙ omega (arith, length-drop (total front) entries, ready_total) in
      record {
        starts = cursors_is ∙ ap (drop (length front)) ready_begins ∙ drop_at (begins base front) (begins (base + total front) back) (length front) (length-begins base front) ∙ ap (λ (n : ℕ). begins n back) (sym cut_is);
        room = room;
        small = omega (arith, cut_is, room, ready.small, ready_total);
      }

pub filled_both : (base cut : ℕ) (front back : List (List ℕ)) (near_ends far_ends near far : List ℕ) → cut ≡ base + total front → AreFilled base front near_ends near → AreFilled cut back far_ends far
    → AreFilled base (front ++ back) (near_ends ++ far_ends) (near ++ far)
filled_both base cut front back near_ends far_ends near far cut_is first second = record {
  ends = ap (λ (xs : List ℕ). xs ++ far_ends) first.ends ∙ ap (λ (xs : List ℕ). ends base front ++ xs) (second.ends ∙ ap (λ (n : ℕ). ends n back) cut_is) ∙ sym (ends-append base front back);
  filled = ap (λ (xs : List ℕ). xs ++ far) first.filled ∙ ap (λ (xs : List ℕ). flat_map (λ row. row) front ++ xs) second.filled ∙ sym (flat_map-append (λ (row : List ℕ). row) front back);
}
