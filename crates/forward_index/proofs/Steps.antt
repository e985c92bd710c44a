-- One posting more: what it adds to the numbers of a block, and what is written for it.
use Rattle.std.proofs.Common.{◌≡◌, ◌==◌, Bool, ℕ, ◌+◌, ◌^◌, ◌<◌, ◌≤◌, List, length, get_or, set, take, refl, sym, ap, ◌∙◌, arith, Some, All, cond, eqb, inl, inr}
use Rattle.std.specs.Prelude.{slice_get}
use Rattle.std.proofs.lemmas.Option.{get_or_from_slice_get}
use Rattle.std.proofs.lemmas.Bool.{cases_eq, cases_lt, eq-eqb, ne_eqb, cond-true, cond-false}
use Rattle.std.proofs.lemmas.List.{get_or-set_same, get_or-set_other}
use Rattle.std.proofs.lemmas.List.Sums.{sum_by_more}
use Rattle.rgb_base.specs.declared.parts.Posting.{Posting}
use Rattle.rgb_base.specs.Order.{new_of}
use Rattle.forward_index.specs.Rows.{times, IsStart, AreMoved, AreWritten}

abbrev pub one_if : Bool → ℕ
one_if b = cond b 1 0

pub times_more : (document : ℕ) (postings : List Posting) (j : ℕ) (d : Posting) → j < length postings
    → times document (take (j + 1) postings) ≡ times document (take j postings) + one_if (eqb (get_or postings j d).doc document)
times_more document postings j d within = sum_by_more (λ (posting : Posting). cond (posting.doc == document) 1 0) postings j d within

-- the document of the k-th place from the first one on is this one just where k is its offset
pub added : (start : List ℕ) (first document place at k : ℕ) → IsStart start → first + k < length start
    → place ≡ new_of start document → slice_get start place ≡ Some document → (first ≤ place → first + at ≡ place) → (place < first → 2 ^ 32 ≤ at)
    → one_if (eqb document (get_or start (first + k) 0)) ≡ one_if (eqb k at)
added start first document place at k is within new there behind before =
    let small = is.small in
    elim (cases_eq k at) [
      | inl e ↦
          elim (cases_lt place first) [
            | inl lt ↦ let far : 2 ^ 32 ≤ at = before lt in absurd (omega arith)
            | inr ge ↦
                let place_is : first + k ≡ place = omega (arith, e, behind ge) in
                let document_is : document ≡ get_or start (first + k) 0 = sym (ap (λ (n : ℕ). get_or start n 0) place_is ∙ get_or_from_slice_get start place document 0 there) in
                cond-true {A = ℕ} (eqb document (get_or start (first + k) 0)) 1 0 (eq-eqb document (get_or start (first + k) 0) document_is) ∙ sym (cond-true {A = ℕ} (eqb k at) 1 0 (eq-eqb k at e))
          ]
      | inr ne ↦
          let other : document ≡ get_or start (first + k) 0 → ⊥ = (λ e.
          let place_is : place ≡ first + k = new ∙ ap (new_of start) e ∙ is.undoes (first + k) within in
          let back : first + at ≡ place = behind (omega (arith, place_is)) in
          ne (omega (arith, place_is, back))) in
          cond-false {A = ℕ} (eqb document (get_or start (first + k) 0)) 1 0 (ne_eqb document (get_or start (first + k) 0) other) ∙ sym (cond-false {A = ℕ} (eqb k at) 1 0 (ne_eqb k at ne))
    ]

module _ (start : List ℕ) (first : ℕ) (postings : List Posting) (j place at : ℕ) (d : Posting) (old now : List ℕ) (is : IsStart start) (within : first + length old ≤ length start) (same : length now ≡ length old) (more : j < length postings) (new : place ≡ new_of start (get_or postings j d).doc) (there : slice_get start place ≡ Some (get_or postings j d).doc) (behind : first ≤ place → first + at ≡ place) (before : place < first → 2 ^ 32 ≤ at) (moved : AreMoved (λ k. times (get_or start (first + k) 0) (take j postings)) old now) where
  next : (k : ℕ) → k < length old → times (get_or start (first + k) 0) (take (j + 1) postings) ≡ times (get_or start (first + k) 0) (take j postings) + one_if (eqb k at)
  next k lt =
      times_more (get_or start (first + k) 0) postings j d more
      ∙ ap (λ (n : ℕ). times (get_or start (first + k) 0) (take j postings) + n) (added start first (get_or postings j d).doc place at k is (omega (arith, lt, within)) new there behind before)

  pub moved_within : at < length now → AreMoved (λ k. times (get_or start (first + k) 0) (take (j + 1) postings)) old (set now at (get_or now at 0 + 1))
  moved_within inside k lt =
      elim (cases_eq k at) [
        | inl e ↦
            let one = cond-true {A = ℕ} (eqb k at) 1 0 (eq-eqb k at e) in
            let set' : get_or (set now at (get_or now at 0 + 1)) k 0 ≡ get_or now k 0 + 1 = ap (λ (n : ℕ). get_or (set now at (get_or now at 0 + 1)) n 0) e ∙ get_or-set_same now at (get_or now at 0 + 1) 0 inside ∙ ap (λ (n : ℕ). get_or now n 0 + 1) (sym e) in
            omega (arith, set', one, next k lt, moved k lt)
        | inr ne ↦
            let none = cond-false {A = ℕ} (eqb k at) 1 0 (ne_eqb k at ne) in
            let kept = get_or-set_other now at k (get_or now at 0 + 1) 0 ne in
            omega (arith, kept, none, next k lt, moved k lt)
      ]

  pub moved_past : length now ≤ at → AreMoved (λ k. times (get_or start (first + k) 0) (take (j + 1) postings)) old now
  moved_past past k lt =
      let ne : k ≡ at → ⊥ = (λ e. absurd (omega (arith, e, past, lt, same))) in
      let none = cond-false {A = ℕ} (eqb k at) 1 0 (ne_eqb k at ne) in
      omega (arith, none, next k lt, moved k lt)

  -- there is room for one more
  pub taken_within : at < length now → get_or now at 0 + 1 ≡ get_or old at 0 + times (get_or start (first + at) 0) (take (j + 1) postings)
  taken_within inside =
      let lt : at < length old = omega (arith, inside, same) in
      let one = cond-true {A = ℕ} (eqb at at) 1 0 (eq-eqb at at refl) in
      omega (arith, one, next at lt, moved at lt)

  pub count_room : (stop limit : ℕ) → ((k n : ℕ) → k < length old → All (λ posting. posting.doc < stop) (take n postings) → get_or old k 0 + times (get_or start (first + k) 0) (take n postings) < limit) → All (λ posting. posting.doc < stop) (take (j + 1) postings) → at < length now
      → get_or now at 0 + 1 < limit
  count_room stop limit few low inside =
      let fits = few at (j + 1) (omega (arith, inside, same)) low in
      omega (arith, taken_within inside, fits)

  -- the cursor stands behind the base, with room for one entry
  pub cursor_room : (base stop limit : ℕ) → All (λ cursor. base ≤ cursor) old → ((k n : ℕ) → k < length old → All (λ posting. posting.doc < stop) (take n postings) → get_or old k 0 + times (get_or start (first + k) 0) (take n postings) ≤ limit) → All (λ posting. posting.doc < stop) (take (j + 1) postings) → at < length now
      → (base ≤ get_or now at 0) × (get_or now at 0 + 1 ≤ limit)
  cursor_room base stop limit low high taken inside =
      let lt : at < length old = omega (arith, inside, same) in
      let above : base ≤ get_or old at 0 = low at 0 lt in
      let fits = high at (j + 1) lt taken in
      (omega (arith, above, moved at lt), omega (arith, taken_within inside, fits))

-- the term is written at one cursor, which moves on
module _ (base term at pos : ℕ) (old now was entries : List ℕ) (same : length now ≡ length old) (inside : at < length now) (here : base + pos ≡ get_or now at 0) (free : pos < length entries) (grown : (k : ℕ) → k < length old → get_or old k 0 ≤ get_or now k 0) (written : AreWritten base term old now was entries) where
  step : ℕ → ℕ
  step k = get_or (set now at (get_or now at 0 + 1)) k 0

  stepped : step at ≡ get_or now at 0 + 1
  unfolding step
  stepped = get_or-set_same now at (get_or now at 0 + 1) 0 inside

  stayed : (k : ℕ) → (k ≡ at → ⊥) → step k ≡ get_or now k 0
  unfolding step
  stayed k ne = get_or-set_other now at k (get_or now at 0 + 1) 0 ne

  not_past : (k i : ℕ) → (i ≡ pos → ⊥) → base + i < step k → base + i < get_or now k 0
  not_past k i ne lt = elim (cases_eq k at) [
    | inl e ↦
        let there : step k ≡ get_or now at 0 + 1 = ap step e ∙ stepped in
        let cursor : get_or now k 0 ≡ get_or now at 0 = ap (λ (n : ℕ). get_or now n 0) e in
        elim (cases_lt i pos) [
          | inl low ↦ omega (arith, here, cursor, low)
          | inr high ↦ let over : pos < i = omega (arith, ne, high) in absurd (omega (arith, there, here, lt, over))
        ]
    | inr other ↦ omega (arith, stayed k other, lt)
  ]

  no_less : (k : ℕ) → get_or now k 0 ≤ step k
  no_less k = elim (cases_eq k at) [
    | inl e ↦
        let there : step k ≡ get_or now at 0 + 1 = ap step e ∙ stepped in
        let cursor : get_or now k 0 ≡ get_or now at 0 = ap (λ (n : ℕ). get_or now n 0) e in
        omega (arith, there, cursor)
    | inr other ↦ omega (arith, stayed k other)
  ]

  pub written_more : AreWritten base term old (set now at (get_or now at 0 + 1)) was (set entries pos term)
  unfolding step
  written_more = record {
    there = λ k i lt low high. elim (cases_eq i pos) [
      | inl e ↦ ap (λ (n : ℕ). get_or (set entries pos term) n 0) e ∙ get_or-set_same entries pos term 0 free
      | inr ne ↦ get_or-set_other entries pos i term 0 ne ∙ written.there k i lt low (not_past k i ne high)
    ];
    kept = λ i out.
        let lt : at < length old = omega (arith, inside, same) in
        let up = grown at lt in
        let other : i ≡ pos → ⊥ = (λ e. elim (out at lt) [
          | inl low ↦ absurd (omega (arith, e, low, up, here))
          | inr high ↦ absurd (omega (arith, e, high, stepped, here))
        ]) in
        get_or-set_other entries pos i term 0 other ∙ written.kept i (λ k within. elim (out k within) [
          | inl low ↦ inl low
          | inr high ↦ inr (let up' = no_less k in omega (arith, high, up'))
        ]);
  }
