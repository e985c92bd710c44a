-- Degrees and costs over a cell's own rows.
use Rattle.std.proofs.Common.{◌≡◌, ◌≢◌, ◌||◌, ℕ, ◌+◌, ◌<◌, ℤ, pos, ◌+ℤ◌, Bool, false, cond, nat_eq, List, [], ◌∷◌, length, get_or, map, sum_by, All, Contains, inl, inr, refl, sym, ap, subst, ◌∙◌, arith}
use Rattle.std.specs.Prelude.{slice_index}
use Rattle.std.specs.List.{range_with_len, AllPairs}
use Rattle.std.proofs.lemmas.Bool.{cases_eq, cases_lt}
use Rattle.std.proofs.lemmas.Int.{ints}
use Rattle.std.proofs.lemmas.List.{length-map, get_or-map, get_or_past}
use Rattle.std.proofs.lemmas.List.Elements.{All-head, All-tail, All-map, All-contains, Contains-get_or}
use Rattle.std.proofs.lemmas.List.Folds.{fold-map, list_any_none}
use Rattle.std.proofs.lemmas.List.FromFn.{fill_by_all}
use Rattle.std.proofs.lemmas.List.Kept.{AllPairs-from_increasing}
use Rattle.forward_index.specs.Forward.{ForwardIndex, IsForward, row_at}
use Rattle.forward_index.specs.Cell.{IsCellOf}
use Rattle.degrees.specs.Sums.{total_by}
use Rattle.degrees.specs.Cost.{has_term, degree, part, cost}
use Rattle.degrees.specs.Counts.{degrees_of}
use Rattle.degrees.specs.Laws.{CostOverTheCell, DegreesOverTheCell, CostOfLoaded}
use Rattle.degrees.proofs.Distinct.{sum_by_same}
use Rattle.degrees.proofs.Rows.{one_if, equal, not_equal, degrees_at, degrees_len}
use Rattle.degrees.proofs.Sums.{range_below, sum_by_none}
use Rattle.degrees.proofs.Costs.{part_none}
use Rattle.degrees.proofs.Total.{total_same, total_map, total_over}

-- ---- a table that is loaded

pub cost_of_loaded : CostOfLoaded
cost_of_loaded forward a b loads =
    let range : List ℕ = range_with_len 0 forward.terms in
    let one : ℕ → ℤ = λ term. part (get_or (degrees_of forward a) term 0) (length a) +ℤ part (get_or (degrees_of forward b) term 0) (length b) in
    let two : ℕ → ℤ = λ term. part (degree forward a term) (length a) +ℤ part (degree forward b term) (length b) in
    ap (λ (n : ℕ). total_by one (range_with_len 0 n)) (degrees_len forward a)
    ∙ total_same one two range (λ k d lt.
    let low : get_or range k d < forward.terms = range_below 0 forward.terms forward.terms (omega arith) k d lt in
    ap (λ (n : ℕ). part n (length a) +ℤ part (get_or (degrees_of forward b) (get_or range k d) 0) (length b)) (degrees_at forward a (get_or range k d) low)
    ∙ ap (λ (n : ℕ). part (degree forward a (get_or range k d)) (length a) +ℤ part n (length b)) (degrees_at forward b (get_or range k d) low))

-- ---- a cell

-- a row by other numbers has a term by its other number
has_mapped : (number : ℕ → ℕ) (row : List ℕ) (term : ℕ) → All (λ x. number x ≡ number term → x ≡ term) row
    → has_term (map number row) (number term) ≡ has_term row term
has_mapped number [] term one = refl
has_mapped number (x ∷ row) term one =
    let same : nat_eq (number x) (number term) ≡ nat_eq x term =
    elim (cases_eq x term) [
      | inl here ↦ ap (λ (y : ℕ). nat_eq (number y) (number term)) here ∙ equal (number term) ∙ sym (equal term) ∙ ap (λ (y : ℕ). nat_eq y term) (sym here)
      | inr unlike ↦ not_equal (number x) (number term) (λ h. unlike (All-head (λ y. number y ≡ number term → y ≡ term) x row one h)) ∙ sym (not_equal x term unlike)
    ] in
    let rest = has_mapped number row term (All-tail (λ y. number y ≡ number term → y ≡ term) x row one) in
    ap (λ (b : Bool). b || has_term (map number row) (number term)) same ∙ ap (λ (b : Bool). nat_eq x term || b) rest

has_none : (row : List ℕ) (term : ℕ) → All (λ x. x ≢ term) row → has_term row term ≡ false
has_none row term unlike = list_any_none (λ (x : ℕ). nat_eq x term) row (λ k d lt. not_equal (get_or row k d) term (unlike k d lt))

sum_by_map : (f : ℕ → ℕ) (g : ℕ → ℕ) (xs : List ℕ) → sum_by f (map g xs) ≡ sum_by (λ x. f (g x)) xs
sum_by_map f g xs = fold-map (λ (a x : ℕ). a + f x) g 0 xs

row_below : (forward : ForwardIndex) (place : ℕ) → IsForward forward → All (λ term. term < forward.terms) (row_at forward.rows place)
row_below forward place sound =
    elim (cases_lt place (length forward.rows)) [
      | inl low ↦ (sound.rows place [] low).below
      | inr past ↦ subst (All (λ term. term < forward.terms)) (sym (get_or_past forward.rows place [] past)) (λ k d lt. absurd (omega arith))
    ]

module _ (whole cell : ForwardIndex) (places : List ℕ) (sound : IsForward whole) (cell_sound : IsForward cell) (is : IsCellOf whole places cell) where
  rows_len : length cell.rows ≡ length places
  rows_len = sym (length-map cell.rows (map (slice_index is.old_terms))) ∙ ap (λ (rows : List (List ℕ)). length rows) is.rows ∙ length-map places (row_at whole.rows)

  row_of : (k : ℕ) → k < length places → row_at whole.rows (get_or places k 0) ≡ map (slice_index is.old_terms) (row_at cell.rows k)
  row_of k low =
      sym (get_or-map (row_at whole.rows) places k 0 [] low)
      ∙ ap (λ (rows : List (List ℕ)). get_or rows k []) (sym is.rows)
      ∙ get_or-map (map (slice_index is.old_terms)) cell.rows k [] [] (omega (arith, rows_len))

  one_old : (x y : ℕ) → x < length is.old_terms → y < length is.old_terms → slice_index is.old_terms x ≡ slice_index is.old_terms y → x ≡ y
  one_old x y low_x low_y same =
      elim (cases_eq x y) [
        | inl here ↦ here
        | inr unlike ↦
            elim (cases_lt x y) [
              | inl below ↦ absurd (omega (arith, AllPairs-from_increasing is.old_terms is.rising x y 0 below low_y))
              | inr above ↦ absurd (omega (arith, AllPairs-from_increasing is.old_terms is.rising y x 0 (omega arith) low_x))
            ]
      ]

  pub degree_of : (half : List ℕ) → All (λ k. k < length places) half → (term : ℕ) → term < cell.terms
      → degree cell half term ≡ degree whole (map (slice_index places) half) (slice_index is.old_terms term)
  degree_of half below term low =
      let inner : ℕ → ℕ = λ k. one_if (row_at cell.rows k) term in
      let outer : ℕ → ℕ = λ p. one_if (row_at whole.rows p) (slice_index is.old_terms term) in
      sum_by_same inner (λ k. outer (slice_index places k)) half (λ i d lt.
      let k = get_or half i d in
      let in_places : k < length places = below i d lt in
      let row = row_at cell.rows k in
      let mapped : has_term (map (slice_index is.old_terms) row) (slice_index is.old_terms term) ≡ has_term row term =
      has_mapped (slice_index is.old_terms) row term (λ j e lt'.
      one_old (get_or row j e) term (omega (arith, is.terms, row_below cell k cell_sound j e lt')) (omega (arith, is.terms))) in
      ap (λ (b : Bool). cond b 1 0) (sym mapped ∙ ap (λ (r : List ℕ). has_term r (slice_index is.old_terms term)) (sym (row_of k in_places))))
      ∙ sym (sum_by_map outer (slice_index places) half)

  -- a term of no document there has no degree
  degree_outside : (half : List ℕ) → All (λ k. k < length places) half → (term : ℕ) → (Contains is.old_terms term → ⊥)
      → degree whole (map (slice_index places) half) term ≡ 0
  degree_outside half below term out =
      let outer : ℕ → ℕ = λ p. one_if (row_at whole.rows p) term in
      sum_by_map outer (slice_index places) half
      ∙ sum_by_same (λ k. outer (slice_index places k)) (λ k. 0) half (λ i d lt.
      let k = get_or half i d in
      let row = row_at cell.rows k in
      let none : has_term (map (slice_index is.old_terms) row) term ≡ false =
      has_none (map (slice_index is.old_terms) row) term (All-map (λ (x : ℕ). x ≢ term) (slice_index is.old_terms) row (λ j e lt' same.
      let inside : get_or row j e < length is.old_terms = omega (arith, is.terms, row_below cell k cell_sound j e lt') in
      out (subst (Contains is.old_terms) same (Contains-get_or is.old_terms (get_or row j e) 0 inside)))) in
      ap (λ (b : Bool). cond b 1 0) (ap (λ (r : List ℕ). has_term r term) (row_of k (below i d lt)) ∙ none))
      ∙ sum_by_none (λ k. 0) half (λ x. refl)

  old_below : All (λ term. term < whole.terms) is.old_terms
  old_below k d lt =
      let there = is.occur k d lt in
      All-contains (λ (term : ℕ). term < whole.terms) (row_at whole.rows there.1) (get_or is.old_terms k d) (row_below whole there.1 sound) there.4

  old_different : AllPairs (λ a b. a ≢ b) is.old_terms
  old_different i j d before lt same = omega (arith, AllPairs-from_increasing is.old_terms is.rising i j d before lt)

  pub cost_over : (a b : List ℕ) → All (λ k. k < length places) a → All (λ k. k < length places) b
      → cost cell a b ≡ cost whole (map (slice_index places) a) (map (slice_index places) b)
  cost_over a b below_a below_b =
      let m = length a in
      let n = length b in
      let whole_a = map (slice_index places) a in
      let whole_b = map (slice_index places) b in
      let inner : ℕ → ℤ = λ term. part (degree cell a term) m +ℤ part (degree cell b term) n in
      let outer : ℕ → ℤ = λ term. part (degree whole whole_a term) m +ℤ part (degree whole whole_b term) n in
      let range : List ℕ = range_with_len 0 cell.terms in
      let step : total_by inner range ≡ total_by (λ (term : ℕ). outer (slice_index is.old_terms term)) range =
      total_same inner (λ (term : ℕ). outer (slice_index is.old_terms term)) range (λ i d lt.
      let term = get_or range i d in
      let low : term < cell.terms = range_below 0 cell.terms cell.terms (omega arith) i d lt in
      ap (λ (k : ℕ). part k m +ℤ part (degree cell b term) n) (degree_of a below_a term low)
      ∙ ap (λ (k : ℕ). part (degree whole whole_a (slice_index is.old_terms term)) m +ℤ part k n) (degree_of b below_b term low)) in
      let all : map (slice_index is.old_terms) range ≡ is.old_terms = sym (fill_by_all (slice_index is.old_terms) is.old_terms cell.terms 0 (sym is.terms) (λ k lt. refl)) in
      let over : total_by outer is.old_terms ≡ total_by outer (range_with_len 0 whole.terms) =
      total_over outer is.old_terms whole.terms old_below old_different (λ term lt out.
      let none_a : part (degree whole whole_a term) m ≡ pos 0 = ap (λ (k : ℕ). part k m) (degree_outside a below_a term out) ∙ part_none m in
      let none_b : part (degree whole whole_b term) n ≡ pos 0 = ap (λ (k : ℕ). part k n) (degree_outside b below_b term out) ∙ part_none n in
      omega (arith, ints)) in
      let sizes : total_by outer (range_with_len 0 whole.terms) ≡ cost whole whole_a whole_b =
      ap (λ (k : ℕ). total_by (λ (term : ℕ). part (degree whole whole_a term) k +ℤ part (degree whole whole_b term) n) (range_with_len 0 whole.terms)) (sym (length-map a (slice_index places)))
      ∙ ap (λ (k : ℕ). total_by (λ (term : ℕ). part (degree whole whole_a term) (length whole_a) +ℤ part (degree whole whole_b term) k) (range_with_len 0 whole.terms)) (sym (length-map b (slice_index places))) in
      step ∙ sym (total_map outer (slice_index is.old_terms) range) ∙ ap (total_by outer) all ∙ over ∙ sizes

pub cost_over_the_cell : CostOverTheCell
cost_over_the_cell whole cell places a b sound cell_sound is below_a below_b = cost_over whole cell places sound cell_sound is a b below_a below_b

pub degrees_over_the_cell : DegreesOverTheCell
degrees_over_the_cell whole cell places half sound cell_sound is below term low = degree_of whole cell places sound cell_sound is half below term low
