-- A cell of a cell is a cell of the whole.
use Rattle.std.proofs.Common.{◌≡◌, ℕ, ◌+◌, ◌<◌, List, [], length, get_or, map, sym, ap, subst, ◌∙◌, arith, All, Any, Contains}
use Rattle.std.specs.List.{range_with_len}
use Rattle.std.specs.List.Sorted.{IsStrictlyIncreasing}
use Rattle.std.proofs.lemmas.List.{ext_get_or, get_or_default, get_or-map, length-map}
use Rattle.std.proofs.lemmas.List.Kept.{AllPairs-from_increasing}
use Rattle.forward_index.specs.Forward.{ForwardIndex, IsForward, row_at}
use Rattle.forward_index.specs.Cell.{IsCellOf}
use Rattle.forward_index.specs.Laws.{CellOfACell}
use Rattle.forward_index.proofs.One.{old_row, cell_rows}

-- the number behind each of some numbers
abbrev pub named : List ℕ → List ℕ → List ℕ
named names numbers = map (λ n. get_or names n 0) numbers

-- names of rising numbers rise where the names do
rising_names : (names numbers : List ℕ) → IsStrictlyIncreasing names → IsStrictlyIncreasing numbers → All (λ n. n < length names) numbers → IsStrictlyIncreasing (named names numbers)
rising_names names numbers up up' below k lt =
    let name : ℕ → ℕ = (λ n. get_or names n 0) in
    let size = length-map numbers name in
    let high : k + 1 < length numbers = omega (arith, lt, size) in
    let less : get_or numbers k 0 < get_or numbers (k + 1) 0 = AllPairs-from_increasing numbers up' k (k + 1) 0 (omega arith) high in
    let more : name (get_or numbers k 0) < name (get_or numbers (k + 1) 0) = AllPairs-from_increasing names up (get_or numbers k 0) (get_or numbers (k + 1) 0) 0 less (below (k + 1) 0 high) in
    omega (arith, more, get_or-map name numbers k 0 0 (omega arith), get_or-map name numbers (k + 1) 0 0 high)

module _ (whole outer inner : ForwardIndex) (places parts : List ℕ) (outer_sound : IsForward outer) (inner_sound : IsForward inner)
    (within : All (λ k. k < length places) parts) (of : IsCellOf whole places outer) (of' : IsCellOf outer parts inner) where
  abbrev name : ℕ → ℕ
  name n = get_or of.old_terms n 0

  abbrev place_of : ℕ → ℕ
  place_of k = get_or places k 0

  -- the terms of the inner cell are terms of the outer one
  term_below : (n : ℕ) → Any (λ k. Contains (row_at outer.rows k) n) parts → n < length of.old_terms
  term_below n (i, k, lt, at, (j, low, here)) =
      let place : get_or parts i 0 ≡ k = get_or_default parts i 0 k lt ∙ at in
      let inside : k < length outer.rows = omega (arith, place, within i 0 lt, cell_rows whole places outer of) in
      let less : get_or (row_at outer.rows k) j n < outer.terms = (outer_sound.rows k [] inside).below j n low in
      omega (arith, less, here, of.terms)

  below : All (λ n. n < length of.old_terms) of'.old_terms
  below i d lt = term_below (get_or of'.old_terms i d) (of'.occur i d lt)

  -- a term that occurs in the inner cell occurs in the whole by its name
  occurs : (n : ℕ) → Any (λ k. Contains (row_at outer.rows k) n) parts → Any (λ place. Contains (row_at whole.rows place) (name n)) (map place_of parts)
  occurs n (i, k, lt, at, (j, low, here)) =
      let is : get_or parts i 0 ≡ k = get_or_default parts i 0 k lt ∙ at in
      let inside : k < length places = omega (arith, is, within i 0 lt) in
      let row : List ℕ = row_at outer.rows k in
      let same : named of.old_terms row ≡ row_at whole.rows (place_of k) = old_row whole places outer of k inside in
      let at' : get_or (row_at whole.rows (place_of k)) j (name n) ≡ name n =
      ap (λ (r : List ℕ). get_or r j (name n)) (sym same) ∙ get_or-map name row j n (name n) low ∙ ap name here in
      let low' : j < length (row_at whole.rows (place_of k)) = omega (arith, low, ap length same, length-map row name) in
      (i, place_of k, omega (arith, lt, length-map parts place_of), get_or-map place_of parts i k (place_of k) lt ∙ ap place_of at, (j, low', at'))

  occur : All (λ term. Any (λ place. Contains (row_at whole.rows place) term) (map place_of parts)) (named of.old_terms of'.old_terms)
  occur i d lt =
      let lt' : i < length of'.old_terms = omega (arith, lt, length-map of'.old_terms name) in
      let is : get_or (named of.old_terms of'.old_terms) i d ≡ name (get_or of'.old_terms i 0) = get_or-map name of'.old_terms i 0 d lt' in
      subst (λ (t : ℕ). Any (λ place. Contains (row_at whole.rows place) t) (map place_of parts)) (sym is) (occurs (get_or of'.old_terms i 0) (of'.occur i 0 lt'))

  -- the name of a name of the inner cell
  renamed : (row : List ℕ) → All (λ n. n < length of'.old_terms) row → named (named of.old_terms of'.old_terms) row ≡ named of.old_terms (named of'.old_terms row)
  renamed row low =
      let name' : ℕ → ℕ = (λ n. get_or of'.old_terms n 0) in
      let both : ℕ → ℕ = (λ n. get_or (named of.old_terms of'.old_terms) n 0) in
      ext_get_or 0 (map both row) (map name (map name' row)) (length-map row both ∙ sym (length-map (map name' row) name ∙ length-map row name')) (λ i lt.
      let lt' : i < length row = omega (arith, lt, length-map row both) in
      let n : ℕ = get_or row i 0 in
      get_or-map both row i 0 0 lt' ∙ get_or-map name of'.old_terms n 0 0 (low i 0 lt')
      ∙ sym (get_or-map name (map name' row) i 0 0 (omega (arith, lt', length-map row name')) ∙ ap name (get_or-map name' row i 0 0 lt')))

  rows : map (λ row. named (named of.old_terms of'.old_terms) row) inner.rows ≡ map (row_at whole.rows) (map place_of parts)
  rows =
      let both : List ℕ → List ℕ = (λ row. named (named of.old_terms of'.old_terms) row) in
      let size : length inner.rows ≡ length parts = cell_rows outer parts inner of' in
      ext_get_or [] (map both inner.rows) (map (row_at whole.rows) (map place_of parts))
      (length-map inner.rows both ∙ size ∙ sym (length-map (map place_of parts) (row_at whole.rows) ∙ length-map parts place_of)) (λ i lt.
      let lt' : i < length inner.rows = omega (arith, lt, length-map inner.rows both) in
      let low : i < length parts = omega (arith, lt', size) in
      let k : ℕ = get_or parts i 0 in
      let row : List ℕ = get_or inner.rows i [] in
      let small : All (λ n. n < length of'.old_terms) row = (λ j d less. let lower : get_or row j d < inner.terms = (inner_sound.rows i [] lt').below j d less in omega (arith, lower, of'.terms)) in
      get_or-map both inner.rows i [] [] lt' ∙ renamed row small ∙ ap (named of.old_terms) (old_row outer parts inner of' i low) ∙ old_row whole places outer of k (within i 0 low)
      ∙ sym (get_or-map (row_at whole.rows) (map place_of parts) i 0 [] (omega (arith, low, length-map parts place_of)) ∙ ap (row_at whole.rows) (get_or-map place_of parts i 0 0 low)))

  is_cell : IsCellOf whole (map place_of parts) inner
  is_cell = record {
    old_terms = named of.old_terms of'.old_terms;
    rising = rising_names of.old_terms of'.old_terms of.rising of'.rising below;
    occur = occur;
    terms = of'.terms ∙ sym (length-map of'.old_terms name);
    rows = rows;
    documents = of'.documents ∙ ap (range_with_len 0) (sym (length-map parts place_of));
  }

pub cell_of_a_cell : CellOfACell
cell_of_a_cell whole outer inner places parts outer_sound inner_sound within of of' = is_cell whole outer inner places parts outer_sound inner_sound within of of'
