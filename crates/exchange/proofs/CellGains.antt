-- Gains over a cell's own rows.
use Rattle.std.proofs.Common.{◌≡◌, ℕ, ◌<◌, ℤ, ◌+ℤ◌, List, [], ◌∷◌, length, get_or, map, All, refl, sym, ap, ◌∙◌, arith}
use Rattle.std.specs.Prelude.{slice_index}
use Rattle.std.specs.List.Sorted.{IsStrictlyIncreasing}
use Rattle.std.proofs.lemmas.List.{length-map, get_or-map}
use Rattle.forward_index.specs.Forward.{ForwardIndex, IsForward, row_at}
use Rattle.forward_index.specs.Cell.{IsCellOf}
use Rattle.degrees.specs.Sums.{total_by}
use Rattle.degrees.specs.Cost.{degree, cost}
use Rattle.degrees.specs.Laws.{CostOverTheCell, DegreesOverTheCell}
use Rattle.exchange.specs.Gain.{term_gain, gain}
use Rattle.exchange.proofs.Totals.{total_by-same}
use Rattle.exchange.proofs.CellPlaces.{AreIn, through}

-- documents of the cell gain and cost what those at their places do
pub record AreAlike (whole cell : ForwardIndex) (places : List ℕ) : Type 0 where
  pub rising : IsStrictlyIncreasing places
  pub costs : (a b : List ℕ) → AreIn places a → AreIn places b → cost cell a b ≡ cost whole (through places a) (through places b)
  pub gains : (a b : List ℕ) (k : ℕ) → AreIn places a → AreIn places b → k < length places
      → gain cell a b k ≡ gain whole (through places a) (through places b) (slice_index places k)

total_by-map : {X Y : Type 0} (f : Y → ℤ) (g : X → Y) (xs : List X) → total_by f (map g xs) ≡ total_by (λ x. f (g x)) xs
unfolding total_by
total_by-map f g [] = refl
total_by-map f g (x ∷ xs) = ap (λ (n : ℤ). f (g x) +ℤ n) (total_by-map f g xs)

module _ (whole cell : ForwardIndex) (places : List ℕ) (is : IsCellOf whole places cell) where
  rows_len : length cell.rows ≡ length places
  rows_len = sym (length-map cell.rows (map (slice_index is.old_terms))) ∙ ap (λ (rows : List (List ℕ)). length rows) is.rows ∙ length-map places (row_at whole.rows)

  row_of : (k : ℕ) → k < length places → row_at whole.rows (slice_index places k) ≡ map (slice_index is.old_terms) (row_at cell.rows k)
  row_of k low =
      sym (get_or-map (row_at whole.rows) places k 0 [] low)
      ∙ ap (λ (rows : List (List ℕ)). get_or rows k []) (sym is.rows)
      ∙ get_or-map (map (slice_index is.old_terms)) cell.rows k [] [] (omega (arith, low, rows_len))

  row_below : IsForward cell → (k : ℕ) → k < length places → All (λ term. term < cell.terms) (row_at cell.rows k)
  row_below sound k low = (sound.rows k [] (omega (arith, low, rows_len))).below

-- a term gains the same by its other number
term_same : (whole cell : ForwardIndex) (places a b : List ℕ) (old term : ℕ)
    → degree cell a term ≡ degree whole (through places a) old → degree cell b term ≡ degree whole (through places b) old
    → term_gain (length a) (length b) (degree cell a term) (degree cell b term)
    ≡ term_gain (length (through places a)) (length (through places b)) (degree whole (through places a) old) (degree whole (through places b) old)
term_same whole cell places a b old term same_a same_b =
    ap (λ (x : ℕ). term_gain (length a) (length b) x (degree cell b term)) same_a
    ∙ ap (λ (y : ℕ). term_gain (length a) (length b) (degree whole (through places a) old) y) same_b
    ∙ ap (λ (m : ℕ). term_gain m (length b) (degree whole (through places a) old) (degree whole (through places b) old)) (sym (length-map a (slice_index places)))
    ∙ ap (λ (n : ℕ). term_gain (length (through places a)) n (degree whole (through places a) old) (degree whole (through places b) old)) (sym (length-map b (slice_index places)))

gain_same : DegreesOverTheCell → (whole cell : ForwardIndex) (places : List ℕ) → IsForward whole → IsForward cell → IsCellOf whole places cell
    → (a b : List ℕ) (k : ℕ) → AreIn places a → AreIn places b → k < length places
    → gain cell a b k ≡ gain whole (through places a) (through places b) (slice_index places k)
gain_same degrees whole cell places sound cell_sound is a b k in_a in_b low =
    let row = row_at cell.rows k in
    let inner : ℕ → ℤ = λ term. term_gain (length a) (length b) (degree cell a term) (degree cell b term) in
    let outer : ℕ → ℤ = λ term. term_gain (length (through places a)) (length (through places b)) (degree whole (through places a) term) (degree whole (through places b) term) in
    total_by-same inner (λ term. outer (slice_index is.old_terms term)) row (λ i d within.
    let term = get_or row i d in
    let is_term : term < cell.terms = row_below whole cell places is cell_sound k low i d within in
    term_same whole cell places a b (slice_index is.old_terms term) term
    (degrees whole cell places a sound cell_sound is in_a term is_term) (degrees whole cell places b sound cell_sound is in_b term is_term))
    ∙ sym (total_by-map outer (slice_index is.old_terms) row)
    ∙ ap (total_by outer) (sym (row_of whole cell places is k low))

pub alike : CostOverTheCell → DegreesOverTheCell → (whole cell : ForwardIndex) (places : List ℕ) → IsForward whole → IsForward cell
    → IsStrictlyIncreasing places → IsCellOf whole places cell → AreAlike whole cell places
alike costs degrees whole cell places sound cell_sound rising is = record {
  rising = rising;
  costs = λ a b in_a in_b. costs whole cell places a b sound cell_sound is in_a in_b;
  gains = gain_same degrees whole cell places sound cell_sound is;
}
