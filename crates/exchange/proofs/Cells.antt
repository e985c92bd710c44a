-- A cell and its halves.
use Rattle.std.proofs.Common.{◌≡◌, ℕ, ◌+◌, ◌-◌, ◌/◌, ◌<◌, List, ◌++◌, length, take, drop, All, sym, subst, ap, ◌∙◌, arith}
use Rattle.std.specs.List.Sorted.{IsPermutation, IsStrictlyIncreasing}
use Rattle.std.proofs.lemmas.List.{length-append, length-take, length-drop, take-append-drop, get_or_default}
use Rattle.std.proofs.lemmas.List.FromFn.{length-map-range_with_len}
use Rattle.std.proofs.lemmas.List.Sorted.{All-permutation}
use Rattle.std.proofs.lemmas.List.Sums.{count_by-le-length}
use Rattle.std.proofs.Math.Seq.{take-append_seam, drop-append_seam}
use Rattle.rgb_base.specs.Order.{AreNumbers}
use Rattle.forward_index.specs.Forward.{ForwardIndex, row_at}
use Rattle.degrees.specs.Cost.{degree, has_term}
use Rattle.degrees.specs.Counts.{AreBelow, degrees_of, loaded}
use Rattle.exchange.specs.declared.round.Round.{Round}
use Rattle.exchange.specs.Halving.{half_a, half_b}
use Rattle.exchange.specs.Round.{IsRound}
use Rattle.exchange.proofs.Moved.{made_at}
use Rattle.exchange.proofs.Exchanged.{Differ-permutation, Differ-from_rising}
use Rattle.exchange.proofs.Outcome.{few_numbers}

-- the number of documents of the first half
pub middle_is : (n : ℕ) → n - n / 2 ≡ (n + 1) / 2
middle_is n = omega arith

pub cell_is : (cell : List ℕ) → half_a cell ++ half_b cell ≡ cell
cell_is cell = take-append-drop ((length cell + 1) / 2) cell

pub length_a : (cell : List ℕ) → length (half_a cell) ≡ (length cell + 1) / 2
length_a cell = omega (arith, length-take ((length cell + 1) / 2) cell)

pub length_b : (cell : List ℕ) → length (half_b cell) ≡ length cell / 2
length_b cell = omega (arith, length-drop ((length cell + 1) / 2) cell)

-- two parts are the halves of what they make together
pub halves_are : (a b : List ℕ) (n : ℕ) → length a ≡ (n + 1) / 2 → length b ≡ n / 2 → (half_a (a ++ b) ≡ a) × (half_b (a ++ b) ≡ b)
halves_are a b n len_a len_b =
    let whole : (length (a ++ b) + 1) / 2 ≡ length a = omega (arith, length-append a b, len_a, len_b) in
    (ap (λ (k : ℕ). take k (a ++ b)) whole ∙ take-append_seam a b, ap (λ (k : ℕ). drop k (a ++ b)) whole ∙ drop-append_seam a b)

pub AreNumbers-permutation : (n : ℕ) (xs ys : List ℕ) → IsPermutation xs ys → AreNumbers n xs → AreNumbers n ys
AreNumbers-permutation n xs ys same are = record {
  below = All-permutation (λ p. p < n) xs ys same are.below;
  different = Differ-permutation xs ys same are.different;
}

pub AreNumbers-from_rising : (n : ℕ) (xs : List ℕ) → IsStrictlyIncreasing xs → All (λ p. p < n) xs → AreNumbers n xs
AreNumbers-from_rising n xs rising below = record { below = below; different = Differ-from_rising xs rising }

pub loaded_below : (top : ℕ) (forward : ForwardIndex) (a b : List ℕ) (loads : ℕ) → AreNumbers (length forward.rows) (a ++ b) → length forward.rows < top → AreBelow top (loaded forward a b loads)
loaded_below top forward a b loads are low =
    let few = few_numbers (length forward.rows) (a ++ b) are in
    let len = length-append a b in
    record {
      a = λ k d within.
          let in_terms : k < forward.terms = omega (arith, within, length-map-range_with_len (degree forward a) 0 forward.terms) in
          omega (arith, few, len, low, get_or_default (degrees_of forward a) k d 0 within, made_at (degree forward a) forward.terms k in_terms, count_by-le-length (λ (place : ℕ). has_term (row_at forward.rows place) k) a);
      b = λ k d within.
          let in_terms : k < forward.terms = omega (arith, within, length-map-range_with_len (degree forward b) 0 forward.terms) in
          omega (arith, few, len, low, get_or_default (degrees_of forward b) k d 0 within, made_at (degree forward b) forward.terms k in_terms, count_by-le-length (λ (place : ℕ). has_term (row_at forward.rows place) k) b);
      len_a = omega (arith, few, len, low);
      len_b = omega (arith, few, len, low);
    }

-- what a round of two parts says of their cell
pub round_of_parts : (forward : ForwardIndex) (cell a b : List ℕ) (round : Round) → length a ≡ (length cell + 1) / 2 → length b ≡ length cell / 2
    → IsRound forward (half_a cell) (half_b cell) round a b → IsRound forward (half_a cell) (half_b cell) round (half_a (a ++ b)) (half_b (a ++ b))
round_of_parts forward cell a b round len_a len_b is =
    let halves = halves_are a b (length cell) len_a len_b in
    subst (λ (x : List ℕ). IsRound forward (half_a cell) (half_b cell) round x (half_b (a ++ b))) (sym halves.0) (subst (λ (y : List ℕ). IsRound forward (half_a cell) (half_b cell) round a y) (sym halves.1) is)

pub loaded_of_parts : (forward : ForwardIndex) (n : ℕ) (a b : List ℕ) (loads : ℕ) → length a ≡ (n + 1) / 2 → length b ≡ n / 2 → loaded forward a b loads ≡ loaded forward (half_a (a ++ b)) (half_b (a ++ b)) loads
loaded_of_parts forward n a b loads len_a len_b =
    let halves = halves_are a b n len_a len_b in
    ap (λ (x : List ℕ). loaded forward x b loads) (sym halves.0) ∙ ap (λ (y : List ℕ). loaded forward (half_a (a ++ b)) y loads) (sym halves.1)

pub joined : (m : ℕ) (docs xs ys : List ℕ) → xs ≡ take m docs → ys ≡ drop m docs → xs ++ ys ≡ docs
joined m docs xs ys front back = ap (λ (us : List ℕ). us ++ ys) front ∙ ap (λ (vs : List ℕ). take m docs ++ vs) back ∙ take-append-drop m docs
