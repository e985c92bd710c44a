-- What holds of degrees and costs, each the contract of a call of its own.
use Rattle.std.specs.Prelude.{◌≡◌, ℕ, ◌<◌, List, length, map, slice_index, All}
use Rattle.forward_index.specs.Forward.{ForwardIndex, IsForward}
use Rattle.forward_index.specs.Cell.{IsCellOf}
use Rattle.degrees.specs.Cost.{degree, cost}
use Rattle.degrees.specs.Counts.{loaded, cost_of}

-- the cost over a cell's own rows is the cost over the whole forward index: a term without a
-- document in either half costs nothing
abbrev pub CostOverTheCell : Type 0
CostOverTheCell =
    (whole cell : ForwardIndex) (places a b : List ℕ) → IsForward whole → IsForward cell
    → IsCellOf whole places cell
    → All (λ k. k < length places) a → All (λ k. k < length places) b
    → cost cell a b ≡ cost whole (map (slice_index places) a) (map (slice_index places) b)

-- so are the degrees of its terms
abbrev pub DegreesOverTheCell : Type 0
DegreesOverTheCell =
    (whole cell : ForwardIndex) (places half : List ℕ) → IsForward whole → IsForward cell
    → (is : IsCellOf whole places cell) → All (λ k. k < length places) half
    → (term : ℕ) → term < cell.terms
    → degree cell half term
    ≡ degree whole (map (slice_index places) half) (slice_index is.old_terms term)

-- a table that is loaded with two halves costs what they cost
abbrev pub CostOfLoaded : Type 0
CostOfLoaded = (forward : ForwardIndex) (a b : List ℕ) (loads : ℕ)
    → cost_of (loaded forward a b loads) ≡ cost forward a b
