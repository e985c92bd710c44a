-- What holds of forward indexes, each the contract of a call of its own.
use Rattle.std.specs.Prelude.{◌≡◌, ℕ, ◌^◌, ◌<◌, List, length, map, slice_index, All}
use Rattle.rgb_base.specs.Parts.{IndexParts, IsIndex}
use Rattle.rgb_base.specs.Order.{IsOrder}
use Rattle.forward_index.specs.Forward.{ForwardIndex, IsForward, IsForwardOf}
use Rattle.forward_index.specs.Cell.{IsCellOf}
use Rattle.forward_index.specs.Start.{IsStartByName}

-- an index has one forward index over a start order
abbrev pub ForwardIsOne : Type 0
ForwardIsOne =
    (index : IndexParts) (min_df : ℕ) (start : List ℕ) (a b : ForwardIndex)
    → IsForward a → IsForward b
    → IsForwardOf index min_df start a → IsForwardOf index min_df start b → a ≡ b

-- some documents have one forward index of their own
abbrev pub CellIsOne : Type 0
CellIsOne =
    (whole : ForwardIndex) (places : List ℕ) (a b : ForwardIndex)
    → IsForward a → IsForward b
    → IsCellOf whole places a → IsCellOf whole places b → a ≡ b

-- a cell of a cell is a cell of the whole
abbrev pub CellOfACell : Type 0
CellOfACell =
    (whole outer inner : ForwardIndex) (places parts : List ℕ)
    → IsForward outer → IsForward inner
    → All (λ k. k < length places) parts
    → IsCellOf whole places outer → IsCellOf outer parts inner
    → IsCellOf whole (map (slice_index places) parts) inner

-- an index has one start order by name
abbrev pub StartByNameIsOne : Type 0
StartByNameIsOne =
    (index : IndexParts) (a b : List ℕ) → IsStartByName index a → IsStartByName index b → a ≡ b

-- the index has a forward index over the start order
pub record HasForward (index : IndexParts) (min_df : ℕ) (start : List ℕ) : Type 0 where
  pub forward : ForwardIndex
  pub sound : IsForward forward
  pub is_forward : IsForwardOf index min_df start forward

abbrev pub ForwardIsThere : Type 0
ForwardIsThere = (index : IndexParts) (min_df : ℕ) (start : List ℕ) → IsIndex index
    → IsOrder start → length start ≡ length index.documents → HasForward index min_df start

-- the index has a start order by name
pub record HasStart (index : IndexParts) : Type 0 where
  pub order : List ℕ
  pub is_start : IsStartByName index order

abbrev pub StartIsThere : Type 0
StartIsThere = (index : IndexParts) → length index.documents < 2 ^ 31 → HasStart index
