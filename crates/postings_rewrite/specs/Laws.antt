-- What holds of renumbered indexes, each the contract of a call of its own.
use Rattle.std.specs.Prelude.{◌≡◌, ℕ, List, length}
use Rattle.rgb_base.specs.Parts.{IndexParts, IsIndex}
use Rattle.rgb_base.specs.Order.{IsOrder, Renumbers, new_of}
use Rattle.postings_rewrite.specs.Renumbering.{IsRenumbered}

-- the order has a number for each document
pub record IsOrderOf (index : IndexParts) (order : List ℕ) : Type 0 where
  pub ordered : IsOrder order
  pub len : length order ≡ length index.documents

-- an index renumbered by an order of its documents is there
abbrev pub RenumberedIsThere : Type 0
RenumberedIsThere =
    (index : IndexParts) (order : List ℕ) → IsIndex index → IsOrderOf index order
    → (new : IndexParts) × IsRenumbered index order new

-- and is one index
abbrev pub RenumberingIsOne : Type 0
RenumberingIsOne =
    (index a b : IndexParts) (order : List ℕ) → IsOrderOf index order
    → IsRenumbered index order a → IsRenumbered index order b → a ≡ b

-- by the order that leaves each number it is the index itself
abbrev pub IdentityLeaves : Type 0
IdentityLeaves =
    (index new : IndexParts) (order : List ℕ) → IsIndex index → IsOrderOf index order
    → Renumbers order (length index.documents) (λ old. old)
    → IsRenumbered index order new → new ≡ index

-- by one order and then by another it is the index renumbered by the second after the first
abbrev pub TwiceIsOnce : Type 0
TwiceIsOnce =
    (index middle last : IndexParts) (first second both : List ℕ) → IsIndex index
    → IsOrderOf index first → IsOrderOf index second → IsOrderOf index both
    → Renumbers both (length index.documents) (λ old. new_of second (new_of first old))
    → IsRenumbered index first middle → IsRenumbered middle second last
    → IsRenumbered index both last
