-- Sums of whole numbers that may be negative.
use Rattle.std.specs.Prelude.{ℤ, pos, ◌+ℤ◌, List, [], ◌∷◌}

-- the sum of a number for each entry of a list
unfoldable pub total_by : {X : Type 0} → (X → ℤ) → List X → ℤ
total_by number [] = pos 0
total_by number (x ∷ xs) = number x +ℤ total_by number xs
