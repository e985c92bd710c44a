-- Sums over lists, and how often numbers stand in them.
use Rattle.std.specs.Prelude.{ℕ, ◌+◌, ◌-◌, min, List, [], ◌∷◌}

-- what f gives of each, added up
abbrev pub total : {A : Type 0} → (A → ℕ) → List A → ℕ
total f [] = 0
total f (x ∷ xs) = f x + total f xs

-- 1 where both are one number, and else 0
abbrev pub is_same : ℕ → ℕ → ℕ
is_same k x = 1 - ((x - k) + (k - x))

-- how often k stands in the list
abbrev pub times : ℕ → List ℕ → ℕ
times k [] = 0
times k (x ∷ xs) = is_same k x + times k xs

-- 1 where k lies below n, and else 0
abbrev pub is_below : ℕ → ℕ → ℕ
is_below k n = min 1 (n - k)

-- how many numbers of the list are n or more
abbrev pub late : ℕ → List ℕ → ℕ
late n [] = 0
late n (x ∷ xs) = (1 - (n - x)) + late n xs
