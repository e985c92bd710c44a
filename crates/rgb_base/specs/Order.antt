-- A permutation of documents: the list of the old number at each new number.
use Rattle.std.specs.Prelude.{◌≡◌, ◌≢◌, ◌==◌, ◌⊎◌, ℕ, ◌^◌, ◌<◌, ◌≤◌, List, length, take, slice_get, slice_index, Some, All, AllPairs, Contains, position, unwrap_or}
use Rattle.rgb_base.specs.declared.error.OrderError.{OrderError}
use Rattle.rgb_base.specs.declared.error.OrderError.TheVariants.{NotAPermutation, OutOfMemory}

-- all entries are below the limit and differ
pub record AreNumbers (limit : ℕ) (order : List ℕ) : Type 0 where
  pub below : All (λ old. old < limit) order
  pub different : AllPairs (λ a b. a ≢ b) order

-- each number below the length stands once, and no other stands
pub record IsOrder (order : List ℕ) : Type 0 where
  pub small : length order < 2 ^ 31
  pub numbers : AreNumbers (length order) order
  pub each : (old : ℕ) → old < length order → Contains order old

-- the place of the first entry that isn't below the length or stands before it too
pub record IsFirstBad (order : List ℕ) (place value : ℕ) : Type 0 where
  pub at : slice_get order place ≡ Some value
  pub wrong : (length order ≤ value) ⊎ Contains (take place order) value
  pub before : AreNumbers (length order) (take place order)

-- the entries have this fault; want of memory is free
abbrev pub IsOrderFault : List ℕ → OrderError → Type 0
IsOrderFault order (NotAPermutation place value) = IsFirstBad order place value
IsOrderFault order OutOfMemory = Unit {0}

-- the new number of an old one: the place at which it stands
unfoldable pub new_of : List ℕ → ℕ → ℕ
new_of order old = unwrap_or (position (λ entry. entry == old) order) 0

-- the orders have one length, and the new order gives each number this new number
pub record Renumbers (order : List ℕ) (length_wanted : ℕ) (number : ℕ → ℕ) : Type 0 where
  pub len : length order ≡ length_wanted
  pub each : (old : ℕ) → old < length_wanted → new_of order old ≡ number old

-- the second table has the new number of each old one: each table undoes the other
pub record AreTables (order places : List ℕ) : Type 0 where
  pub small : length order < 2 ^ 31
  pub len : length places ≡ length order
  pub order_below : (new : ℕ) → new < length order → slice_index order new < length order
  pub places_below : (old : ℕ) → old < length order → slice_index places old < length order
  pub places_undo : (new : ℕ) → new < length order
      → slice_index places (slice_index order new) ≡ new
  pub order_undo : (old : ℕ) → old < length order → slice_index order (slice_index places old) ≡ old

-- the second order gives back each number that the first one changed
pub record IsInverse (order other : List ℕ) : Type 0 where
  pub ordered : IsOrder order
  pub other_ordered : IsOrder other
  pub len : length other ≡ length order
  pub undoes : (old : ℕ) → old < length order → new_of other (new_of order old) ≡ old
