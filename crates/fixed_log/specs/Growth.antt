-- A count times the logarithm of one more, and what this product grows by with each count.
use Rattle.std.specs.Prelude.{◌≡◌, ℕ, ◌+◌, ◌-◌, ◌*◌, ◌^◌, ◌<◌, ◌≤◌, ℤ, pos, neg_ℤ, ◌-ℤ◌, ◌≤ℤ◌, List, length, slice_index_or}
use Rattle.fixed_log.specs.Log.{lg}

unfoldable pub log_product : ℕ → ℕ
log_product count = count * lg (count + 1)

-- from the count before to this one, and nothing at 0
unfoldable pub growth : ℕ → ℤ
growth count = pos (log_product count) -ℤ pos (log_product (count - 1))

-- the entry at place i is the growth at i
abbrev pub AreGrowths : List ℤ → Type 0
AreGrowths growths =
    (count : ℕ) → count < length growths → slice_index_or growths count (pos 0) ≡ growth count

abbrev pub GrowthIsSmall : Type 0
GrowthIsSmall = (count : ℕ) → count ≤ 2 ^ 31
    → (neg_ℤ (pos (2 ^ 53)) ≤ℤ growth count) × (growth count ≤ℤ pos (2 ^ 53))
