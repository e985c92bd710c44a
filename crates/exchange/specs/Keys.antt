-- Entries whose gains lie near one another, each as one number.
use Rattle.std.specs.Prelude.{ℕ, ◌/◌, ◌%◌, ◌^◌, ℤ, pos, ◌+ℤ◌, ◌-ℤ◌, ◌<ℤ◌, ◌≤ℤ◌}
use Rattle.exchange.specs.declared.entry.Entry.{Entry}

-- the gain isn't above the greatest one, and is less than 2^32 below it
pub record IsNear (greatest : ℤ) (entry : Entry) : Type 0 where
  pub low : entry.gain ≤ℤ greatest
  pub near : greatest <ℤ (entry.gain +ℤ pos (2 ^ 32))

-- the entry with this key, which is how far its gain is below the greatest one, and behind that its
-- document
abbrev pub entry_at : ℤ → ℕ → Entry
entry_at greatest key = record { gain = greatest -ℤ pos (key / 2 ^ 32); doc = key % 2 ^ 32 }
