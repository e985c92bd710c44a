-- The lines of a file of queries. A file and a line are lists of bytes.
use Rattle.std.specs.Prelude.{◌≢◌, ℕ, ◌-◌, List, [], ◌∷◌, ◌++◌, length, take, slice_index, nat_eq, if◌then◌else◌}
use Rattle.std.specs.List.{AllByRecursion}

-- no line feed is among the bytes
abbrev pub HasNoFeed : List ℕ → Type 0
HasNoFeed bytes = AllByRecursion (λ byte. byte ≢ 10) bytes

-- the bytes without the carriage return at their end, if one stands there
abbrev pub without_return : List ℕ → List ℕ
without_return bytes =
    if nat_eq (slice_index bytes (length bytes - 1)) 13 then take (length bytes - 1) bytes else bytes

-- The bytes fall into these lines. A line ends at the first line feed, and one carriage return before
-- that is dropped. What stands behind the last line feed is a line as it stands.
pub data AreLines : List ℕ → List (List ℕ) → Type 0 where
  last_line : {bytes : List ℕ} → HasNoFeed bytes → AreLines bytes (bytes ∷ [])
  next_line : {rest : List ℕ} {lines : List (List ℕ)} (bytes : List ℕ)
      → HasNoFeed bytes → AreLines rest lines
      → AreLines (bytes ++ 10 ∷ rest) (without_return bytes ∷ lines)
