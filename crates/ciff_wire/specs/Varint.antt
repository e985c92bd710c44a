-- Varints (Protocol Buffers, "Encoding", base 128 varints): seven bits of each byte, the low group
-- first, with the top bit set on every byte but the last, and at most ten bytes.
use Rattle.std.specs.Prelude.{◌≡◌, ◌≢◌, ℕ, zero, suc, ◌+◌, ◌-◌, ◌*◌, ◌/◌, ◌%◌, ◌^◌, ◌<◌, ◌≤◌, List, [], ◌∷◌, length, take, slice_index, All, if◌then◌else◌, nat_lt}
use Rattle.ciff_wire.specs.declared.varint.Varint.{Varint}
use Rattle.ciff_wire.specs.declared.varint.Varint.TheVariants.{Done, Short, Long}

-- the sum of (b mod 128) * 128^i over the bytes, the first of which has this i
unfoldable pub sum_from : ℕ → List ℕ → ℕ
sum_from i [] = 0
sum_from i (b ∷ bs) = b % 128 * 128 ^ i + sum_from (i + 1) bs

-- what the groups of the bytes make together
unfoldable pub sum_of : List ℕ → ℕ
sum_of bytes = sum_from 0 bytes

-- one to ten bytes, all but the last of which have the top bit
pub record IsSpelling (bytes : List ℕ) : Type 0 where
  pub octets : All (λ b. b < 256) bytes
  pub some : 0 < length bytes
  pub most : length bytes ≤ 10
  pub goes_on : All (λ b. 128 ≤ b) (take (length bytes - 1) bytes)
  pub ends : slice_index bytes (length bytes - 1) < 128

-- a spelling of a number of 64 bits
pub record Spells (bytes : List ℕ) (value : ℕ) : Type 0 where
  pub spelling : IsSpelling bytes
  pub sum : sum_of bytes % 2 ^ 64 ≡ value

-- the front of the bytes, up to used, is a spelling of the value
pub record Reads (bytes : List ℕ) (value used : ℕ) : Type 0 where
  pub within : used ≤ length bytes
  pub spells : Spells (take used bytes) value

-- the bytes end before a varint does
pub record EndsEarly (bytes : List ℕ) : Type 0 where
  pub few : length bytes < 10
  pub unended : All (λ b. 128 ≤ b) bytes

-- the first ten bytes all carry the top bit
pub record RunsOn (bytes : List ℕ) : Type 0 where
  pub many : 10 ≤ length bytes
  pub unended : All (λ b. 128 ≤ b) (take 10 bytes)

-- what reading a varint off the front gives; the three exclude each other
abbrev pub IsRead : List ℕ → Varint → Type 0
IsRead bytes (Done value used) = Reads bytes value used
IsRead bytes Short = EndsEarly bytes
IsRead bytes Long = RunsOn bytes

-- the canonical spelling of v: its sum is v, and every other spelling with this sum is longer
pub record IsCanonicalVarint (v : ℕ) (bytes : List ℕ) : Type 0 where
  pub spelling : IsSpelling bytes
  pub sum : sum_of bytes ≡ v
  pub shortest : (other : List ℕ) → IsSpelling other → sum_of other ≡ v → other ≢ bytes
      → length bytes < length other

-- ---- its computation, for v below 2^64 (a law says that it is the canonical spelling)

-- the groups of v, where at most so many may follow the first
unfoldable pub groups : ℕ → ℕ → List ℕ
groups zero v = v ∷ []
groups (suc room) v = if nat_lt v 128 then v ∷ [] else (128 + v % 128) ∷ groups room (v / 128)

unfoldable pub varint : ℕ → List ℕ
varint v = groups 9 v
