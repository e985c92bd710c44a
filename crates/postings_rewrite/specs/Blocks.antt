-- How a list lies in a block store: the gaps of its entries as varints, in blocks of 128 entries, and
-- for each block but the first the place that it begins at.
use Rattle.std.specs.Prelude.{◌≡◌, ℕ, zero, suc, ◌+◌, ◌-◌, ◌*◌, ◌/◌, ◌%◌, ◌^◌, ◌<◌, ◌≤◌, List, [], ◌∷◌, ◌++◌, length, take, slice_index, if◌then◌else◌, nat_lt, nat_le}
use Rattle.ciff_wire.specs.Varint.{varint}
use Rattle.postings_rewrite.specs.declared.store.Place.{Place}

-- the least number that entry n can have: this one for entry 0, and one more than the entry before
-- for each other one
abbrev pub least : ℕ → List ℕ → ℕ → ℕ
least first list zero = first
least first list (suc n) = slice_index list n + 1

-- the gaps as varints, side by side; the gap of an entry is the entry less the least number that it
-- can have
abbrev pub gaps : ℕ → List ℕ → List ℕ
gaps first [] = []
gaps first (number ∷ numbers) = varint (number - first) ++ gaps (number + 1) numbers

-- the place before entry n: its number, the bytes of the gaps before it, the least number that it
-- can have
abbrev pub place_before : List ℕ → ℕ → Place
place_before list n = record {
  entry = n;
  bytes = length (gaps 0 (take n list));
  before = least 0 list n;
}

abbrev pub IsBefore : List ℕ → Place → ℕ → Type 0
IsBefore list place n = place ≡ place_before list n

-- the place behind an entry with this gap of so many bytes
abbrev pub place_behind : Place → ℕ → ℕ → Place
place_behind place gap used = record {
  entry = place.entry + 1;
  bytes = place.bytes + used;
  before = place.before + gap + 1;
}

-- a part of the places that the second block and the next ones, so many, begin at
unfoldable pub skips : (Place → ℕ) → List ℕ → ℕ → List ℕ
skips part list zero = []
skips part list (suc k) = skips part list k ++ part (place_before list (128 * suc k)) ∷ []

abbrev pub before_of : Place → ℕ
before_of place = place.before

abbrev pub bytes_of : Place → ℕ
bytes_of place = place.bytes

-- how many blocks of a list of this length are behind its first one
abbrev pub skip_count : ℕ → ℕ
skip_count len = (len - 1) / 128

-- what stands behind the length of a list: the number of its first skip entry, if it has one
abbrev pub skip_head : ℕ → ℕ → List ℕ
skip_head len first = if nat_le len 128 then [] else varint first

-- the length of a list and the number of its first skip entry stand at the front of bytes
pub record IsHead (bytes : List ℕ) (len first : ℕ) (rest : List ℕ) : Type 0 where
  pub few : len < 2 ^ 32
  pub fits : first < 2 ^ 32
  pub spelt : bytes ≡ varint len ++ (skip_head len first ++ rest)

-- the place is before a later entry, or the same, and all entries on the way are below the target
pub record IsAhead (list : List ℕ) (n target : ℕ) (place : Place) : Type 0 where
  pub entry : ℕ
  pub forward : n ≤ entry
  pub within : entry ≤ length list
  pub passed : (k : ℕ) → n ≤ k → k < entry → slice_index list k < target
  pub stands : IsBefore list place entry

-- ---- the list that bytes spell

-- the number whose varint stands at the front, and what follows it
unfoldable pub front : List ℕ → ℕ
front [] = 0
front (b ∷ bs) = if nat_lt b 128 then b else (b % 128 + 128 * front bs)

unfoldable pub behind : List ℕ → List ℕ
behind [] = []
behind (b ∷ bs) = if nat_lt b 128 then bs else behind bs

-- so many numbers, whose gaps stand at the front
unfoldable pub numbers_in : ℕ → ℕ → List ℕ → List ℕ
numbers_in zero first bytes = []
numbers_in (suc n) first bytes =
    (first + front bytes) ∷ numbers_in n (first + front bytes + 1) (behind bytes)

-- the list whose length, skip entry and gaps stand at the front
unfoldable pub list_in : List ℕ → List ℕ
list_in bytes =
    numbers_in (front bytes) 0
    (if nat_le (front bytes) 128 then behind bytes else behind (behind bytes))
