-- A cell is halved round by round, until a round isn't kept or so many rounds were made.
use Rattle.std.specs.Prelude.{◌≡◌, ◌⊎◌, ℕ, ◌+◌, ◌/◌, ◌≤◌, List, ◌++◌, length, take, drop, slice_get, Some}
use Rattle.forward_index.specs.Forward.{ForwardIndex}
use Rattle.exchange.specs.declared.round.Kept.{Kept}
use Rattle.exchange.specs.declared.round.Round.{Round}
use Rattle.exchange.specs.declared.round.Round.TheVariants.{Kept as kept}
use Rattle.exchange.specs.Round.{IsRound}

-- the first half of a cell has the one more where its number of documents is odd
abbrev pub half_a : List ℕ → List ℕ
half_a cell = take ((length cell + 1) / 2) cell

abbrev pub half_b : List ℕ → List ℕ
half_b cell = drop ((length cell + 1) / 2) cell

pub record Halves : Type 0 where
  pub a : List ℕ
  pub b : List ℕ

-- both halves of a list of documents
abbrev pub halves_of : List ℕ → Halves
halves_of cell = record { a = half_a cell; b = half_b cell }

-- The first entry is the cell's opening halves, and each next one the kept round of the entry
-- before.
pub record AreKept (forward : ForwardIndex) (cell : List ℕ) (entries : List Halves)
    (records : List Kept) : Type 0 where
  pub opening : slice_get entries 0 ≡ Some (halves_of cell)
  pub len : length entries ≡ length records + 1
  pub each : (k : ℕ) (before after : Halves) (record_ : Kept)
      → slice_get entries k ≡ Some before → slice_get entries (k + 1) ≡ Some after
      → slice_get records k ≡ Some record_
      → IsRound forward before.a before.b (kept record_) after.a after.b

-- a round of these halves is still or refused
pub record Ends (forward : ForwardIndex) (halves : Halves) : Type 0 where
  pub round : Round
  pub is_round : IsRound forward halves.a halves.b round halves.a halves.b

-- There are at most so many kept rounds, and fewer only where the round of the last entry isn't
-- kept.
pub record IsHalving (forward : ForwardIndex) (cell : List ℕ) (rounds : ℕ) (entries : List Halves)
    (records : List Kept) : Type 0 where
  pub are_kept : AreKept forward cell entries records
  pub most : length records ≤ rounds
  pub end : (length records ≡ rounds)
      ⊎ ((last : Halves) → slice_get entries (length records) ≡ Some last → Ends forward last)

-- the halves that a halving of the cell leaves, and its kept rounds
pub record AreHalves (forward : ForwardIndex) (cell : List ℕ) (rounds : ℕ) (left : Halves)
    (records : List Kept) : Type 0 where
  pub entries : List Halves
  pub is_halving : IsHalving forward cell rounds entries records
  pub last : slice_get entries (length records) ≡ Some left

-- the halving of the cell leaves the halves of this list, with its kept rounds behind the others
pub record IsHalved (forward : ForwardIndex) (cell : List ℕ) (rounds : ℕ) (left : List ℕ)
    (others all : List Kept) : Type 0 where
  pub records : List Kept
  pub are_halves : AreHalves forward cell rounds (halves_of left) records
  pub behind : all ≡ others ++ records

-- so many rounds of it were kept, and these are the halves of this list
pub record AreMade (forward : ForwardIndex) (cell : List ℕ) (number : ℕ) (left : List ℕ)
    (others all : List Kept) : Type 0 where
  pub entries : List Halves
  pub records : List Kept
  pub are_kept : AreKept forward cell entries records
  pub len : length records ≡ number
  pub last : slice_get entries (length records) ≡ Some (halves_of left)
  pub behind : all ≡ others ++ records
