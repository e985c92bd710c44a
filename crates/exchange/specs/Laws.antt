-- What holds of pairs, rounds and halvings, each the contract of a call of its own.
use Rattle.std.specs.Prelude.{◌≡◌, ℕ, ◌+◌, ◌<◌, ◌<ℤ◌, ◌≤ℤ◌, List, ◌++◌, length, map, slice_get, slice_index, Some, All, AllPairs, Contains, IsPermutation}
use Rattle.std.specs.List.Sorted.{IsStrictlyIncreasing}
use Rattle.forward_index.specs.Forward.{ForwardIndex, IsForward}
use Rattle.forward_index.specs.Cell.{IsCellOf}
use Rattle.degrees.specs.Cost.{cost}
use Rattle.exchange.specs.declared.round.Kept.{Kept}
use Rattle.exchange.specs.declared.round.Round.{Round}
use Rattle.exchange.specs.declared.round.Round.TheVariants.{Kept as kept}
use Rattle.exchange.specs.Pairs.{ArePairs}
use Rattle.exchange.specs.Round.{IsRound}
use Rattle.exchange.specs.Halving.{Halves, half_a, half_b, IsHalving, AreHalves}

-- ---- there is only one

-- two halves have one list of pairs
abbrev pub PairsAreOne : Type 0
PairsAreOne = (forward : ForwardIndex) (a b : List ℕ) (one other : List (ℕ × ℕ))
    → ArePairs forward a b one → ArePairs forward a b other → one ≡ other

-- two rounds of the same halves, of which one is kept
pub record IsSameRound (record_ : Kept) (one_a one_b : List ℕ) (other : Round)
    (other_a other_b : List ℕ) : Type 0 where
  pub round : other ≡ kept record_
  pub half_a : other_a ≡ one_a
  pub half_b : other_b ≡ one_b

-- where a round of two halves is kept there is no other round of them
abbrev pub KeptRoundIsOne : Type 0
KeptRoundIsOne = (forward : ForwardIndex) (a b : List ℕ) (record_ : Kept) (other : Round)
    (one_a one_b other_a other_b : List ℕ)
    → IsRound forward a b (kept record_) one_a one_b → IsRound forward a b other other_a other_b
    → IsSameRound record_ one_a one_b other other_a other_b

-- a cell has one halving
pub record IsSameHalving (entries other_entries : List Halves) (records other_records : List Kept)
    : Type 0 where
  pub entries_ : other_entries ≡ entries
  pub records_ : other_records ≡ records

abbrev pub HalvingIsOne : Type 0
HalvingIsOne = (forward : ForwardIndex) (cell : List ℕ) (rounds : ℕ)
    (entries other_entries : List Halves) (records other_records : List Kept)
    → IsHalving forward cell rounds entries records
    → IsHalving forward cell rounds other_entries other_records
    → IsSameHalving entries other_entries records other_records

-- so it has one pair of halves, and one list of kept rounds
abbrev pub HalvesAreOne : Type 0
HalvesAreOne = (forward : ForwardIndex) (cell : List ℕ) (rounds : ℕ)
    (left other_left : Halves) (records other_records : List Kept)
    → AreHalves forward cell rounds left records
    → AreHalves forward cell rounds other_left other_records
    → (other_left ≡ left) × (other_records ≡ records)

-- ---- there is one

-- two halves of different documents have pairs
pub record HavePairs (forward : ForwardIndex) (a b : List ℕ) : Type 0 where
  pub pairs : List (ℕ × ℕ)
  pub are_pairs : ArePairs forward a b pairs

-- their documents differ, and none stands in both
pub record AreApart (a b : List ℕ) : Type 0 where
  pub rising_a : IsStrictlyIncreasing a
  pub rising_b : IsStrictlyIncreasing b
  pub apart : (place : ℕ) → Contains a place → ¬ Contains b place

abbrev pub PairsAreThere : Type 0
PairsAreThere = (forward : ForwardIndex) (a b : List ℕ) → AreApart a b → HavePairs forward a b

-- the halves have a round
pub record HaveRound (forward : ForwardIndex) (a b : List ℕ) : Type 0 where
  pub round : Round
  pub new_a : List ℕ
  pub new_b : List ℕ
  pub is_round : IsRound forward a b round new_a new_b

abbrev pub RoundIsThere : Type 0
RoundIsThere = (forward : ForwardIndex) (a b : List ℕ) → AreApart a b → HaveRound forward a b

-- the cell has a halving
pub record HasHalves (forward : ForwardIndex) (cell : List ℕ) (rounds : ℕ) : Type 0 where
  pub left : Halves
  pub records : List Kept
  pub are_halves : AreHalves forward cell rounds left records

abbrev pub HalvesAreThere : Type 0
HalvesAreThere = (forward : ForwardIndex) (cell : List ℕ) (rounds : ℕ)
    → IsStrictlyIncreasing cell → HasHalves forward cell rounds

-- ---- what a halving does

-- Each kept round costs less after than before. The first begins at the cost of the opening halves,
-- and each next one at the cost at which the round before ended. So the costs fall, and the halves
-- that are left cost no more than the opening ones.
pub record IsChain (forward : ForwardIndex) (cell : List ℕ) (left : Halves) (records : List Kept)
    : Type 0 where
  pub less : All (λ r. r.after <ℤ r.before) records
  pub first : (r : Kept) → slice_get records 0 ≡ Some r
      → r.before ≡ cost forward (half_a cell) (half_b cell)
  pub linked : (k : ℕ) (r next : Kept)
      → slice_get records k ≡ Some r → slice_get records (k + 1) ≡ Some next
      → next.before ≡ r.after
  pub falling : AllPairs (λ r later. later.before <ℤ r.before) records
  pub last : (k : ℕ) (r : Kept) → length records ≡ k + 1 → slice_get records k ≡ Some r
      → r.after ≡ cost forward left.a left.b
  pub no_more : cost forward left.a left.b ≤ℤ cost forward (half_a cell) (half_b cell)

abbrev pub KeptRoundsAreAChain : Type 0
KeptRoundsAreAChain = (forward : ForwardIndex) (cell : List ℕ) (rounds : ℕ) (left : Halves)
    (records : List Kept)
    → AreHalves forward cell rounds left records → IsChain forward cell left records

-- the halves have the documents of the cell, each in start order, and their sizes stay
pub record ArePartsOf (cell : List ℕ) (left : Halves) : Type 0 where
  pub rising_a : IsStrictlyIncreasing left.a
  pub rising_b : IsStrictlyIncreasing left.b
  pub documents : IsPermutation cell (left.a ++ left.b)
  pub len : length left.a ≡ length (half_a cell)

abbrev pub HalvesKeepDocuments : Type 0
HalvesKeepDocuments = (forward : ForwardIndex) (cell : List ℕ) (rounds : ℕ) (left : Halves)
    (records : List Kept)
    → IsStrictlyIncreasing cell → AreHalves forward cell rounds left records → ArePartsOf cell left

-- ---- a cell over its own rows

-- the halves of a cell, as places of the whole
abbrev pub halves_through : List ℕ → Halves → Halves
halves_through places left =
    record { a = map (slice_index places) left.a; b = map (slice_index places) left.b }

-- the halving of some documents of a cell over the cell's own rows is their halving over the whole
-- forward index, seen through the list of the cell's places, with the same kept rounds
abbrev pub HalvesOverTheCell : Type 0
HalvesOverTheCell =
    (whole cell : ForwardIndex) (places documents : List ℕ) (rounds : ℕ) (left : Halves)
    (records : List Kept) → IsForward whole → IsForward cell
    → IsStrictlyIncreasing places → IsCellOf whole places cell
    → IsStrictlyIncreasing documents → All (λ k. k < length places) documents
    → AreHalves cell documents rounds left records
    → AreHalves whole (map (slice_index places) documents) rounds
    (halves_through places left) records
