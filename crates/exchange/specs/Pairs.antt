-- Which documents of two halves are exchanged (KDD 2016, algorithm 1: both halves by falling gain,
-- pair by pair while the sum of the gains is positive).
use Rattle.std.specs.Prelude.{◌≡◌, ◌⊎◌, ℕ, ◌<◌, ℤ, pos, ◌+ℤ◌, ◌<ℤ◌, int_lt, List, AllPairs, zip, take_while, IsPermutation}
use Rattle.forward_index.specs.Forward.{ForwardIndex}
use Rattle.exchange.specs.Gain.{gain}

-- the gain of u is larger, or the gains are equal and u is the smaller place
abbrev pub RanksBefore : (ℕ → ℤ) → ℕ → ℕ → Type 0
RanksBefore gains u v = (gains v <ℤ gains u) ⊎ ((gains u ≡ gains v) × (u < v))

-- all documents of the half, each before those that it ranks before
pub record IsRanked (gains : ℕ → ℤ) (half ranked : List ℕ) : Type 0 where
  pub documents : IsPermutation half ranked
  pub before : AllPairs (RanksBefore gains) ranked

-- The documents of one rank in both halves are a pair. These are the longest front of the pairs in
-- which each sum of two gains is positive.
pub record ArePairs (forward : ForwardIndex) (a b : List ℕ) (pairs : List (ℕ × ℕ)) : Type 0 where
  pub ranked_a : List ℕ
  pub ranked_b : List ℕ
  pub is_a : IsRanked (gain forward a b) a ranked_a
  pub is_b : IsRanked (gain forward b a) b ranked_b
  pub longest : pairs ≡ take_while
      (λ pair. int_lt (pos 0) (gain forward a b pair.0 +ℤ gain forward b a pair.1))
      (zip ranked_a ranked_b)
