-- A round of exchanges: all pairs are tried, then the first half of them, the first quarter, and so
-- on down to one pair. The first try that costs less than before is kept.
use Rattle.std.specs.Prelude.{◌≡◌, ◌⊎◌, ◌↔◌, ℕ, ◌/◌, ◌^◌, ◌<◌, ◌<ℤ◌, ◌≤ℤ◌, List, [], length, map, take, Contains}
use Rattle.std.specs.List.Sorted.{IsStrictlyIncreasing}
use Rattle.forward_index.specs.Forward.{ForwardIndex}
use Rattle.degrees.specs.Cost.{cost}
use Rattle.exchange.specs.declared.round.Kept.{Kept}
use Rattle.exchange.specs.declared.round.Round.{Round}
use Rattle.exchange.specs.declared.round.Round.TheVariants.{Kept as kept, Refused, Still}
use Rattle.exchange.specs.Pairs.{ArePairs}

-- in start order the documents of the half but for those that leave, and those that come
pub record IsHalfAfter (half leave come new : List ℕ) : Type 0 where
  pub rising : IsStrictlyIncreasing new
  pub documents : (place : ℕ) → Contains new place
      ↔ (Contains half place × ¬ Contains leave place) ⊎ Contains come place

-- both halves after these pairs changed places
pub record AreExchanged (pairs : List (ℕ × ℕ)) (a b new_a new_b : List ℕ) : Type 0 where
  pub half_a : IsHalfAfter a (map (λ pair. pair.0) pairs) (map (λ pair. pair.1) pairs) new_a
  pub half_b : IsHalfAfter b (map (λ pair. pair.1) pairs) (map (λ pair. pair.0) pairs) new_b

-- how many pairs a try exchanges, the tries being numbered from 0 on
abbrev pub pairs_of_try : List (ℕ × ℕ) → ℕ → ℕ
pairs_of_try pairs number = length pairs / 2 ^ number

-- a try with some pair leads to these halves
pub record IsTry (pairs : List (ℕ × ℕ)) (a b : List ℕ) (number : ℕ) (new_a new_b : List ℕ)
    : Type 0 where
  pub some : 0 < pairs_of_try pairs number
  pub exchanged : AreExchanged (take (pairs_of_try pairs number) pairs) a b new_a new_b

-- each try before this one costs as much as before the round, or more
abbrev pub NoneBefore : ForwardIndex → List (ℕ × ℕ) → List ℕ → List ℕ → ℕ → Type 0
NoneBefore forward pairs a b number =
    (try : ℕ) (other_a other_b : List ℕ) → try < number → IsTry pairs a b try other_a other_b
    → cost forward a b ≤ℤ cost forward other_a other_b

-- the first try that costs less leads to these halves
pub record IsKept (forward : ForwardIndex) (a b : List ℕ) (record_ : Kept) (new_a new_b : List ℕ)
    : Type 0 where
  pub exchanged : List (ℕ × ℕ)
  pub are_pairs : ArePairs forward a b exchanged
  pub number : ℕ
  pub is_try : IsTry exchanged a b number new_a new_b
  pub none_before : NoneBefore forward exchanged a b number
  pub before : record_.before ≡ cost forward a b
  pub after : record_.after ≡ cost forward new_a new_b
  pub less : record_.after <ℤ record_.before
  pub pairs : record_.pairs ≡ pairs_of_try exchanged number

-- there are pairs, and no try costs less; the record shows what the first one costs
pub record IsRefused (forward : ForwardIndex) (a b : List ℕ) (record_ : Kept) : Type 0 where
  pub exchanged : List (ℕ × ℕ)
  pub are_pairs : ArePairs forward a b exchanged
  pub some : 0 < length exchanged
  pub none : (number : ℕ) → NoneBefore forward exchanged a b number
  pub before : record_.before ≡ cost forward a b
  pub after : (new_a new_b : List ℕ) → IsTry exchanged a b 0 new_a new_b
      → record_.after ≡ cost forward new_a new_b
  pub pairs : record_.pairs ≡ length exchanged

-- what a round of two halves answers, and the halves that it leaves
abbrev pub IsRound : ForwardIndex → List ℕ → List ℕ → Round → List ℕ → List ℕ → Type 0
IsRound forward a b Still new_a new_b =
    ArePairs forward a b [] × (new_a ≡ a) × (new_b ≡ b)
IsRound forward a b (Refused record_) new_a new_b =
    IsRefused forward a b record_ × (new_a ≡ a) × (new_b ≡ b)
IsRound forward a b (kept record_) new_a new_b = IsKept forward a b record_ new_a new_b
