-- Two halves have a round: the first try that costs less is found, or there is none.
use Rattle.std.proofs.Common.{◌≡◌, ◌⊎◌, ℕ, zero, suc, ◌/◌, ◌^◌, ◌<◌, ◌≤◌, ℤ, ◌<ℤ◌, ◌≤ℤ◌, List, [], ◌∷◌, length, refl, sym, subst, ap, ◌∙◌, inl, inr, arith}
use Rattle.std.proofs.Math.Nat.{div-eq_of_lt, div-one, pow-zero, two-pow-succ}
use Rattle.std.proofs.lemmas.Bool.{cases_lt}
use Rattle.std.proofs.lemmas.Int.{ints, by_lt_z}
use Rattle.forward_index.specs.Forward.{ForwardIndex}
use Rattle.degrees.specs.Cost.{cost}
use Rattle.exchange.specs.declared.round.Round.TheVariants.{Kept as kept, Refused, Still}
use Rattle.exchange.specs.Pairs.{ArePairs}
use Rattle.exchange.specs.Round.{pairs_of_try, IsTry, NoneBefore}
use Rattle.exchange.specs.Laws.{AreApart, HaveRound, RoundIsThere}
use Rattle.exchange.proofs.OneRound.{one_try}
use Rattle.exchange.proofs.TherePairs.{HasTry, pairs_are_there, has_try}

-- ---- only so many tries have a pair

below_power : (n : ℕ) → n < 2 ^ n
below_power zero = omega (arith, pow-zero 2)
below_power (suc n) = omega (arith, below_power n, two-pow-succ n)

power_rises : (n k : ℕ) → n ≤ k → n < 2 ^ k
power_rises n k low = omega (arith, low, below_power k)

few_tries : (pairs : List (ℕ × ℕ)) (number : ℕ) → 0 < pairs_of_try pairs number → number < length pairs
few_tries pairs number some =
    elim (cases_lt number (length pairs)) [
      | inl early ↦ early
      | inr late ↦
          let none : length pairs / 2 ^ number ≡ 0 = div-eq_of_lt (power_rises (length pairs) number late) in
          absurd (omega (arith, some, none))
    ]

first_try : (pairs : List (ℕ × ℕ)) → pairs_of_try pairs 0 ≡ length pairs
first_try pairs = ap (λ (n : ℕ). length pairs / n) (pow-zero 2) ∙ div-one (length pairs)

-- ---- the first try that costs less

no_less : (before one other : ℤ) → before ≤ℤ one → other ≡ one → before ≤ℤ other
no_less before one other high same = omega (arith, ints, high, same)

pub record HasFirst (forward : ForwardIndex) (pairs : List (ℕ × ℕ)) (a b : List ℕ) : Type 0 where
  pub number : ℕ
  pub new_a : List ℕ
  pub new_b : List ℕ
  pub is_try : IsTry pairs a b number new_a new_b
  pub none_before : NoneBefore forward pairs a b number
  pub less : cost forward new_a new_b <ℤ cost forward a b

module _ (forward : ForwardIndex) (a b : List ℕ) (pairs : List (ℕ × ℕ)) where
  same_cost : (number : ℕ) (x y u v : List ℕ) → IsTry pairs a b number x y → IsTry pairs a b number u v → cost forward u v ≡ cost forward x y
  same_cost number x y u v one other =
      let same = one_try pairs a b number x y u v one other in
      ap (λ (p : List ℕ). cost forward p v) same.0 ∙ ap (λ (q : List ℕ). cost forward x q) same.1

  none_more : (number : ℕ) → NoneBefore forward pairs a b number
      → ((x y : List ℕ) → IsTry pairs a b number x y → cost forward a b ≤ℤ cost forward x y)
      → NoneBefore forward pairs a b (suc number)
  none_more number none here try x y early is =
      elim (cases_lt try number) [
        | inl earlier ↦ none try x y earlier is
        | inr late ↦
            let last : try ≡ number = omega (arith, early, late) in
            here x y (subst (λ (n : ℕ). IsTry pairs a b n x y) last is)
      ]

  tried : (number : ℕ) → NoneBefore forward pairs a b number → HasTry pairs a b number → HasFirst forward pairs a b ⊎ NoneBefore forward pairs a b (suc number)
  tried number none try =
      by_lt_z (cost forward try.new_a try.new_b) (cost forward a b)
      (λ less. inl (record { number = number; new_a = try.new_a; new_b = try.new_b; is_try = try.is_try; none_before = none; less = less }))
      (λ high. inr (none_more number none (λ x y is.
      no_less (cost forward a b) (cost forward try.new_a try.new_b) (cost forward x y) high (same_cost number try.new_a try.new_b x y try.is_try is))))

  next_try : (apart : AreApart a b) (are : ArePairs forward a b pairs) (number : ℕ) → NoneBefore forward pairs a b number → HasFirst forward pairs a b ⊎ NoneBefore forward pairs a b (suc number)
  next_try apart are number none =
      elim (cases_lt 0 (pairs_of_try pairs number)) [
        | inl some ↦ tried number none (has_try forward a b pairs apart are number some)
        | inr no_pair ↦ inr (none_more number none (λ x y is. absurd (omega (arith, is.some, no_pair))))
      ]

  tries : (apart : AreApart a b) (are : ArePairs forward a b pairs) (number : ℕ) → HasFirst forward pairs a b ⊎ NoneBefore forward pairs a b number
  tries apart are zero = inr (λ try x y early is. absurd (omega (arith, early)))
  tries apart are (suc number) =
      elim (tries apart are number) [
        | inl first ↦ inl first
        | inr none ↦ next_try apart are number none
      ]

  none_ever : NoneBefore forward pairs a b (length pairs) → (number : ℕ) → NoneBefore forward pairs a b number
  none_ever none number try x y early is = none try x y (few_tries pairs try is.some) is

  -- ---- the round

  kept_round : ArePairs forward a b pairs → HasFirst forward pairs a b → HaveRound forward a b
  kept_round are first = record {
    round = kept (record { before = cost forward a b; after = cost forward first.new_a first.new_b; pairs = pairs_of_try pairs first.number });
    new_a = first.new_a;
    new_b = first.new_b;
    is_round = record {
      exchanged = pairs;
      are_pairs = are;
      number = first.number;
      is_try = first.is_try;
      none_before = first.none_before;
      before = refl;
      after = refl;
      less = first.less;
      pairs = refl;
    };
  }

  refused_round : ArePairs forward a b pairs → 0 < length pairs → NoneBefore forward pairs a b (length pairs) → HasTry pairs a b 0 → HaveRound forward a b
  refused_round are some none first = record {
    round = Refused (record { before = cost forward a b; after = cost forward first.new_a first.new_b; pairs = length pairs });
    new_a = a;
    new_b = b;
    is_round = (
      record {
        exchanged = pairs;
        are_pairs = are;
        some = some;
        none = none_ever none;
        before = refl;
        after = λ x y is. sym (same_cost 0 first.new_a first.new_b x y first.is_try is);
        pairs = refl;
      },
      refl,
      refl,
    );
  }

  some_round : AreApart a b → ArePairs forward a b pairs → 0 < length pairs → HaveRound forward a b
  some_round apart are some =
      elim (tries apart are (length pairs)) [
        | inl first ↦ kept_round are first
        | inr none ↦ refused_round are some none (has_try forward a b pairs apart are 0 (omega (arith, some, first_try pairs)))
      ]

round_of : (forward : ForwardIndex) (a b : List ℕ) (pairs : List (ℕ × ℕ)) → AreApart a b → ArePairs forward a b pairs → HaveRound forward a b
round_of forward a b [] apart are = record { round = Still; new_a = a; new_b = b; is_round = (are, refl, refl) }
round_of forward a b (pair ∷ pairs) apart are = some_round forward a b (pair ∷ pairs) apart are (omega arith)

pub round_is_there : RoundIsThere
round_is_there forward a b apart =
    let have = pairs_are_there forward a b apart in
    round_of forward a b have.pairs apart have.are_pairs
