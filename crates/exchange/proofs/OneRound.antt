-- Two halves have one list of pairs, and one kept round at most.
use Rattle.std.proofs.Common.{◌≡◌, ℕ, ◌+◌, ◌^◌, ◌<◌, ℤ, pos, ◌+ℤ◌, ◌<ℤ◌, ◌≤ℤ◌, List, [], length, map, take, sym, subst, ap, ◌∙◌, inl, inr, arith}
use Rattle.std.specs.Prelude.{int_lt}
use Rattle.std.specs.List.{take_while, zip}
use Rattle.std.proofs.Math.Nat.{div-le_self}
use Rattle.std.proofs.lemmas.Bool.{cases_order}
use Rattle.std.proofs.lemmas.Int.{ints}
use Rattle.forward_index.specs.Forward.{ForwardIndex}
use Rattle.degrees.specs.Cost.{cost}
use Rattle.exchange.specs.declared.round.Kept.{Kept}
use Rattle.exchange.specs.declared.round.Round.TheVariants.{Kept as kept, Refused, Still}
use Rattle.exchange.specs.Gain.{gain}
use Rattle.exchange.specs.Round.{pairs_of_try, IsTry, NoneBefore, IsKept}
use Rattle.exchange.specs.Laws.{PairsAreOne, IsSameRound, KeptRoundIsOne}
use Rattle.exchange.proofs.OneRanking.{one_ranking, one_half}

pub pairs_are_one : PairsAreOne
pairs_are_one forward a b one other is_one is_other =
    let test = λ (pair : ℕ × ℕ). int_lt (pos 0) (gain forward a b pair.0 +ℤ gain forward b a pair.1) in
    let same_a = one_ranking (gain forward a b) a is_one.ranked_a is_other.ranked_a is_one.is_a is_other.is_a in
    let same_b = one_ranking (gain forward b a) b is_one.ranked_b is_other.ranked_b is_one.is_b is_other.is_b in
    is_one.longest
    ∙ ap (λ (ranked : List ℕ). take_while test (zip ranked is_one.ranked_b)) same_a
    ∙ ap (λ (ranked : List ℕ). take_while test (zip is_other.ranked_a ranked)) same_b
    ∙ sym is_other.longest

-- ---- two kept rounds

same_try : (pairs others : List (ℕ × ℕ)) (a b x y : List ℕ) (number : ℕ) → pairs ≡ others → IsTry pairs a b number x y → IsTry others a b number x y
same_try pairs others a b x y number same is_try = subst (λ (ps : List (ℕ × ℕ)). IsTry ps a b number x y) same is_try

pub one_try : (pairs : List (ℕ × ℕ)) (a b : List ℕ) (number : ℕ) (x y u v : List ℕ) → IsTry pairs a b number x y → IsTry pairs a b number u v → (u ≡ x) × (v ≡ y)
one_try pairs a b number x y u v one other =
    let front = take (pairs_of_try pairs number) pairs in (
      one_half a (map (λ (pair : ℕ × ℕ). pair.0) front) (map (λ (pair : ℕ × ℕ). pair.1) front) u x other.exchanged.half_a one.exchanged.half_a,
      one_half b (map (λ (pair : ℕ × ℕ). pair.1) front) (map (λ (pair : ℕ × ℕ). pair.0) front) v y other.exchanged.half_b one.exchanged.half_b,
    )

not_less : (before after old new : ℤ) → before ≡ old → after ≡ new → after <ℤ before → old ≤ℤ new → ⊥
not_less before after old new is_old is_new less low = omega (arith, ints, is_old, is_new, less, low)

-- the kept try costs less, so it is none of the tries that don't
none_kept : (forward : ForwardIndex) (a b : List ℕ) (r : Kept) (x y : List ℕ) (others : List (ℕ × ℕ)) (number : ℕ) → (is : IsKept forward a b r x y)
    → is.exchanged ≡ others → is.number < number → NoneBefore forward others a b number → ⊥
none_kept forward a b r x y others number is same early none =
    not_less r.before r.after (cost forward a b) (cost forward x y) is.before is.after is.less
    (none is.number x y early (same_try is.exchanged others a b x y is.number same is.is_try))

abbrev made : ℤ → ℤ → ℕ → Kept
made before after pairs = record { before = before; after = after; pairs = pairs }

same_kept : (r s : Kept) → r.before ≡ s.before → r.after ≡ s.after → r.pairs ≡ s.pairs → r ≡ s
same_kept r s before after pairs =
    ap (λ (z : ℤ). made z r.after r.pairs) before ∙ ap (λ (z : ℤ). made s.before z r.pairs) after ∙ ap (made s.before s.after) pairs

module _ (forward : ForwardIndex) (a b : List ℕ) (r s : Kept) (x y u v : List ℕ) (one : IsKept forward a b r x y) (other : IsKept forward a b s u v) where
  same_pairs : one.exchanged ≡ other.exchanged
  same_pairs = pairs_are_one forward a b one.exchanged other.exchanged one.are_pairs other.are_pairs

  same_number : other.number ≡ one.number
  same_number =
      elim (cases_order other.number one.number) [
        | inl same ↦ same
        | inr apart ↦ elim apart [
          | inl less ↦ absurd (none_kept forward a b s u v one.exchanged one.number other (sym same_pairs) less one.none_before)
          | inr more ↦ absurd (none_kept forward a b r x y other.exchanged other.number one same_pairs more other.none_before)
        ]
      ]

  same_halves : (u ≡ x) × (v ≡ y)
  same_halves =
      one_try one.exchanged a b one.number x y u v one.is_try
      (subst (λ (n : ℕ). IsTry one.exchanged a b n u v) same_number (same_try other.exchanged one.exchanged a b u v other.number (sym same_pairs) other.is_try))

  same_cost : cost forward u v ≡ cost forward x y
  same_cost = ap (λ (p : List ℕ). cost forward p v) same_halves.0 ∙ ap (λ (q : List ℕ). cost forward x q) same_halves.1

  same_record : s ≡ r
  same_record =
      same_kept s r (other.before ∙ sym one.before) (other.after ∙ same_cost ∙ sym one.after)
      (other.pairs ∙ ap (λ (ps : List (ℕ × ℕ)). pairs_of_try ps other.number) (sym same_pairs) ∙ ap (pairs_of_try one.exchanged) same_number ∙ sym one.pairs)

  pub same_round : IsSameRound r x y (kept s) u v
  same_round = record { round = ap kept same_record; half_a = same_halves.0; half_b = same_halves.1 }

-- ---- no other round beside a kept one

pub kept_round_is_one : KeptRoundIsOne
kept_round_is_one forward a b r Still x y u v is other =
    let none = pairs_are_one forward a b is.exchanged [] is.are_pairs other.0 in
    absurd (omega (arith, is.is_try.some, div-le_self (length is.exchanged) (2 ^ is.number), ap length none))
kept_round_is_one forward a b r (Refused s) x y u v is other =
    let refused = other.0 in
    let same = pairs_are_one forward a b is.exchanged refused.exchanged is.are_pairs refused.are_pairs in
    absurd (none_kept forward a b r x y refused.exchanged (is.number + 1) is same (omega arith) (refused.none (is.number + 1)))
kept_round_is_one forward a b r (kept s) x y u v is other = same_round forward a b r s x y u v is other
