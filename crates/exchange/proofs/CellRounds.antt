-- Rounds over a cell's own rows.
use Rattle.std.proofs.Common.{◌≡◌, ℕ, ◌<◌, ℤ, ◌≤ℤ◌, List, [], sym, subst, ap, ◌∙◌}
use Rattle.std.proofs.lemmas.List.{length-map}
use Rattle.forward_index.specs.Forward.{ForwardIndex}
use Rattle.degrees.specs.Cost.{cost}
use Rattle.exchange.specs.declared.round.Kept.{Kept}
use Rattle.exchange.specs.declared.round.Round.{Round}
use Rattle.exchange.specs.declared.round.Round.TheVariants.{Kept as kept, Refused, Still}
use Rattle.exchange.specs.Round.{NoneBefore, IsKept, IsRefused, IsRound}
use Rattle.exchange.proofs.CellPlaces.{AreIn, through}
use Rattle.exchange.proofs.CellGains.{AreAlike}
use Rattle.exchange.proofs.CellPairs.{both_through, pairs_through, ArePairsIn, pairs_in, are_pairs_through}
use Rattle.exchange.proofs.CellHalves.{pairs_of_try_through, try_in, try_through, IsTryWithin, try_back}

-- what the halves of a try over the whole cost
within_cost : (whole cell : ForwardIndex) (places : List ℕ) → AreAlike whole cell places → (pairs : List (ℕ × ℕ)) (a b : List ℕ) (number : ℕ) (new_a new_b : List ℕ)
    → (within : IsTryWithin places pairs a b number new_a new_b) → cost cell within.inner_a within.inner_b ≡ cost whole new_a new_b
within_cost whole cell places alike pairs a b number new_a new_b within =
    alike.costs within.inner_a within.inner_b within.in_a within.in_b
    ∙ ap (λ (x : List ℕ). cost whole x (through places within.inner_b)) within.at_a
    ∙ ap (λ (y : List ℕ). cost whole new_a y) within.at_b

none_through : (whole cell : ForwardIndex) (places : List ℕ) → AreAlike whole cell places → (pairs : List (ℕ × ℕ)) (a b : List ℕ) (number : ℕ)
    → ArePairsIn places pairs → AreIn places a → AreIn places b
    → NoneBefore cell pairs a b number → NoneBefore whole (pairs_through places pairs) (through places a) (through places b) number
none_through whole cell places alike pairs a b number in_pairs in_a in_b none try other_a other_b before is =
    let within = try_back places alike.rising pairs a b try other_a other_b in_pairs in_a in_b is in
    subst (λ (z : ℤ). z ≤ℤ cost whole other_a other_b) (alike.costs a b in_a in_b)
    (subst (λ (z : ℤ). cost cell a b ≤ℤ z) (within_cost whole cell places alike pairs a b try other_a other_b within)
    (none try within.inner_a within.inner_b before within.is_try))

kept_through : (whole cell : ForwardIndex) (places : List ℕ) → AreAlike whole cell places → (a b : List ℕ) (record_ : Kept) (new_a new_b : List ℕ)
    → AreIn places a → AreIn places b → IsKept cell a b record_ new_a new_b
    → IsKept whole (through places a) (through places b) record_ (through places new_a) (through places new_b)
kept_through whole cell places alike a b record_ new_a new_b in_a in_b is =
    let pairs = is.exchanged in
    let in_pairs = pairs_in cell places a b pairs in_a in_b is.are_pairs in
    let in_new = try_in places pairs a b is.number new_a new_b in_pairs in_a in_b is.is_try in
    record {
      exchanged = pairs_through places pairs;
      are_pairs = are_pairs_through whole cell places alike a b pairs in_a in_b is.are_pairs;
      number = is.number;
      is_try = try_through places alike.rising pairs a b is.number new_a new_b in_pairs in_a in_b is.is_try;
      none_before = none_through whole cell places alike pairs a b is.number in_pairs in_a in_b is.none_before;
      before = is.before ∙ alike.costs a b in_a in_b;
      after = is.after ∙ alike.costs new_a new_b in_new.0 in_new.1;
      less = is.less;
      pairs = is.pairs ∙ sym (pairs_of_try_through places pairs is.number);
    }

refused_through : (whole cell : ForwardIndex) (places : List ℕ) → AreAlike whole cell places → (a b : List ℕ) (record_ : Kept)
    → AreIn places a → AreIn places b → IsRefused cell a b record_ → IsRefused whole (through places a) (through places b) record_
refused_through whole cell places alike a b record_ in_a in_b is =
    let pairs = is.exchanged in
    let in_pairs = pairs_in cell places a b pairs in_a in_b is.are_pairs in
    let len = length-map pairs (both_through places) in
    record {
      exchanged = pairs_through places pairs;
      are_pairs = are_pairs_through whole cell places alike a b pairs in_a in_b is.are_pairs;
      some = subst (λ (n : ℕ). 0 < n) (sym len) is.some;
      none = λ number. none_through whole cell places alike pairs a b number in_pairs in_a in_b (is.none number);
      before = is.before ∙ alike.costs a b in_a in_b;
      after = λ new_a new_b is_try.
          let within = try_back places alike.rising pairs a b 0 new_a new_b in_pairs in_a in_b is_try in
          is.after within.inner_a within.inner_b within.is_try ∙ within_cost whole cell places alike pairs a b 0 new_a new_b within;
      pairs = is.pairs ∙ sym len;
    }

pub round_through : (whole cell : ForwardIndex) (places : List ℕ) → AreAlike whole cell places → (a b : List ℕ) (round : Round) (new_a new_b : List ℕ)
    → AreIn places a → AreIn places b → IsRound cell a b round new_a new_b
    → IsRound whole (through places a) (through places b) round (through places new_a) (through places new_b)
round_through whole cell places alike a b Still new_a new_b in_a in_b is =
    (are_pairs_through whole cell places alike a b [] in_a in_b is.0, ap (through places) is.1, ap (through places) is.2)
round_through whole cell places alike a b (Refused record_) new_a new_b in_a in_b is =
    (refused_through whole cell places alike a b record_ in_a in_b is.0, ap (through places) is.1, ap (through places) is.2)
round_through whole cell places alike a b (kept record_) new_a new_b in_a in_b is = kept_through whole cell places alike a b record_ new_a new_b in_a in_b is

pub kept_in : (cell : ForwardIndex) (places a b : List ℕ) (record_ : Kept) (new_a new_b : List ℕ) → AreIn places a → AreIn places b
    → IsRound cell a b (kept record_) new_a new_b → AreIn places new_a × AreIn places new_b
kept_in cell places a b record_ new_a new_b in_a in_b is =
    try_in places is.exchanged a b is.number new_a new_b (pairs_in cell places a b is.exchanged in_a in_b is.are_pairs) in_a in_b is.is_try
