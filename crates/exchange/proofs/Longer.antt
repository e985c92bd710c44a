-- A half of which more is ranked than the entries that gain something, and the pairs of both halves.
use Rattle.std.proofs.Common.{◌≡◌, ℕ, ◌+◌, ◌-◌, ◌<◌, ℤ, pos, ◌+ℤ◌, ◌<ℤ◌, ◌≤ℤ◌, List, ◌++◌, length, get_or, take, drop, sym, subst, ap, ◌∙◌, All, inl, inr, arith}
use Rattle.std.specs.List.{AllPairs}
use Rattle.std.specs.List.Sorted.{IsPermutation}
use Rattle.std.proofs.Math.Seq.{take-append-add, drop-append-add}
use Rattle.std.proofs.lemmas.Bool.{cases_lt}
use Rattle.std.proofs.lemmas.Int.{ints}
use Rattle.std.proofs.lemmas.List.{length-append, length-take, length-take-le, length-drop, take-append-drop, get_or_default, get_or-take, get_or-drop}
use Rattle.std.proofs.lemmas.List.Elements.{All-append}
use Rattle.std.proofs.lemmas.List.Sorted.{All-permutation, IsPermutation-append_right}
use Rattle.exchange.specs.declared.entry.Entry.{Entry}
use Rattle.exchange.specs.Tries.{docs_of, no_entry, StandsBefore, IsParted, ArePassed, IsFront, HavePairs}
use Rattle.exchange.proofs.Exchanged.{Differ}
use Rattle.exchange.proofs.Fronts.{pairs_append, pairs_of}

abbrev IsMost : ℤ → List Entry → Type 0
IsMost u xs = All (λ e. e.gain ≤ℤ u) xs

-- no entry behind those that gain something gains something
none_behind : (f : ℕ) (xs : List Entry) → IsParted f (pos 0) xs → IsMost (pos 0) (drop f xs)
none_behind f xs parted k d inside = omega (arith, ints, parted.rest k d inside)

-- ---- more of a half is ranked

-- a front that is as long as that of the others
pub same_front : (f : ℕ) (others xs : List Entry) → f ≡ length others → IsParted f (pos 0) xs → AllPairs StandsBefore (take f xs) → IsFront f others xs
same_front f others xs all parted ranked = record {
  other = pos 0;
  least = omega (arith, ints);
  parted = parted;
  ranked = ranked;
  high = λ k d inside. absurd (omega (arith, inside, length-drop f others, all));
  behind = subst (λ (n : ℕ). IsMost (pos 0) (drop n xs)) all (none_behind f xs parted);
}

falls : (x y : Entry) → StandsBefore x y → y.gain ≤ℤ x.gain
falls x y (inl less) = omega (arith, ints, less)
falls x y (inr same) = omega (arith, ints, same.0)

-- the others from a place on have no greater gain than the one there
most_from : (f : ℕ) (others : List Entry) → AllPairs StandsBefore others → f < length others → IsMost (get_or others f no_entry).gain (drop f others)
most_from f others ranked inside k d within =
    let low : f + k < length others = omega (arith, within, length-drop f others) in
    let is = get_or-drop f others k d ∙ get_or_default others (f + k) d no_entry low in
    subst (λ (e : Entry). e.gain ≤ℤ (get_or others f no_entry).gain) (sym is)
    (elim (cases_lt 0 k) [
      | inl behind ↦ falls (get_or others f no_entry) (get_or others (f + k) no_entry) (ranked f (f + k) no_entry (omega (arith, behind)) low)
      | inr first ↦
          let here : f + k ≡ f = omega (arith, first) in
          let is = ap (λ (n : ℕ). (get_or others n no_entry).gain) here in
          omega (arith, ints, is)
    ])

module _ (f reach : ℕ) (xs new others : List Entry) (parted : IsParted f (pos 0) xs) (ranked : AllPairs StandsBefore (take f xs)) (gaining : All (λ e. pos 0 <ℤ e.gain) others) (in_order : AllPairs StandsBefore others)
    (fewer : f < length others) (same : IsPermutation (drop f xs) new) (more : IsParted reach (get_or others f no_entry).gain new) (next : AllPairs StandsBefore (take reach new)) where
  abbrev pub other : ℤ
  other = (get_or others f no_entry).gain

  abbrev pub head : List Entry
  head = take f xs

  abbrev pub all : List Entry
  all = head ++ new

  len : length head ≡ f
  len = length-take-le f xs parted.within

  above_zero : pos 0 <ℤ other
  above_zero = gaining f no_entry fewer

  low : IsMost (pos 0) new
  low = All-permutation (λ e. e.gain ≤ℤ pos 0) (drop f xs) new same (none_behind f xs parted)

  at_front : take (f + reach) all ≡ head ++ take reach new
  at_front = ap (λ (n : ℕ). take (n + reach) all) (sym len) ∙ take-append-add head new reach

  at_back : (n : ℕ) → drop (f + n) all ≡ drop n new
  at_back n = ap (λ (m : ℕ). drop (m + n) all) (sym len) ∙ drop-append-add head new n

  sums : All (λ e. pos 0 <ℤ (e.gain +ℤ other)) head
  sums k d inside = omega (arith, ints, above_zero, parted.above k d inside)

  across : All (λ x. All (StandsBefore x) (take reach new)) head
  across k d inside j e within =
      let up = parted.above k d inside in
      let there : j < length new = omega (arith, within, length-take reach new) in
      let is = ap (λ (y : Entry). y.gain) (get_or-take reach new j e (omega (arith, within, length-take reach new))) in
      let down = low j e there in
      inl (omega (arith, ints, up, down, is))

  pub longer_front : IsFront (f + reach) others all
  longer_front = record {
    other = other;
    least = omega (arith, ints, above_zero);
    parted = record {
      within = omega (arith, more.within, len, length-append head new);
      above = subst (All (λ e. pos 0 <ℤ (e.gain +ℤ other))) (sym at_front) (All-append (λ e. pos 0 <ℤ (e.gain +ℤ other)) head (take reach new) sums more.above);
      rest = subst (All (λ e. (e.gain +ℤ other) ≤ℤ pos 0)) (sym (at_back reach)) more.rest;
    };
    ranked = subst (AllPairs StandsBefore) (sym at_front) (pairs_append head (take reach new) ranked next across);
    high = λ k d inside.
        let most = most_from f others in_order fewer in
        let there : f + reach + k ≡ f + (reach + k) = omega arith in
        let is = get_or-drop (f + reach) others k d ∙ ap (λ (n : ℕ). get_or others n d) there ∙ sym (get_or-drop f others (reach + k) d) in
        subst (λ (e : Entry). e.gain ≤ℤ other) (sym is) (most (reach + k) d (omega (arith, inside, length-drop (f + reach) others, length-drop f others)));
    behind =
        let there : length others ≡ f + (length others - f) = omega (arith, fewer) in
        let is : drop (length others) all ≡ drop (length others - f) new = ap (λ (n : ℕ). drop n all) there ∙ at_back (length others - f) in
        subst (IsMost (pos 0)) (sym is) (λ k d inside.
        let n = length others - f in
        subst (λ (e : Entry). e.gain ≤ℤ pos 0) (sym (get_or-drop n new k d)) (low (n + k) d (omega (arith, inside, length-drop n new))));
  }

pub rest_permuted : (f : ℕ) (xs new : List Entry) → IsPermutation (drop f xs) new → IsPermutation xs (take f xs ++ new)
rest_permuted f xs new same =
    subst (λ (ys : List Entry). IsPermutation ys (take f xs ++ new)) (take-append-drop f xs) (IsPermutation-append_right (take f xs) (drop f xs) new same)

-- ---- the pairs of both halves

-- no entry of a half from a place on is above a gain, where that holds of its front
most_of : (f g : ℕ) (u : ℤ) (ys : List Entry) → pos 0 ≤ℤ u → IsParted g (pos 0) ys → IsMost u (drop f (take g ys)) → IsMost u (drop f ys)
most_of f g u ys least parted high k d inside =
    let within : f + k < length ys = omega (arith, inside, length-drop f ys) in
    let len = length-take-le g ys parted.within in
    subst (λ (e : Entry). e.gain ≤ℤ u) (sym (get_or-drop f ys k d))
    (elim (cases_lt (f + k) g) [
      | inl early ↦
          let is = get_or-drop f (take g ys) k d ∙ get_or-take g ys (f + k) d early in
          subst (λ (e : Entry). e.gain ≤ℤ u) is (high k d (omega (arith, early, len, length-drop f (take g ys))))
      | inr late ↦
          let there : g + (f + k - g) ≡ f + k = omega (arith, late) in
          let is = get_or-drop g ys (f + k - g) d ∙ ap (λ (n : ℕ). get_or ys n d) there in
          let low = subst (λ (e : Entry). e.gain ≤ℤ pos 0) is (none_behind g ys parted (f + k - g) d (omega (arith, late, within, length-drop g ys))) in
          omega (arith, ints, low, least)
    ])

module _ (f g pairs : ℕ) (xs ys : List Entry) (differ_x : Differ (docs_of xs)) (differ_y : Differ (docs_of ys)) (front : IsFront f (take g ys) xs) (parted : IsParted g (pos 0) ys) (ranked : AllPairs StandsBefore (take g ys)) where
  high_y : IsMost front.other (drop f ys)
  high_y = most_of f g front.other ys front.least parted front.high

  high_x : IsMost (pos 0) (drop g xs)
  high_x = subst (λ (n : ℕ). IsMost (pos 0) (drop n xs)) (length-take-le g ys parted.within) front.behind

  pub pairs_behind : ArePassed pairs (take f xs) (take g ys) → HavePairs pairs xs ys
  pairs_behind passed = pairs_of f g pairs front.other (pos 0) xs ys differ_x differ_y high_x high_y front.parted parted front.ranked ranked passed

  pub pairs_before : ArePassed pairs (take g ys) (take f xs) → HavePairs pairs ys xs
  pairs_before passed = pairs_of g f pairs (pos 0) front.other ys xs differ_y differ_x high_y high_x parted front.parted ranked front.ranked passed
