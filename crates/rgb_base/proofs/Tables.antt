-- The two tables of a permutation, and how the second one is made.
use Rattle.std.proofs.Common.{◌≡◌, ◌≢◌, ℕ, ◌+◌, ◌^◌, ◌<◌, ◌≤◌, ◌==◌, ◌⊎◌, Bool, true, false, cond, nat_lt, unwrap_or, None, List, length, get_or, slice_get, set, take, Contains, Some, count_by, inl, inr, refl, sym, subst, ap, ◌∙◌, arith, map}
use Rattle.std.specs.List.{AllPairs, position_or_len}
use Rattle.std.proofs.lemmas.Bool.{cases_lt, cases_eq}
use Rattle.std.proofs.lemmas.Bool.Decides.{Decides-eqb, Decides-ltb}
use Rattle.std.proofs.lemmas.List.{length-set, get_or-set_same, get_or-set_other, get_or-take, length-take-le, get_or_default, get_or-map, length-map}
use Rattle.std.proofs.lemmas.List.Sums.{position_or_len_is, sum_by-set, sum_by_more_le}
use Rattle.std.proofs.lemmas.List.Elements.{All-from_get_or}
use Rattle.std.proofs.lemmas.Option.{slice_get-get_or}
use Rattle.std.proofs.lemmas.Bool.Decides.{nat_tests}
use Rattle.rgb_base.specs.Order.{IsOrder, AreNumbers, AreTables, IsInverse, Renumbers, new_of}

not_equal : (a b : ℕ) → a ≢ b → (a == b) ≡ false
not_equal a b unlike = grind (arith, nat_tests)

found_at : (first length_of place : ℕ) → first ≡ place → place < length_of → unwrap_or (cond (nat_lt first length_of) (Some first) None) 0 ≡ place
found_at first length_of place same within =
    let inside : nat_lt first length_of ≡ true = (Decides-ltb first length_of).1 (omega arith) in
    ap (λ (b : Bool). unwrap_or (cond b (Some first) None) 0) inside ∙ same

-- a number that stands once is new where it stands
pub new_of-at : (order : List ℕ) (place old : ℕ) → AllPairs (λ a b. a ≢ b) order → place < length order → get_or order place 0 ≡ old → new_of order old ≡ place
unfolding new_of
new_of-at order place old differ within here =
    let first : position_or_len (λ (entry : ℕ). entry == old) order ≡ place = position_or_len_is (λ (entry : ℕ). entry == old) order place 0 (omega arith)
    (λ k lt. let unlike : get_or order k 0 ≢ old = λ same. differ k place 0 lt within (same ∙ sym here) in not_equal (get_or order k 0) old unlike)
    (λ _. (Decides-eqb (get_or order place 0) old).1 here) in
    found_at (position_or_len (λ (entry : ℕ). entry == old) order) (length order) place first within

pub new_of-order : (order : List ℕ) (new : ℕ) → IsOrder order → new < length order → new_of order (get_or order new 0) ≡ new
new_of-order order new h within = new_of-at order new (get_or order new 0) h.numbers.different within refl

pub new_of-below : (order : List ℕ) (old : ℕ) → IsOrder order → old < length order → new_of order old < length order
new_of-below order old h within =
    let stands = h.each old within in
    omega (arith, stands.1, new_of-at order stands.0 old h.numbers.different stands.1 (get_or_default order stands.0 0 old stands.1 ∙ stands.2))

pub order-new_of : (order : List ℕ) (old : ℕ) → IsOrder order → old < length order → get_or order (new_of order old) 0 ≡ old
order-new_of order old h within =
    let stands = h.each old within in
    let here : get_or order stands.0 0 ≡ old = get_or_default order stands.0 0 old stands.1 ∙ stands.2 in
    ap (λ (n : ℕ). get_or order n 0) (new_of-at order stands.0 old h.numbers.different stands.1 here) ∙ here

pub order-below : (order : List ℕ) (new : ℕ) → IsOrder order → new < length order → get_or order new 0 < length order
order-below order new h within = h.numbers.below new 0 within

pub IsOrder-from_tables : (order places : List ℕ) → AreTables order places → IsOrder order
IsOrder-from_tables order places h = record {
  small = h.small;
  numbers = record {
    below = All-from_get_or (λ old. old < length order) order 0 h.order_below;
    different = λ i j d lt within same.
        let one : get_or order i 0 ≡ get_or order j 0 = get_or_default order i 0 d (omega arith) ∙ same ∙ get_or_default order j d 0 within in
        let places_one : i ≡ j = sym (h.places_undo i (omega arith)) ∙ ap (λ (n : ℕ). get_or places n 0) one ∙ h.places_undo j within in
        omega arith;
  };
  each = λ old within. (get_or places old 0, h.places_below old within, get_or_default order (get_or places old 0) old 0 (h.places_below old within) ∙ h.order_undo old within);
}

pub new_of-tables : (order places : List ℕ) (old : ℕ) → AreTables order places → old < length order → new_of order old ≡ get_or places old 0
new_of-tables order places old h within = new_of-at order (get_or places old 0) old (IsOrder-from_tables order places h).numbers.different (h.places_below old within) (h.order_undo old within)

pub AreTables-turned : (order places : List ℕ) → AreTables order places → AreTables places order
AreTables-turned order places h = record {
  small = omega (arith, h.small, h.len);
  len = sym h.len;
  order_below = λ k lt. omega (arith, h.len, h.places_below k (omega (arith, h.len)));
  places_below = λ k lt. omega (arith, h.len, h.order_below k (omega (arith, h.len)));
  places_undo = λ k lt. h.order_undo k (omega (arith, h.len));
  order_undo = λ k lt. h.places_undo k (omega (arith, h.len));
}

-- the first i numbers have their places, and the other places are free
pub record AreMarked (order places : List ℕ) (i : ℕ) : Type 0 where
  pub len : length places ≡ length order
  pub below : (k : ℕ) → k < i → get_or order k 0 < length order
  pub placed : (k : ℕ) → k < i → get_or places (get_or order k 0) 0 ≡ k
  pub marked : (old : ℕ) → old < length order → (get_or places old 0 ≡ 4294967295) ⊎ ((get_or places old 0 < i) × (get_or order (get_or places old 0) 0 ≡ old))
  pub free : count_by (λ place. place == 4294967295) places + i ≡ length order

AreMarked-here : (order places : List ℕ) (i value : ℕ) → AreMarked order places i → i < length order → get_or order i 0 ≡ value → value < length order
    → (k : ℕ) → k < i + 1 → (get_or places value 0 ≡ 4294967295) → length order < 2 ^ 31 → get_or (set places value i) (get_or order k 0) 0 ≡ k
AreMarked-here order places i value h within here low k lt free small =
    elim (cases_eq k i) [
      | inl same ↦ ap (λ (n : ℕ). get_or (set places value i) (get_or order n 0) 0) same ∙ ap (λ (n : ℕ). get_or (set places value i) n 0) here ∙ get_or-set_same places value i 0 (omega (arith, h.len)) ∙ sym same
      | inr other ↦
          let before : k < i = omega (arith, other) in
          let unlike : get_or order k 0 ≢ value = λ e. omega (arith, h.placed k before, ap (λ (n : ℕ). get_or places n 0) e) in
          get_or-set_other places value (get_or order k 0) i 0 unlike ∙ h.placed k before
    ]

marked_more : (order places : List ℕ) (i value : ℕ) → AreMarked order places i → i < length order → get_or order i 0 ≡ value → value < length order
    → (old : ℕ) → old < length order → (get_or (set places value i) old 0 ≡ 4294967295) ⊎ ((get_or (set places value i) old 0 < i + 1) × (get_or order (get_or (set places value i) old 0) 0 ≡ old))
marked_more order places i value h within here low old lt =
    elim (cases_eq old value) [
      | inl same ↦
          let put : get_or (set places value i) old 0 ≡ i = ap (λ (n : ℕ). get_or (set places value i) n 0) same ∙ get_or-set_same places value i 0 (omega (arith, h.len)) in
          inr (omega arith, ap (λ (n : ℕ). get_or order n 0) put ∙ here ∙ sym same)
      | inr other ↦
          let kept : get_or (set places value i) old 0 ≡ get_or places old 0 = get_or-set_other places value old i 0 other in
          elim (h.marked old lt) [
            | inl free ↦ inl (kept ∙ free)
            | inr placed ↦ inr (omega (arith, placed.0), ap (λ (n : ℕ). get_or order n 0) kept ∙ placed.1)
          ]
    ]

free_more : (order places : List ℕ) (i value : ℕ) → AreMarked order places i → i < length order → value < length order → length order < 2 ^ 31
    → get_or places value 0 ≡ 4294967295 → count_by (λ place. place == 4294967295) (set places value i) + (i + 1) ≡ length order
free_more order places i value h within low small free =
    let f : ℕ → ℕ = λ place. cond (place == 4294967295) 1 0 in
    let was : f (get_or places value 0) ≡ 1 = ap f free in
    let now : f i ≡ 0 = ap (λ (b : Bool). cond b 1 0) (not_equal i 4294967295 (λ e. omega arith)) in
    omega (arith, h.free, was, now, sum_by-set f places value i 0 (omega (arith, h.len)))

pub AreMarked-more : (order places : List ℕ) (i value : ℕ) → length order < 2 ^ 31 → AreMarked order places i → i < length order → get_or order i 0 ≡ value → value < length order
    → get_or places value 0 ≡ 4294967295 → AreMarked order (set places value i) (i + 1)
AreMarked-more order places i value small h within here low free = record {
  len = length-set places value i ∙ h.len;
  below = λ k lt. elim (cases_lt k i) [ inl before ↦ h.below k before | inr after ↦ let e : k ≡ i = omega arith in omega (arith, ap (λ (n : ℕ). get_or order n 0) e) ];
  placed = λ k lt. AreMarked-here order places i value h within here low k lt free small;
  marked = marked_more order places i value h within here low;
  free = free_more order places i value h within low small free;
}

none_free : (places : List ℕ) (old : ℕ) → count_by (λ place. place == 4294967295) places ≡ 0 → old < length places → get_or places old 0 ≢ 4294967295
none_free places old none within free =
    let f : ℕ → ℕ = λ place. cond (place == 4294967295) 1 0 in
    let one : f (get_or places old 0) ≡ 1 = ap f free in
    omega (arith, none, one, sum_by_more_le f places old 0 within)

pub AreTables-from_AreMarked : (order places : List ℕ) (i : ℕ) → length order < 2 ^ 31 → AreMarked order places i → length order ≤ i → AreTables order places
AreTables-from_AreMarked order places i small h whole =
    let whole_i : i ≡ length order = omega (arith, h.free) in
    let placed = λ (old : ℕ) (within : old < length order).
    let P : Type 0 = (get_or places old 0 < i) × (get_or order (get_or places old 0) 0 ≡ old) in
    let answer : P = elim (h.marked old within) [ inl free ↦ absurd (none_free places old (omega (arith, h.free)) (omega (arith, h.len)) free) | inr at ↦ at ] in
    answer in
    record {
      small = small;
      len = h.len;
      order_below = λ k lt. h.below k (omega arith);
      places_below = λ old lt. omega (arith, (placed old lt).0);
      places_undo = λ k lt. h.placed k (omega arith);
      order_undo = λ old lt. (placed old lt).1;
    }

pub AreNumbers-from_AreMarked : (order places : List ℕ) (i : ℕ) → AreMarked order places i → i ≤ length order → AreNumbers (length order) (take i order)
AreNumbers-from_AreMarked order places i h within =
    let long : length (take i order) ≡ i = length-take-le i order within in
    record {
      below = All-from_get_or (λ old. old < length order) (take i order) 0 (λ k lt. subst (λ (n : ℕ). n < length order) (sym (get_or-take i order k 0 (omega arith))) (h.below k (omega arith)));
      different = λ a b d lt last same.
          let a_at : get_or (take i order) a d ≡ get_or order a 0 = get_or-take i order a d (omega arith) ∙ get_or_default order a d 0 (omega arith) in
          let b_at : get_or (take i order) b d ≡ get_or order b 0 = get_or-take i order b d (omega arith) ∙ get_or_default order b d 0 (omega arith) in
          let one : a ≡ b = sym (h.placed a (omega arith)) ∙ ap (λ (n : ℕ). get_or places n 0) (sym a_at ∙ same ∙ b_at) ∙ h.placed b (omega arith) in
          omega arith;
    }

-- an entry whose number has a place stands before
pub Contains-from_AreMarked : (order places : List ℕ) (i value : ℕ) → AreMarked order places i → i ≤ length order → value < length order → get_or places value 0 ≢ 4294967295 → Contains (take i order) value
Contains-from_AreMarked order places i value h within low taken =
    elim (h.marked value low) [
      | inl free ↦ absurd (taken free)
      | inr at ↦ (get_or places value 0, omega (arith, at.0, length-take-le i order within), get_or-take i order (get_or places value 0) value at.0 ∙ get_or_default order (get_or places value 0) value 0 (omega (arith, at.0)) ∙ at.1)
    ]

pub IsInverse-from_tables : (order places : List ℕ) → AreTables order places → IsInverse order places
IsInverse-from_tables order places h = record {
  ordered = IsOrder-from_tables order places h;
  other_ordered = IsOrder-from_tables places order (AreTables-turned order places h);
  len = h.len;
  undoes = λ old lt.
      let new = get_or places old 0 in
      ap (new_of places) (new_of-tables order places old h lt) ∙ new_of-tables places order new (AreTables-turned order places h) (omega (arith, h.len, h.places_below old lt)) ∙ h.order_undo old lt;
}

-- what a read of either table gives
pub new_of-read : (order places : List ℕ) (old x : ℕ) → AreTables order places → old < length order → x ≡ get_or places old x → x ≡ new_of order old
new_of-read order places old x h within read = read ∙ get_or_default places old x 0 (omega (arith, h.len)) ∙ sym (new_of-tables order places old h within)

pub undone-read : (order places : List ℕ) (old x : ℕ) → AreTables order places → old < length order → x ≡ get_or places old x → slice_get order x ≡ Some old
undone-read order places old x h within read =
    let there : x ≡ get_or places old 0 = read ∙ get_or_default places old x 0 (omega (arith, h.len)) in
    let low : x < length order = omega (arith, h.places_below old within) in
    slice_get-get_or order x 0 low ∙ ap Some (ap (λ (n : ℕ). get_or order n 0) there ∙ h.order_undo old within)

pub old-read : (order places : List ℕ) (new x : ℕ) → AreTables order places → new < length order → x ≡ get_or order new x → new_of order x ≡ new
old-read order places new x h within read = ap (new_of order) (read ∙ get_or_default order new x 0 within) ∙ new_of-order order new (IsOrder-from_tables order places h) within

-- both tables of the identity have each number at its own place
pub AreTables-identity : (order places : List ℕ) (n : ℕ) → n < 2 ^ 31 → length order ≡ n → length places ≡ n → ((k : ℕ) → k < n → get_or order k 0 ≡ k) → ((k : ℕ) → k < n → get_or places k 0 ≡ k) → AreTables order places
AreTables-identity order places n small order_len places_len order_each places_each = record {
  small = omega arith;
  len = places_len ∙ sym order_len;
  order_below = λ k lt. omega (arith, order_each k (omega arith));
  places_below = λ k lt. omega (arith, places_each k (omega arith));
  places_undo = λ k lt. ap (λ (i : ℕ). get_or places i 0) (order_each k (omega arith)) ∙ places_each k (omega arith);
  order_undo = λ k lt. ap (λ (i : ℕ). get_or order i 0) (places_each k (omega arith)) ∙ order_each k (omega arith);
}

pub Renumbers-from_tables : (order places : List ℕ) (n : ℕ) (number : ℕ → ℕ) → AreTables order places → length order ≡ n → ((old : ℕ) → old < n → get_or places old 0 ≡ number old) → Renumbers order n number
Renumbers-from_tables order places n number h len each = record { len = len; each = λ old lt. new_of-tables order places old h (omega arith) ∙ each old lt }

looked_at : (table numbers found : List ℕ) (k : ℕ) → found ≡ map (λ (number : ℕ). get_or table number 0) numbers → k < length numbers → get_or found k 0 ≡ get_or table (get_or numbers k 0) 0
looked_at table numbers found k same within = ap (λ (xs : List ℕ). get_or xs k 0) same ∙ get_or-map (λ (number : ℕ). get_or table number 0) numbers k 0 0 within

looked_len : (table numbers found : List ℕ) → found ≡ map (λ (number : ℕ). get_or table number 0) numbers → length found ≡ length numbers
looked_len table numbers found same = ap length same ∙ length-map numbers (λ (number : ℕ). get_or table number 0)

-- one permutation after another: each table is looked up in the other's
module _ (one_order one_places two_order two_places order places : List ℕ)
    (one : AreTables one_order one_places) (two : AreTables two_order two_places) (same : length one_order ≡ length two_order)
    (orders : order ≡ map (λ (number : ℕ). get_or one_order number 0) two_order) (placed : places ≡ map (λ (number : ℕ). get_or two_places number 0) one_places) where
  order_at : (new : ℕ) → new < length two_order → get_or order new 0 ≡ get_or one_order (get_or two_order new 0) 0
  order_at new lt = looked_at one_order two_order order new orders lt

  places_at : (old : ℕ) → old < length two_order → get_or places old 0 ≡ get_or two_places (get_or one_places old 0) 0
  places_at old lt = looked_at two_places one_places places old placed (omega (arith, one.len))

  order_len : length order ≡ length two_order
  order_len = looked_len one_order two_order order orders

  places_len : length places ≡ length one_places
  places_len = looked_len two_places one_places places placed

  places_undo_at : (new : ℕ) → new < length two_order → get_or places (get_or order new 0) 0 ≡ new
  places_undo_at new lt =
      let middle = get_or two_order new 0 in
      let middle_low : middle < length two_order = two.order_below new lt in
      let old_low : get_or one_order middle 0 < length two_order = omega (arith, same, one.order_below middle (omega (arith, same))) in
      ap (λ (n : ℕ). get_or places n 0) (order_at new lt) ∙ places_at (get_or one_order middle 0) old_low
      ∙ ap (λ (n : ℕ). get_or two_places n 0) (one.places_undo middle (omega (arith, same))) ∙ two.places_undo new lt

  order_undo_at : (old : ℕ) → old < length two_order → get_or order (get_or places old 0) 0 ≡ old
  order_undo_at old lt =
      let middle = get_or one_places old 0 in
      let middle_low : middle < length two_order = omega (arith, same, one.places_below old (omega (arith, same))) in
      let new_low : get_or two_places middle 0 < length two_order = two.places_below middle middle_low in
      ap (λ (n : ℕ). get_or order n 0) (places_at old lt) ∙ order_at (get_or two_places middle 0) new_low
      ∙ ap (λ (n : ℕ). get_or one_order n 0) (two.order_undo middle middle_low) ∙ one.order_undo old (omega (arith, same))

  pub AreTables-joined : AreTables order places
  AreTables-joined = record {
    small = omega (arith, order_len, two.small);
    len = omega (arith, order_len, places_len, one.len, same);
    order_below = λ new lt. omega (arith, order_len, same, order_at new (omega (arith, order_len)), two.order_below new (omega (arith, order_len)), one.order_below (get_or two_order new 0) (omega (arith, same, two.order_below new (omega (arith, order_len)))));
    places_below = λ old lt. omega (arith, order_len, same, places_at old (omega (arith, order_len)), one.places_below old (omega (arith, order_len, same)), two.places_below (get_or one_places old 0) (omega (arith, same, one.places_below old (omega (arith, order_len, same)))));
    places_undo = λ new lt. places_undo_at new (omega (arith, order_len));
    order_undo = λ old lt. order_undo_at old (omega (arith, order_len));
  }

  pub Renumbers-joined : Renumbers order (length two_order) (λ old. new_of two_order (new_of one_order old))
  Renumbers-joined = Renumbers-from_tables order places (length two_order) (λ old. new_of two_order (new_of one_order old)) AreTables-joined order_len (λ old lt.
      let middle = get_or one_places old 0 in
      let middle_low : middle < length two_order = omega (arith, same, one.places_below old (omega (arith, same))) in
      places_at old lt ∙ sym (new_of-tables two_order two_places middle two middle_low) ∙ ap (new_of two_order) (sym (new_of-tables one_order one_places old one (omega (arith, same)))))

pub looked_same : (found t u xs ys : List ℕ) → found ≡ map (λ (number : ℕ). get_or t number 0) xs → t ≡ u → xs ≡ ys → found ≡ map (λ (number : ℕ). get_or u number 0) ys
looked_same found t u xs ys h tables numbers = h ∙ ap (λ (v : List ℕ). map (λ (number : ℕ). get_or v number 0) xs) tables ∙ ap (map (λ (number : ℕ). get_or u number 0)) numbers
