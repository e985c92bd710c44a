-- Halves after an exchange, over a cell's own rows.
use Rattle.std.proofs.Common.{◌≡◌, ◌⊎◌, ℕ, ◌/◌, ◌^◌, ◌<◌, List, length, get_or, map, take, Contains, sym, subst, ap, ◌∙◌, inl, inr}
use Rattle.std.specs.Prelude.{slice_index}
use Rattle.std.specs.List.Sorted.{IsStrictlyIncreasing}
use Rattle.std.proofs.lemmas.List.{length-map, take-map}
use Rattle.std.proofs.lemmas.List.Elements.{All-take, All-contains, Contains-get_or}
use Rattle.exchange.specs.Round.{IsHalfAfter, AreExchanged, pairs_of_try, IsTry}
use Rattle.exchange.proofs.CellPlaces.{AreIn, through, rising_through, rising_back, there, from_there, back, is_place, pulled}
use Rattle.exchange.proofs.CellPairs.{pairs_through, both_through, ArePairsIn, firsts_through, seconds_through, firsts_in, seconds_in}

-- the place is one of the half after some leave and some come
abbrev Stands : List ℕ → List ℕ → List ℕ → ℕ → Type 0
Stands half leave come place = (Contains half place × ¬ Contains leave place) ⊎ Contains come place

stands_in : (places half leave come : List ℕ) (k : ℕ) → AreIn places half → AreIn places come → Stands half leave come k → k < length places
stands_in places half leave come k in_half in_come (inl stays) = All-contains (λ (j : ℕ). j < length places) half k in_half stays.0
stands_in places half leave come k in_half in_come (inr comes) = All-contains (λ (j : ℕ). j < length places) come k in_come comes

stands_through : (places : List ℕ) → IsStrictlyIncreasing places → (half leave come : List ℕ) (k : ℕ) → AreIn places leave → k < length places
    → Stands half leave come k → Stands (through places half) (through places leave) (through places come) (slice_index places k)
stands_through places rising half leave come k in_leave low (inl stays) = inl (there places half k stays.0, (λ leaves. stays.1 (back places rising leave in_leave k low leaves)))
stands_through places rising half leave come k in_leave low (inr comes) = inr (there places come k comes)

stands_back : (places : List ℕ) → IsStrictlyIncreasing places → (half leave come : List ℕ) (k : ℕ) → AreIn places half → AreIn places come → k < length places
    → Stands (through places half) (through places leave) (through places come) (slice_index places k) → Stands half leave come k
stands_back places rising half leave come k in_half in_come low (inl stays) = inl (back places rising half in_half k low stays.0, (λ leaves. stays.1 (there places leave k leaves)))
stands_back places rising half leave come k in_half in_come low (inr comes) = inr (back places rising come in_come k low comes)

-- a place that stands there is that of a document of the cell
stands_found : (places half leave come : List ℕ) (place : ℕ) → AreIn places half → AreIn places come
    → Stands (through places half) (through places leave) (through places come) place → (k : ℕ) × (k < length places) × (slice_index places k ≡ place)
stands_found places half leave come place in_half in_come (inl stays) =
    let found = from_there places half place stays.0 in
    (found.0, All-contains (λ (j : ℕ). j < length places) half found.0 in_half found.1, found.2)
stands_found places half leave come place in_half in_come (inr comes) =
    let found = from_there places come place comes in
    (found.0, All-contains (λ (j : ℕ). j < length places) come found.0 in_come found.1, found.2)

pub half_in : (places half leave come new : List ℕ) → AreIn places half → AreIn places come → IsHalfAfter half leave come new → AreIn places new
half_in places half leave come new in_half in_come is i d within =
    stands_in places half leave come (get_or new i d) in_half in_come ((is.documents (get_or new i d)).0 (Contains-get_or new i d within))

half_through : (places : List ℕ) → IsStrictlyIncreasing places → (half leave come new : List ℕ) → AreIn places half → AreIn places leave → AreIn places come
    → IsHalfAfter half leave come new → IsHalfAfter (through places half) (through places leave) (through places come) (through places new)
half_through places rising half leave come new in_half in_leave in_come is =
    let in_new = half_in places half leave come new in_half in_come is in
    record {
      rising = rising_through places rising new in_new is.rising;
      documents = λ place. (
        (λ inside.
            let found = from_there places new place inside in
            let low = All-contains (λ (j : ℕ). j < length places) new found.0 in_new found.1 in
            subst (Stands (through places half) (through places leave) (through places come)) found.2
            (stands_through places rising half leave come found.0 in_leave low ((is.documents found.0).0 found.1))),
        (λ stands.
            let found = stands_found places half leave come place in_half in_come stands in
            let inner = stands_back places rising half leave come found.0 in_half in_come found.1
            (subst (Stands (through places half) (through places leave) (through places come)) (sym found.2) stands) in
            subst (Contains (through places new)) found.2 (there places new found.0 ((is.documents found.0).1 inner))),
      );
    }

half_back : (places : List ℕ) → IsStrictlyIncreasing places → (half leave come new : List ℕ) → AreIn places half → AreIn places leave → AreIn places come → AreIn places new
    → IsHalfAfter (through places half) (through places leave) (through places come) (through places new) → IsHalfAfter half leave come new
half_back places rising half leave come new in_half in_leave in_come in_new is = record {
  rising = rising_back places rising new in_new is.rising;
  documents = λ k. (
    (λ inside.
        let low = All-contains (λ (j : ℕ). j < length places) new k in_new inside in
        stands_back places rising half leave come k in_half in_come low ((is.documents (slice_index places k)).0 (there places new k inside))),
    (λ stands.
        let low = stands_in places half leave come k in_half in_come stands in
        back places rising new in_new k low ((is.documents (slice_index places k)).1 (stands_through places rising half leave come k in_leave low stands))),
  );
}

-- each list that is the half after an exchange over the whole is one over the cell
half_pulled : (places half leave come new : List ℕ) → AreIn places half → AreIn places come
    → IsHalfAfter (through places half) (through places leave) (through places come) new
    → (documents : List ℕ) × AreIn places documents × (through places documents ≡ new)
half_pulled places half leave come new in_half in_come is =
    pulled places new (λ i d within.
    let place = get_or new i d in
    let found = stands_found places half leave come place in_half in_come ((is.documents place).0 (Contains-get_or new i d within)) in
    is_place places found.0 place found.1 found.2)

-- ---- both halves

pub exchanged_in : (places : List ℕ) (pairs : List (ℕ × ℕ)) (a b new_a new_b : List ℕ) → ArePairsIn places pairs → AreIn places a → AreIn places b
    → AreExchanged pairs a b new_a new_b → AreIn places new_a × AreIn places new_b
exchanged_in places pairs a b new_a new_b in_pairs in_a in_b are =
    let firsts = map (λ (pair : ℕ × ℕ). pair.0) pairs in
    let seconds = map (λ (pair : ℕ × ℕ). pair.1) pairs in
    (half_in places a firsts seconds new_a in_a (seconds_in places pairs in_pairs) are.half_a, half_in places b seconds firsts new_b in_b (firsts_in places pairs in_pairs) are.half_b)

-- the exchange with lists of those that change places
record AreSwapped (firsts seconds a b new_a new_b : List ℕ) : Type 0 where
  half_a : IsHalfAfter a firsts seconds new_a
  half_b : IsHalfAfter b seconds firsts new_b

swapped_from : (places : List ℕ) (pairs : List (ℕ × ℕ)) (a b new_a new_b : List ℕ) → AreExchanged (pairs_through places pairs) a b new_a new_b
    → AreSwapped (through places (map (λ pair. pair.0) pairs)) (through places (map (λ pair. pair.1) pairs)) a b new_a new_b
swapped_from places pairs a b new_a new_b are =
    subst (λ (xs : List ℕ). AreSwapped xs (through places (map (λ pair. pair.1) pairs)) a b new_a new_b) (firsts_through places pairs)
    (subst (λ (ys : List ℕ). AreSwapped (map (λ pair. pair.0) (pairs_through places pairs)) ys a b new_a new_b) (seconds_through places pairs)
    (record { half_a = are.half_a; half_b = are.half_b }))

swapped_to : (places : List ℕ) (pairs : List (ℕ × ℕ)) (a b new_a new_b : List ℕ)
    → AreSwapped (through places (map (λ pair. pair.0) pairs)) (through places (map (λ pair. pair.1) pairs)) a b new_a new_b
    → AreExchanged (pairs_through places pairs) a b new_a new_b
swapped_to places pairs a b new_a new_b are =
    let swapped : AreSwapped (map (λ pair. pair.0) (pairs_through places pairs)) (map (λ pair. pair.1) (pairs_through places pairs)) a b new_a new_b =
    subst (λ (xs : List ℕ). AreSwapped xs (map (λ pair. pair.1) (pairs_through places pairs)) a b new_a new_b) (sym (firsts_through places pairs))
    (subst (λ (ys : List ℕ). AreSwapped (through places (map (λ pair. pair.0) pairs)) ys a b new_a new_b) (sym (seconds_through places pairs)) are) in
    record { half_a = swapped.half_a; half_b = swapped.half_b }

exchanged_through : (places : List ℕ) → IsStrictlyIncreasing places → (pairs : List (ℕ × ℕ)) (a b new_a new_b : List ℕ) → ArePairsIn places pairs → AreIn places a → AreIn places b
    → AreExchanged pairs a b new_a new_b → AreExchanged (pairs_through places pairs) (through places a) (through places b) (through places new_a) (through places new_b)
exchanged_through places rising pairs a b new_a new_b in_pairs in_a in_b are =
    let firsts = map (λ (pair : ℕ × ℕ). pair.0) pairs in
    let seconds = map (λ (pair : ℕ × ℕ). pair.1) pairs in
    let in_firsts = firsts_in places pairs in_pairs in
    let in_seconds = seconds_in places pairs in_pairs in
    swapped_to places pairs (through places a) (through places b) (through places new_a) (through places new_b) (record {
      half_a = half_through places rising a firsts seconds new_a in_a in_firsts in_seconds are.half_a;
      half_b = half_through places rising b seconds firsts new_b in_b in_seconds in_firsts are.half_b;
    })

-- halves over the whole are those of such halves over the cell
record AreExchangedWithin (places : List ℕ) (pairs : List (ℕ × ℕ)) (a b new_a new_b : List ℕ) : Type 0 where
  inner_a : List ℕ
  inner_b : List ℕ
  in_a : AreIn places inner_a
  in_b : AreIn places inner_b
  at_a : through places inner_a ≡ new_a
  at_b : through places inner_b ≡ new_b
  exchanged : AreExchanged pairs a b inner_a inner_b

exchanged_back : (places : List ℕ) → IsStrictlyIncreasing places → (pairs : List (ℕ × ℕ)) (a b new_a new_b : List ℕ) → ArePairsIn places pairs → AreIn places a → AreIn places b
    → AreExchanged (pairs_through places pairs) (through places a) (through places b) new_a new_b → AreExchangedWithin places pairs a b new_a new_b
exchanged_back places rising pairs a b new_a new_b in_pairs in_a in_b are =
    let firsts = map (λ (pair : ℕ × ℕ). pair.0) pairs in
    let seconds = map (λ (pair : ℕ × ℕ). pair.1) pairs in
    let in_firsts = firsts_in places pairs in_pairs in
    let in_seconds = seconds_in places pairs in_pairs in
    let swapped = swapped_from places pairs (through places a) (through places b) new_a new_b are in
    let inner_a = half_pulled places a firsts seconds new_a in_a in_seconds swapped.half_a in
    let inner_b = half_pulled places b seconds firsts new_b in_b in_firsts swapped.half_b in
    record {
      inner_a = inner_a.0;
      inner_b = inner_b.0;
      in_a = inner_a.1;
      in_b = inner_b.1;
      at_a = inner_a.2;
      at_b = inner_b.2;
      exchanged = record {
        half_a = half_back places rising a firsts seconds inner_a.0 in_a in_firsts in_seconds inner_a.1
            (subst (IsHalfAfter (through places a) (through places firsts) (through places seconds)) (sym inner_a.2) swapped.half_a);
        half_b = half_back places rising b seconds firsts inner_b.0 in_b in_seconds in_firsts inner_b.1
            (subst (IsHalfAfter (through places b) (through places seconds) (through places firsts)) (sym inner_b.2) swapped.half_b);
      };
    }

-- ---- tries

pub pairs_of_try_through : (places : List ℕ) (pairs : List (ℕ × ℕ)) (number : ℕ) → pairs_of_try (pairs_through places pairs) number ≡ pairs_of_try pairs number
pairs_of_try_through places pairs number = ap (λ (n : ℕ). n / 2 ^ number) (length-map pairs (both_through places))

taken_through : (places : List ℕ) (pairs : List (ℕ × ℕ)) (number : ℕ)
    → take (pairs_of_try (pairs_through places pairs) number) (pairs_through places pairs) ≡ pairs_through places (take (pairs_of_try pairs number) pairs)
taken_through places pairs number =
    ap (λ (n : ℕ). take n (pairs_through places pairs)) (pairs_of_try_through places pairs number) ∙ take-map (both_through places) (pairs_of_try pairs number) pairs

taken_in : (places : List ℕ) (pairs : List (ℕ × ℕ)) (number : ℕ) → ArePairsIn places pairs → ArePairsIn places (take (pairs_of_try pairs number) pairs)
taken_in places pairs number in_pairs = All-take (λ (pair : ℕ × ℕ). (pair.0 < length places) × (pair.1 < length places)) (pairs_of_try pairs number) pairs in_pairs

pub try_in : (places : List ℕ) (pairs : List (ℕ × ℕ)) (a b : List ℕ) (number : ℕ) (new_a new_b : List ℕ) → ArePairsIn places pairs → AreIn places a → AreIn places b
    → IsTry pairs a b number new_a new_b → AreIn places new_a × AreIn places new_b
try_in places pairs a b number new_a new_b in_pairs in_a in_b is =
    exchanged_in places (take (pairs_of_try pairs number) pairs) a b new_a new_b (taken_in places pairs number in_pairs) in_a in_b is.exchanged

pub try_through : (places : List ℕ) → IsStrictlyIncreasing places → (pairs : List (ℕ × ℕ)) (a b : List ℕ) (number : ℕ) (new_a new_b : List ℕ)
    → ArePairsIn places pairs → AreIn places a → AreIn places b
    → IsTry pairs a b number new_a new_b → IsTry (pairs_through places pairs) (through places a) (through places b) number (through places new_a) (through places new_b)
try_through places rising pairs a b number new_a new_b in_pairs in_a in_b is = record {
  some = subst (λ (n : ℕ). 0 < n) (sym (pairs_of_try_through places pairs number)) is.some;
  exchanged = subst (λ (some : List (ℕ × ℕ)). AreExchanged some (through places a) (through places b) (through places new_a) (through places new_b)) (sym (taken_through places pairs number))
      (exchanged_through places rising (take (pairs_of_try pairs number) pairs) a b new_a new_b (taken_in places pairs number in_pairs) in_a in_b is.exchanged);
}

-- a try over the whole is one over the cell
pub record IsTryWithin (places : List ℕ) (pairs : List (ℕ × ℕ)) (a b : List ℕ) (number : ℕ) (new_a new_b : List ℕ) : Type 0 where
  pub inner_a : List ℕ
  pub inner_b : List ℕ
  pub in_a : AreIn places inner_a
  pub in_b : AreIn places inner_b
  pub at_a : through places inner_a ≡ new_a
  pub at_b : through places inner_b ≡ new_b
  pub is_try : IsTry pairs a b number inner_a inner_b

pub try_back : (places : List ℕ) → IsStrictlyIncreasing places → (pairs : List (ℕ × ℕ)) (a b : List ℕ) (number : ℕ) (new_a new_b : List ℕ)
    → ArePairsIn places pairs → AreIn places a → AreIn places b
    → IsTry (pairs_through places pairs) (through places a) (through places b) number new_a new_b → IsTryWithin places pairs a b number new_a new_b
try_back places rising pairs a b number new_a new_b in_pairs in_a in_b is =
    let within = exchanged_back places rising (take (pairs_of_try pairs number) pairs) a b new_a new_b (taken_in places pairs number in_pairs) in_a in_b
    (subst (λ (some : List (ℕ × ℕ)). AreExchanged some (through places a) (through places b) new_a new_b) (taken_through places pairs number) is.exchanged) in
    record {
      inner_a = within.inner_a;
      inner_b = within.inner_b;
      in_a = within.in_a;
      in_b = within.in_b;
      at_a = within.at_a;
      at_b = within.at_b;
      is_try = record { some = subst (λ (n : ℕ). 0 < n) (pairs_of_try_through places pairs number) is.some; exchanged = within.exchanged };
    }
