-- Ranks and pairs over a cell's own rows.
use Rattle.std.proofs.Common.{◌≡◌, ℕ, ◌+◌, ◌<◌, ℤ, pos, ◌+ℤ◌, ◌<ℤ◌, Bool, cond, List, [], ◌∷◌, length, get_or, map, take, zip, take_while, All, refl, sym, subst, ap, ◌∙◌, inl, inr, arith}
use Rattle.std.specs.Prelude.{slice_index, int_lt}
use Rattle.std.specs.List.{prefix_len}
use Rattle.std.proofs.lemmas.List.{length-map, get_or-map, take-map}
use Rattle.std.proofs.lemmas.List.Elements.{All-head, All-tail, All-map, All-take, All-same}
use Rattle.std.proofs.lemmas.List.Sorted.{IsPermutation-map, All-permutation}
use Rattle.std.proofs.lemmas.Slice.Zip.{length-zip, get_or-zip}
use Rattle.forward_index.specs.Forward.{ForwardIndex}
use Rattle.exchange.specs.Gain.{gain}
use Rattle.exchange.specs.Pairs.{RanksBefore, IsRanked, ArePairs}
use Rattle.exchange.proofs.CellPlaces.{AreIn, through, place_less}
use Rattle.exchange.proofs.CellGains.{AreAlike}

-- the places of two documents
abbrev pub both_through : List ℕ → ℕ × ℕ → ℕ × ℕ
both_through places pair = (slice_index places pair.0, slice_index places pair.1)

abbrev pub pairs_through : List ℕ → List (ℕ × ℕ) → List (ℕ × ℕ)
pairs_through places pairs = map (both_through places) pairs

-- both documents of each pair stand in the cell
abbrev pub ArePairsIn : List ℕ → List (ℕ × ℕ) → Type 0
ArePairsIn places pairs = All (λ pair. (pair.0 < length places) × (pair.1 < length places)) pairs

pub firsts_through : (places : List ℕ) (pairs : List (ℕ × ℕ)) → map (λ pair. pair.0) (pairs_through places pairs) ≡ through places (map (λ pair. pair.0) pairs)
firsts_through places [] = refl
firsts_through places (pair ∷ pairs) = ap (λ (xs : List ℕ). slice_index places pair.0 ∷ xs) (firsts_through places pairs)

pub seconds_through : (places : List ℕ) (pairs : List (ℕ × ℕ)) → map (λ pair. pair.1) (pairs_through places pairs) ≡ through places (map (λ pair. pair.1) pairs)
seconds_through places [] = refl
seconds_through places (pair ∷ pairs) = ap (λ (xs : List ℕ). slice_index places pair.1 ∷ xs) (seconds_through places pairs)

pub firsts_in : (places : List ℕ) (pairs : List (ℕ × ℕ)) → ArePairsIn places pairs → AreIn places (map (λ pair. pair.0) pairs)
firsts_in places pairs inside = All-map (λ (k : ℕ). k < length places) (λ (pair : ℕ × ℕ). pair.0) pairs (λ k d within. (inside k d within).0)

pub seconds_in : (places : List ℕ) (pairs : List (ℕ × ℕ)) → ArePairsIn places pairs → AreIn places (map (λ pair. pair.1) pairs)
seconds_in places pairs inside = All-map (λ (k : ℕ). k < length places) (λ (pair : ℕ × ℕ). pair.1) pairs (λ k d within. (inside k d within).1)

-- ---- lists of values of a function

zip-map : (f : ℕ → ℕ) (xs ys : List ℕ) → zip (map f xs) (map f ys) ≡ map (λ (pair : ℕ × ℕ). (f pair.0, f pair.1)) (zip xs ys)
zip-map f [] ys = refl
zip-map f (x ∷ xs) [] = refl
zip-map f (x ∷ xs) (y ∷ ys) = ap (λ (zs : List (ℕ × ℕ)). (f x, f y) ∷ zs) (zip-map f xs ys)

prefix_len-map : {X Y : Type 0} (f : X → Y) (p : X → Bool) (q : Y → Bool) (xs : List X) → All (λ x. q (f x) ≡ p x) xs → prefix_len q (map f xs) ≡ prefix_len p xs
prefix_len-map f p q [] same = refl
prefix_len-map f p q (x ∷ xs) same =
    ap (λ (b : Bool). cond b (1 + prefix_len q (map f xs)) 0) (All-head (λ y. q (f y) ≡ p y) x xs same)
    ∙ ap (λ (n : ℕ). cond (p x) (1 + n) 0) (prefix_len-map f p q xs (All-tail (λ y. q (f y) ≡ p y) x xs same))

take_while-map : {X Y : Type 0} (f : X → Y) (p : X → Bool) (q : Y → Bool) (xs : List X) → All (λ x. q (f x) ≡ p x) xs → map f (take_while p xs) ≡ take_while q (map f xs)
take_while-map f p q xs same =
    sym (take-map f (prefix_len p xs) xs) ∙ ap (λ (n : ℕ). take n (map f xs)) (sym (prefix_len-map f p q xs same))

-- ---- ranked halves

ranks_through : (places : List ℕ) (gains outer : ℕ → ℤ) (u v : ℕ) → gains u ≡ outer (slice_index places u) → gains v ≡ outer (slice_index places v)
    → (u < v → slice_index places u < slice_index places v) → RanksBefore gains u v → RanksBefore outer (slice_index places u) (slice_index places v)
ranks_through places gains outer u v same_u same_v order (inl more) = inl (subst (λ (z : ℤ). z <ℤ outer (slice_index places u)) same_v (subst (λ (z : ℤ). gains v <ℤ z) same_u more))
ranks_through places gains outer u v same_u same_v order (inr (equal, first)) = inr (sym same_u ∙ equal ∙ same_v, order first)

ranked_through : (whole cell : ForwardIndex) (places : List ℕ) → AreAlike whole cell places → (a b half ranked : List ℕ) → AreIn places a → AreIn places b → AreIn places half
    → IsRanked (gain cell a b) half ranked → IsRanked (gain whole (through places a) (through places b)) (through places half) (through places ranked)
ranked_through whole cell places alike a b half ranked in_a in_b in_half is =
    let gains : ℕ → ℤ = gain cell a b in
    let outer : ℕ → ℤ = gain whole (through places a) (through places b) in
    let inside : AreIn places ranked = All-permutation (λ (k : ℕ). k < length places) half ranked is.documents in_half in
    record {
      documents = IsPermutation-map (slice_index places) half ranked is.documents;
      before = λ i j d order within.
          let low_j : j < length ranked = omega (arith, within, length-map ranked (slice_index places)) in
          let low_i : i < length ranked = omega (arith, order, low_j) in
          let u = get_or ranked i 0 in
          let v = get_or ranked j 0 in
          let ranks : RanksBefore outer (slice_index places u) (slice_index places v) =
          ranks_through places gains outer u v (alike.gains a b u in_a in_b (inside i 0 low_i)) (alike.gains a b v in_a in_b (inside j 0 low_j))
          (λ less. place_less places alike.rising u v less (inside j 0 low_j)) (is.before i j 0 order low_j) in
          subst (λ (x : ℕ). RanksBefore outer x (get_or (through places ranked) j d)) (sym (get_or-map (slice_index places) ranked i 0 d low_i))
          (subst (λ (y : ℕ). RanksBefore outer (slice_index places u) y) (sym (get_or-map (slice_index places) ranked j 0 d low_j)) ranks);
    }

-- ---- pairs

zip_in : (places xs ys : List ℕ) → AreIn places xs → AreIn places ys → ArePairsIn places (zip xs ys)
zip_in places xs ys in_x in_y k d within =
    let low_x : k < length xs = omega (arith, within, length-zip xs ys) in
    let low_y : k < length ys = omega (arith, within, length-zip xs ys) in
    subst (λ (pair : ℕ × ℕ). (pair.0 < length places) × (pair.1 < length places)) (sym (get_or-zip xs ys k d low_x low_y)) (in_x k d.0 low_x, in_y k d.1 low_y)

pub pairs_in : (forward : ForwardIndex) (places a b : List ℕ) (pairs : List (ℕ × ℕ)) → AreIn places a → AreIn places b → ArePairs forward a b pairs → ArePairsIn places pairs
pairs_in forward places a b pairs in_a in_b are =
    let below : ℕ → Type 0 = λ k. k < length places in
    let pair_below : ℕ × ℕ → Type 0 = λ pair. (pair.0 < length places) × (pair.1 < length places) in
    let test : ℕ × ℕ → Bool = λ pair. int_lt (pos 0) (gain forward a b pair.0 +ℤ gain forward b a pair.1) in
    let whole = zip are.ranked_a are.ranked_b in
    All-same pair_below pairs (take_while test whole) are.longest
    (All-take pair_below (prefix_len test whole) whole
    (zip_in places are.ranked_a are.ranked_b (All-permutation below a are.ranked_a are.is_a.documents in_a) (All-permutation below b are.ranked_b are.is_b.documents in_b)))

pub are_pairs_through : (whole cell : ForwardIndex) (places : List ℕ) → AreAlike whole cell places → (a b : List ℕ) (pairs : List (ℕ × ℕ)) → AreIn places a → AreIn places b
    → ArePairs cell a b pairs → ArePairs whole (through places a) (through places b) (pairs_through places pairs)
are_pairs_through whole cell places alike a b pairs in_a in_b are =
    let below : ℕ → Type 0 = λ k. k < length places in
    let outer_a = through places a in
    let outer_b = through places b in
    let test : ℕ × ℕ → Bool = λ pair. int_lt (pos 0) (gain cell a b pair.0 +ℤ gain cell b a pair.1) in
    let outer : ℕ × ℕ → Bool = λ pair. int_lt (pos 0) (gain whole outer_a outer_b pair.0 +ℤ gain whole outer_b outer_a pair.1) in
    let zipped = zip are.ranked_a are.ranked_b in
    let inside = zip_in places are.ranked_a are.ranked_b (All-permutation below a are.ranked_a are.is_a.documents in_a) (All-permutation below b are.ranked_b are.is_b.documents in_b) in
    let same : All (λ pair. outer (both_through places pair) ≡ test pair) zipped = λ k d within.
    let pair = get_or zipped k d in
    let low = inside k d within in
    ap (λ (z : ℤ). int_lt (pos 0) (z +ℤ gain whole outer_b outer_a (slice_index places pair.1))) (sym (alike.gains a b pair.0 in_a in_b low.0))
    ∙ ap (λ (z : ℤ). int_lt (pos 0) (gain cell a b pair.0 +ℤ z)) (sym (alike.gains b a pair.1 in_b in_a low.1)) in
    record {
      ranked_a = through places are.ranked_a;
      ranked_b = through places are.ranked_b;
      is_a = ranked_through whole cell places alike a b a are.ranked_a in_a in_b in_a are.is_a;
      is_b = ranked_through whole cell places alike b a b are.ranked_b in_b in_a in_b are.is_b;
      longest = ap (pairs_through places) are.longest ∙ take_while-map (both_through places) test outer zipped same
          ∙ ap (take_while outer) (sym (zip-map (slice_index places) are.ranked_a are.ranked_b));
    }
