-- Places of a cell's own rows, and lists that are looked up through them.
use Rattle.std.proofs.Common.{◌≡◌, ℕ, ◌+◌, ◌/◌, ◌<◌, List, [], ◌∷◌, ◌++◌, length, get_or, take, drop, map, refl, sym, ap, subst, ◌∙◌, arith, All, zero-add}
use Rattle.std.specs.List.{range_with_len}
use Rattle.std.specs.List.Sorted.{IsStrictlyIncreasing}
use Rattle.std.proofs.lemmas.List.{append-nil, length-append, length-map, map-append, take-append-drop, take_at, take_all, drop_at, drop_all, get_or_append_left, get_or-append-add, get_or-map, ext_get_or}
use Rattle.std.proofs.lemmas.List.Concat.{flat_map-append}
use Rattle.std.proofs.lemmas.List.Elements.{All-tail}
use Rattle.std.proofs.lemmas.List.FromFn.{length-range_with_len, get_or-range_with_len, fill_by_all}
use Rattle.exchange.specs.Halving.{half_a, half_b}
use Rattle.bisection.specs.Recursion.{order_of}

-- ---- all places

pub places_are : (n : ℕ) (xs : List ℕ) → length xs ≡ n → ((k : ℕ) → k < n → get_or xs k 0 ≡ k) → xs ≡ range_with_len 0 n
places_are n xs len each =
    ext_get_or 0 xs (range_with_len 0 n) (len ∙ sym (length-range_with_len 0 n)) (λ k lt.
    let within : k < n = omega (arith, lt, len) in
    each k within ∙ sym (get_or-range_with_len 0 n k 0 within ∙ zero-add k))

pub range_rising : (n : ℕ) → IsStrictlyIncreasing (range_with_len 0 n)
range_rising n k lt =
    let len = length-range_with_len 0 n in
    omega (arith, get_or-range_with_len 0 n k 0 (omega (arith, lt, len)), get_or-range_with_len 0 n (k + 1) 0 (omega (arith, lt, len)))

pub range_below : (n : ℕ) → All (λ k. k < n) (range_with_len 0 n)
range_below n k d lt =
    let len = length-range_with_len 0 n in
    omega (arith, get_or-range_with_len 0 n k d (omega (arith, lt, len)), lt, len)

-- a list looked up at all its places is the list
pub look_all : (xs : List ℕ) (n : ℕ) → length xs ≡ n → map (λ k. get_or xs k 0) (range_with_len 0 n) ≡ xs
look_all xs n len = sym (fill_by_all (λ (k : ℕ). get_or xs k 0) xs n 0 len (λ k lt. refl))

pub look_through : (f : ℕ → ℕ) (cell ks : List ℕ) → All (λ k. k < length cell) ks → map (λ k. get_or (map f cell) k 0) ks ≡ map f (map (λ k. get_or cell k 0) ks)
look_through f cell [] below = refl
look_through f cell (k ∷ ks) below =
    let head : get_or (map f cell) k 0 ≡ f (get_or cell k 0) = get_or-map f cell k 0 0 (below 0 0 (omega arith)) in
    ap (λ (x : ℕ). x ∷ map (λ (j : ℕ). get_or (map f cell) j 0) ks) head
    ∙ ap (λ (xs : List ℕ). f (get_or cell k 0) ∷ xs) (look_through f cell ks (All-tail (λ (j : ℕ). j < length cell) k ks below))

-- ---- fronts and backs

pub all_front : {X : Type 0} (P : X → Type 0) (xs ys : List X) → All P (xs ++ ys) → All P xs
all_front P xs ys all k d lt = subst P (get_or_append_left xs ys d k lt) (all k d (omega (arith, length-append xs ys, lt)))

pub all_back : {X : Type 0} (P : X → Type 0) (xs ys : List X) → All P (xs ++ ys) → All P ys
all_back P xs ys all k d lt = subst P (get_or-append-add xs ys k d) (all (length xs + k) d (omega (arith, length-append xs ys, lt)))

-- a whole list that was written over
pub put_whole : {X : Type 0} (n : ℕ) (new items : List X) → length new ≡ n → length items ≡ n → take n (new ++ drop (length new) items) ≡ new
put_whole {X} n new items len len_items =
    ap (λ (xs : List X). take n (new ++ xs)) (drop_all (length new) items (omega (arith, len, len_items)))
    ∙ ap (take n) (append-nil new)
    ∙ take_all n new (omega (arith, len))

pub front_docs : (f : ℕ → ℕ) (n : ℕ) (docs xs ys : List ℕ) → docs ≡ map f (xs ++ ys) → n ≡ length xs → take n docs ≡ map f xs
front_docs f n docs xs ys is len =
    ap (take n) (is ∙ map-append f xs ys) ∙ take_at (map f xs) (map f ys) n (length-map xs f ∙ sym len)

pub back_docs : (f : ℕ → ℕ) (n : ℕ) (docs xs ys : List ℕ) → docs ≡ map f (xs ++ ys) → n ≡ length xs → drop n docs ≡ map f ys
back_docs f n docs xs ys is len =
    ap (drop n) (is ∙ map-append f xs ys) ∙ drop_at (map f xs) (map f ys) n (length-map xs f ∙ sym len)

pub halves_join : (places : List ℕ) → half_a places ++ half_b places ≡ places
halves_join places = take-append-drop ((length places + 1) / 2) places

-- ---- the order of cells

pub order_append : (xs ys : List (List ℕ)) → order_of (xs ++ ys) ≡ order_of xs ++ order_of ys
order_append xs ys = flat_map-append (λ (cell : List ℕ). cell) xs ys

pub order_through : (g : ℕ → ℕ) (cells : List (List ℕ)) → order_of (map (map g) cells) ≡ map g (order_of cells)
order_through g [] = refl
order_through g (cell ∷ cells) =
    ap (λ (xs : List ℕ). map g cell ++ xs) (order_through g cells) ∙ sym (map-append g cell (order_of cells))
