-- What the tries over ranked entries say of the halves themselves.
use Rattle.std.proofs.Common.{◌≡◌, ℕ, zero, suc, ◌+◌, ◌/◌, ◌^◌, ◌<◌, ◌≤◌, ℤ, pos, ◌+ℤ◌, ◌<ℤ◌, ◌≤ℤ◌, Bool, cond, List, [], ◌∷◌, ◌++◌, length, get_or, map, take, refl, sym, subst, ap, ◌∙◌, All, inl, inr, ◌==◌, arith}
use Rattle.std.specs.Prelude.{int_lt}
use Rattle.std.specs.List.{AllPairs, zip, prefix_len}
use Rattle.std.specs.List.Sorted.{IsPermutation, IsStrictlyIncreasing}
use Rattle.std.proofs.Math.Nat.{div-le_self, div-one}
use Rattle.std.proofs.lemmas.List.{length-map, length-take, length-append, get_or_append_left, get_or-append-add}
use Rattle.std.proofs.lemmas.List.Elements.{All-head, All-tail, All-map}
use Rattle.std.proofs.lemmas.List.Sorted.{IsPermutation-sym, IsPermutation-trans, IsPermutation-append, IsPermutation-append_comm, length_permutation, All-permutation}
use Rattle.std.proofs.lemmas.List.Sums.{prefix_len-le-length, count_by-le-length}
use Rattle.std.proofs.lemmas.Slice.Zip.{length-zip}
use Rattle.rgb_base.specs.declared.parts.Side.{Side}
use Rattle.rgb_base.specs.declared.parts.Side.TheVariants.{A, B}
use Rattle.rgb_base.specs.Order.{AreNumbers}
use Rattle.forward_index.specs.Forward.{ForwardIndex, IsForward, row_at}
use Rattle.degrees.specs.Cost.{degree, cost, has_term}
use Rattle.degrees.specs.Counts.{Counted, IsCountedIn, loaded, cost_of, degrees_of}
use Rattle.exchange.specs.declared.entry.Entry.{Entry}
use Rattle.exchange.specs.declared.tries.Tried.{Tried}
use Rattle.exchange.specs.declared.round.Kept.{Kept}
use Rattle.exchange.specs.Gain.{term_gain, gain, gain_of, IsReady}
use Rattle.exchange.specs.Pairs.{RanksBefore, IsRanked, ArePairs}
use Rattle.exchange.specs.Round.{AreExchanged, pairs_of_try, IsTry, NoneBefore, IsKept, IsRefused}
use Rattle.exchange.specs.Tries.{docs_of, entry_of, HasGain, StandsBefore, gaining, half_after, tried, cost_tried, NoneLess, IsFirstLess}
use Rattle.exchange.proofs.Totals.{total_by-same}
use Rattle.exchange.proofs.Moved.{made_at, degree-permutation, degrees_of-same, cost-counted}
use Rattle.exchange.proofs.Exchanged.{Differ, Differ-permutation, both_after, length_after, permutation_from_half, half_from_permutation, exchanged_from_halves, half_a_from_exchanged, half_b_from_exchanged}
use Rattle.exchange.specs.Tries.{no_entry}
use Rattle.exchange.proofs.Ranked.{doc_at}
use Rattle.exchange.proofs.RowGains.{row_is}
use Rattle.exchange.proofs.Many.{degree_more, degree_front, has_own}
use Rattle.std.proofs.lemmas.Bool.{eqb-true}
use Rattle.std.proofs.lemmas.Bool.Decides.{Decides-eqb}
use Rattle.std.proofs.lemmas.List.{get_or_default}
use Rattle.std.proofs.lemmas.List.Folds.{Any-from_list_any}
use Rattle.std.proofs.lemmas.List.FromFn.{length-map-range_with_len}
use Rattle.std.proofs.lemmas.Map.Made.{IsDistinct-from_AllPairs}
use Rattle.std.proofs.lemmas.Map.Steps.{length-le_from_distinct_below}
use Rattle.exchange.proofs.Cascade.{half_again}
use Rattle.std.proofs.lemmas.Bool.{cases_lt}

-- ---- entries made from documents

pub docs_of_entries : (side : Side) (table : Counted) (rows : List (List ℕ)) (docs : List ℕ) → docs_of (map (entry_of side table rows) docs) ≡ docs
docs_of_entries side table rows [] = refl
docs_of_entries side table rows (doc ∷ docs) = ap (λ (xs : List ℕ). doc ∷ xs) (docs_of_entries side table rows docs)

pub gains_of_entries : (side : Side) (table : Counted) (rows : List (List ℕ)) (docs : List ℕ) → All (HasGain side table rows) (map (entry_of side table rows) docs)
gains_of_entries side table rows docs = All-map (HasGain side table rows) (entry_of side table rows) docs (λ k d within. refl)

-- ---- the gain by a loaded table is that of the halves

gain_at_A : (forward : ForwardIndex) (a b : List ℕ) (loads p : ℕ) → IsForward forward → p < length forward.rows → gain_of A (loaded forward a b loads) (row_at forward.rows p) ≡ gain forward a b p
gain_at_A forward a b loads p sound within =
    let row = row_at forward.rows p in
    let is = row_is forward p sound within in
    total_by-same (λ t. term_gain (length a) (length b) (get_or (degrees_of forward a) t 0) (get_or (degrees_of forward b) t 0)) (λ t. term_gain (length a) (length b) (degree forward a t) (degree forward b t)) row
    (λ k d in_row.
    let t = get_or row k d in
    let low = is.below k d in_row in
    ap (λ (n : ℕ). term_gain (length a) (length b) n (get_or (degrees_of forward b) t 0)) (made_at (degree forward a) forward.terms t low)
    ∙ ap (λ (n : ℕ). term_gain (length a) (length b) (degree forward a t) n) (made_at (degree forward b) forward.terms t low))

gain_at_B : (forward : ForwardIndex) (a b : List ℕ) (loads p : ℕ) → IsForward forward → p < length forward.rows → gain_of B (loaded forward a b loads) (row_at forward.rows p) ≡ gain forward b a p
gain_at_B forward a b loads p sound within =
    let row = row_at forward.rows p in
    let is = row_is forward p sound within in
    total_by-same (λ t. term_gain (length b) (length a) (get_or (degrees_of forward b) t 0) (get_or (degrees_of forward a) t 0)) (λ t. term_gain (length b) (length a) (degree forward b t) (degree forward a t)) row
    (λ k d in_row.
    let t = get_or row k d in
    let low = is.below k d in_row in
    ap (λ (n : ℕ). term_gain (length b) (length a) n (get_or (degrees_of forward a) t 0)) (made_at (degree forward b) forward.terms t low)
    ∙ ap (λ (n : ℕ). term_gain (length b) (length a) (degree forward b t) n) (made_at (degree forward a) forward.terms t low))

-- each entry has the gain of its document by a function
abbrev pub HaveGains : (ℕ → ℤ) → List Entry → Type 0
HaveGains gains entries = All (λ entry. entry.gain ≡ gains entry.doc) entries

-- ---- ranked entries are a ranked half

ranks : (gains : ℕ → ℤ) (x y : Entry) → x.gain ≡ gains x.doc → y.gain ≡ gains y.doc → StandsBefore x y → RanksBefore gains x.doc y.doc
ranks gains x y is_x is_y (inl more) = inl (subst (λ (z : ℤ). z <ℤ gains x.doc) is_y (subst (λ (z : ℤ). y.gain <ℤ z) is_x more))
ranks gains x y is_x is_y (inr same) = inr (sym is_x ∙ same.0 ∙ is_y, same.1)

pub ranked_half : (gains : ℕ → ℤ) (half : List ℕ) (entries : List Entry) → IsPermutation half (docs_of entries) → HaveGains gains entries → AllPairs StandsBefore entries → IsRanked gains half (docs_of entries)
ranked_half gains half entries same have ranked = record {
  documents = same;
  before = λ i j d order within.
      let in_j : j < length entries = omega (arith, within, length-map entries (λ (entry : Entry). entry.doc)) in
      let in_i : i < length entries = omega (arith, order, in_j) in
      let first = ranks gains (get_or entries i no_entry) (get_or entries j no_entry) (have i no_entry in_i) (have j no_entry in_j) (ranked i j no_entry order in_j) in
      subst (λ (u : ℕ). RanksBefore gains u (get_or (docs_of entries) j d)) (sym (doc_at entries i d no_entry in_i))
      (subst (λ (v : ℕ). RanksBefore gains (get_or entries i no_entry).doc v) (sym (doc_at entries j d no_entry in_j)) first);
}

-- ---- the pairs

same_front : (f g : ℕ → ℤ) (xs ys : List Entry) → HaveGains f xs → HaveGains g ys → gaining xs ys ≡ prefix_len (λ pair. int_lt (pos 0) (f pair.0 +ℤ g pair.1)) (zip (docs_of xs) (docs_of ys))
same_front f g [] ys have_x have_y = refl
same_front f g (x ∷ xs) [] have_x have_y = refl
same_front f g (x ∷ xs) (y ∷ ys) have_x have_y =
    let is_x = All-head (λ entry. entry.gain ≡ f entry.doc) x xs have_x in
    let is_y = All-head (λ entry. entry.gain ≡ g entry.doc) y ys have_y in
    let rest = same_front f g xs ys (All-tail (λ entry. entry.gain ≡ f entry.doc) x xs have_x) (All-tail (λ entry. entry.gain ≡ g entry.doc) y ys have_y) in
    ap (λ (n : ℕ). cond (int_lt (pos 0) (x.gain +ℤ y.gain)) (1 + n) 0) rest
    ∙ ap (λ (z : ℤ). cond (int_lt (pos 0) (z +ℤ y.gain)) (1 + prefix_len (λ (pair : ℕ × ℕ). int_lt (pos 0) (f pair.0 +ℤ g pair.1)) (zip (docs_of xs) (docs_of ys))) 0) is_x
    ∙ ap (λ (z : ℤ). cond (int_lt (pos 0) (f x.doc +ℤ z)) (1 + prefix_len (λ (pair : ℕ × ℕ). int_lt (pos 0) (f pair.0 +ℤ g pair.1)) (zip (docs_of xs) (docs_of ys))) 0) is_y

zero_is : (n : ℕ) → n ≤ 0 → n ≡ 0
zero_is n low = omega arith

same_is : (m n : ℕ) → m ≤ n → n ≤ m → m ≡ n
same_is m n low high = omega arith

pub same_tables : (a x b y : List ℕ) (m m_new n n_new loads : ℕ) → a ≡ x → b ≡ y → m ≡ m_new → n ≡ n_new
    → (let t : Counted = record { a = a; b = b; len_a = m; len_b = n; loads = loads } in t) ≡ (let t : Counted = record { a = x; b = y; len_a = m_new; len_b = n_new; loads = loads } in t)
same_tables a x b y m m_new n n_new loads same_a same_b same_m same_n = cc

-- a later try has no more pairs
fewer_later : (k n number : ℕ) → n ≤ number → k / 2 ^ number ≤ k / 2 ^ n
fewer_later k n zero order = omega (arith, ap (λ (e : ℕ). k / 2 ^ e) (zero_is n (omega (arith, order))))
fewer_later k n (suc number) order =
    elim (cases_lt n (suc number)) [
      | inl early ↦
          let rest = fewer_later k n number (omega (arith, early)) in
          let half : k / 2 ^ suc number ≡ k / 2 ^ number / 2 = sym (half_again k number ∙ ap (λ (e : ℕ). k / 2 ^ e) (omega arith)) in
          omega (arith, rest, half)
      | inr late ↦ omega (arith, ap (λ (e : ℕ). k / 2 ^ e) (same_is n (suc number) order late))
    ]

-- the pairs that gain something
abbrev pub front_pairs : List Entry → List Entry → List (ℕ × ℕ)
front_pairs xs ys = take (gaining xs ys) (zip (docs_of xs) (docs_of ys))

pub gaining_within : (xs ys : List Entry) → (gaining xs ys ≤ length (docs_of xs)) × (gaining xs ys ≤ length (docs_of ys))
gaining_within xs ys =
    let low = prefix_len-le-length (λ (pair : Entry × Entry). int_lt (pos 0) (pair.0.gain +ℤ pair.1.gain)) (zip xs ys) in
    (omega (arith, low, length-zip xs ys, length-map xs (λ (entry : Entry). entry.doc)), omega (arith, low, length-zip xs ys, length-map ys (λ (entry : Entry). entry.doc)))

pub length_pairs : (xs ys : List Entry) → length (front_pairs xs ys) ≡ gaining xs ys
length_pairs xs ys = omega (arith, length-take (gaining xs ys) (zip (docs_of xs) (docs_of ys)), length-zip (docs_of xs) (docs_of ys), (gaining_within xs ys).0, (gaining_within xs ys).1)

-- both halves of a loaded table, ranked
pub record AreRanked (forward : ForwardIndex) (a b : List ℕ) (loads : ℕ) (xs ys : List Entry) : Type 0 where
  pub sound : IsForward forward
  pub numbers : AreNumbers (length forward.rows) (a ++ b)
  pub docs_a : IsPermutation a (docs_of xs)
  pub docs_b : IsPermutation b (docs_of ys)
  pub gains_a : All (HasGain A (loaded forward a b loads) forward.rows) xs
  pub gains_b : All (HasGain B (loaded forward a b loads) forward.rows) ys
  pub ranked_a : AllPairs StandsBefore xs
  pub ranked_b : AllPairs StandsBefore ys

pub below_left : (n : ℕ) (a b : List ℕ) → All (λ p. p < n) (a ++ b) → All (λ p. p < n) a
below_left n a b all k d within = omega (arith, all k d (omega (arith, length-append a b)), get_or_append_left a b d k within)

pub below_right : (n : ℕ) (a b : List ℕ) → All (λ p. p < n) (a ++ b) → All (λ p. p < n) b
below_right n a b all k d within = omega (arith, all (length a + k) d (omega (arith, length-append a b)), get_or-append-add a b k d)

module _ (forward : ForwardIndex) (a b : List ℕ) (loads : ℕ) (xs ys : List Entry) (is : AreRanked forward a b loads xs ys) where
  low_x : All (λ p. p < length forward.rows) (docs_of xs)
  low_x = All-permutation (λ p. p < length forward.rows) a (docs_of xs) is.docs_a (below_left (length forward.rows) a b is.numbers.below)

  low_y : All (λ p. p < length forward.rows) (docs_of ys)
  low_y = All-permutation (λ p. p < length forward.rows) b (docs_of ys) is.docs_b (below_right (length forward.rows) a b is.numbers.below)

  have_a : HaveGains (gain forward a b) xs
  have_a k d within =
      let doc = doc_at xs k 0 d within in
      is.gains_a k d within ∙ gain_at_A forward a b loads (get_or xs k d).doc is.sound (omega (arith, doc, low_x k 0 (omega (arith, within, length-map xs (λ (entry : Entry). entry.doc)))))

  have_b : HaveGains (gain forward b a) ys
  have_b k d within =
      let doc = doc_at ys k 0 d within in
      is.gains_b k d within ∙ gain_at_B forward a b loads (get_or ys k d).doc is.sound (omega (arith, doc, low_y k 0 (omega (arith, within, length-map ys (λ (entry : Entry). entry.doc)))))

  pub are_pairs : ArePairs forward a b (front_pairs xs ys)
  are_pairs = record {
    ranked_a = docs_of xs;
    ranked_b = docs_of ys;
    is_a = ranked_half (gain forward a b) a xs is.docs_a have_a is.ranked_a;
    is_b = ranked_half (gain forward b a) b ys is.docs_b have_b is.ranked_b;
    longest = ap (λ (n : ℕ). take n (zip (docs_of xs) (docs_of ys))) (same_front (gain forward a b) (gain forward b a) xs ys have_a have_b);
  }

  pub all_differ : Differ (docs_of xs ++ docs_of ys)
  all_differ = Differ-permutation (a ++ b) (docs_of xs ++ docs_of ys) (IsPermutation-append a (docs_of xs) b (docs_of ys) is.docs_a is.docs_b) is.numbers.different

  pub all_differ_back : Differ (docs_of ys ++ docs_of xs)
  all_differ_back = Differ-permutation (docs_of xs ++ docs_of ys) (docs_of ys ++ docs_of xs) (IsPermutation-append_comm (docs_of xs) (docs_of ys)) all_differ

  -- ---- a try

  try_pairs : (number : ℕ) → pairs_of_try (front_pairs xs ys) number ≡ gaining xs ys / 2 ^ number
  try_pairs number = ap (λ (n : ℕ). n / 2 ^ number) (length_pairs xs ys)

  fewer : (number : ℕ) → gaining xs ys / 2 ^ number ≤ gaining xs ys
  fewer number = div-le_self (gaining xs ys) (2 ^ number)

  pub try_permutations : (number : ℕ) (x y : List ℕ) → IsTry (front_pairs xs ys) a b number x y
      → IsPermutation (half_after (gaining xs ys / 2 ^ number) (docs_of xs) (docs_of ys)) x × IsPermutation (half_after (gaining xs ys / 2 ^ number) (docs_of ys) (docs_of xs)) y
  try_permutations number x y is_try =
      let k = gaining xs ys in
      let m = k / 2 ^ number in
      let exchanged : AreExchanged (take m (front_pairs xs ys)) a b x y = subst (λ (n : ℕ). AreExchanged (take n (front_pairs xs ys)) a b x y) (try_pairs number) is_try.exchanged in
      let within = gaining_within xs ys in (
        permutation_from_half m a (docs_of xs) (docs_of ys) x is.docs_a all_differ (half_a_from_exchanged k m (docs_of xs) (docs_of ys) (fewer number) within.0 within.1 a b x y exchanged),
        permutation_from_half m b (docs_of ys) (docs_of xs) y is.docs_b all_differ_back (half_b_from_exchanged k m (docs_of xs) (docs_of ys) (fewer number) within.0 within.1 a b x y exchanged),
      )

  -- halves in whatever order cost the same
  pub cost_of_halves : (m : ℕ) (x y : List ℕ) → m ≤ gaining xs ys → IsPermutation (half_after m (docs_of xs) (docs_of ys)) x → IsPermutation (half_after m (docs_of ys) (docs_of xs)) y
      → cost_tried forward (docs_of xs) (docs_of ys) m ≡ cost forward x y
  cost_of_halves m x y low to_x to_y =
      let within = gaining_within xs ys in
      cost-counted forward (half_after m (docs_of xs) (docs_of ys)) (half_after m (docs_of ys) (docs_of xs)) x y (length (docs_of xs)) (length (docs_of ys)) 0
      (omega (arith, length_permutation (half_after m (docs_of xs) (docs_of ys)) x to_x, length_after m (docs_of xs) (docs_of ys) (omega (arith, within.0)) (omega (arith, within.1))))
      (omega (arith, length_permutation (half_after m (docs_of ys) (docs_of xs)) y to_y, length_after m (docs_of ys) (docs_of xs) (omega (arith, within.1)) (omega (arith, within.0))))
      (λ t. sym (degree-permutation forward (half_after m (docs_of xs) (docs_of ys)) x t to_x))
      (λ t. sym (degree-permutation forward (half_after m (docs_of ys) (docs_of xs)) y t to_y))

  pub try_cost : (number : ℕ) (x y : List ℕ) → IsTry (front_pairs xs ys) a b number x y → cost_tried forward (docs_of xs) (docs_of ys) (gaining xs ys / 2 ^ number) ≡ cost forward x y
  try_cost number x y is_try =
      let both = try_permutations number x y is_try in
      cost_of_halves (gaining xs ys / 2 ^ number) x y (fewer number) both.0 both.1

  pub none_before : (before : ℤ) (number : ℕ) → before ≡ cost forward a b → NoneLess forward (docs_of xs) (docs_of ys) (gaining xs ys) before number → NoneBefore forward (front_pairs xs ys) a b number
  none_before before number before_is none try x y lt is_try =
      subst (λ (z : ℤ). cost forward a b ≤ℤ z) (try_cost try x y is_try) (subst (λ (z : ℤ). z ≤ℤ cost_tried forward (docs_of xs) (docs_of ys) (gaining xs ys / 2 ^ try)) before_is (none try lt))

  -- ---- the table and the halves after so many pairs

  pub loaded_after : (m : ℕ) (x y : List ℕ) → m ≤ gaining xs ys → IsPermutation (half_after m (docs_of xs) (docs_of ys)) x → IsPermutation (half_after m (docs_of ys) (docs_of xs)) y
      → tried forward (docs_of xs) (docs_of ys) m loads ≡ loaded forward x y loads
  loaded_after m x y low to_x to_y =
      let within = gaining_within xs ys in
      let len_x : length (docs_of xs) ≡ length x = omega (arith, length_permutation (half_after m (docs_of xs) (docs_of ys)) x to_x, length_after m (docs_of xs) (docs_of ys) (omega (arith, within.0)) (omega (arith, within.1))) in
      let len_y : length (docs_of ys) ≡ length y = omega (arith, length_permutation (half_after m (docs_of ys) (docs_of xs)) y to_y, length_after m (docs_of ys) (docs_of xs) (omega (arith, within.1)) (omega (arith, within.0))) in
      same_tables (degrees_of forward (half_after m (docs_of xs) (docs_of ys))) (degrees_of forward x) (degrees_of forward (half_after m (docs_of ys) (docs_of xs))) (degrees_of forward y) (length (docs_of xs)) (length x) (length (docs_of ys)) (length y) loads
      (degrees_of-same forward (half_after m (docs_of xs) (docs_of ys)) x (λ t. sym (degree-permutation forward (half_after m (docs_of xs) (docs_of ys)) x t to_x)))
      (degrees_of-same forward (half_after m (docs_of ys) (docs_of xs)) y (λ t. sym (degree-permutation forward (half_after m (docs_of ys) (docs_of xs)) y t to_y)))
      len_x len_y

  -- ---- outcomes

  pub kept : (before : ℤ) (last : Tried) (x y : List ℕ) (record_ : Kept) → before ≡ cost forward a b → IsFirstLess forward (docs_of xs) (docs_of ys) (gaining xs ys) before last → 0 < last.pairs
      → IsPermutation (half_after last.pairs (docs_of xs) (docs_of ys)) x → IsStrictlyIncreasing x → IsPermutation (half_after last.pairs (docs_of ys) (docs_of xs)) y → IsStrictlyIncreasing y
      → record_.before ≡ before → record_.after ≡ last.after → record_.pairs ≡ last.pairs → IsKept forward a b record_ x y
  kept before last x y record_ before_is first some to_x x_rises to_y y_rises record_before record_after record_pairs =
      let k = gaining xs ys in
      let m = k / 2 ^ first.number in
      let within = gaining_within xs ys in
      let at_x : IsPermutation (half_after m (docs_of xs) (docs_of ys)) x = subst (λ (n : ℕ). IsPermutation (half_after n (docs_of xs) (docs_of ys)) x) first.is_pairs to_x in
      let at_y : IsPermutation (half_after m (docs_of ys) (docs_of xs)) y = subst (λ (n : ℕ). IsPermutation (half_after n (docs_of ys) (docs_of xs)) y) first.is_pairs to_y in
      let exchanged = exchanged_from_halves k m (docs_of xs) (docs_of ys) (fewer first.number) within.0 within.1 a b x y
      (half_from_permutation m a (docs_of xs) (docs_of ys) x is.docs_a all_differ at_x x_rises)
      (half_from_permutation m b (docs_of ys) (docs_of xs) y is.docs_b all_differ_back at_y y_rises) in
      let after = record_after ∙ first.after ∙ ap (λ (n : ℕ). cost_tried forward (docs_of xs) (docs_of ys) n) first.is_pairs ∙ cost_of_halves m x y (fewer first.number) at_x at_y in
      record {
        exchanged = front_pairs xs ys;
        are_pairs = are_pairs;
        number = first.number;
        is_try = record {
          some = omega (arith, some, first.is_pairs, try_pairs first.number);
          exchanged = subst (λ (n : ℕ). AreExchanged (take n (front_pairs xs ys)) a b x y) (sym (try_pairs first.number)) exchanged;
        };
        none_before = none_before before first.number before_is first.none_before;
        before = record_before ∙ before_is;
        after = after;
        less = subst (λ (z : ℤ). z <ℤ record_.before) (sym record_after) (subst (λ (z : ℤ). last.after <ℤ z) (sym record_before) (first.less some));
        pairs = record_pairs ∙ first.is_pairs ∙ sym (try_pairs first.number);
      }

  no_more : (n number : ℕ) → gaining xs ys / 2 ^ n ≡ 0 → n ≤ number → gaining xs ys / 2 ^ number ≡ 0
  no_more n number none order = omega (arith, none, fewer_later (gaining xs ys) n number order)

  pub refused : (before : ℤ) (last : Tried) (record_ : Kept) → before ≡ cost forward a b → IsFirstLess forward (docs_of xs) (docs_of ys) (gaining xs ys) before last → 0 < gaining xs ys → last.pairs ≡ 0
      → record_.before ≡ before → record_.after ≡ last.first → record_.pairs ≡ gaining xs ys → IsRefused forward a b record_
  refused before last record_ before_is first some none record_before record_after record_pairs = record {
    exchanged = front_pairs xs ys;
    are_pairs = are_pairs;
    some = omega (arith, some, length_pairs xs ys);
    none = λ number try x y lt is_try.
        elim (cases_lt try first.number) [
          | inl early ↦ none_before before first.number before_is first.none_before try x y early is_try
          | inr late ↦ absurd (omega (arith, is_try.some, try_pairs try, no_more first.number try (sym first.is_pairs ∙ none) late))
        ];
    before = record_before ∙ before_is;
    after = λ x y is_try. record_after ∙ first.first ∙ ap (λ (n : ℕ). cost_tried forward (docs_of xs) (docs_of ys) n) (sym (div-one (gaining xs ys))) ∙ try_cost 0 x y is_try;
    pairs = record_pairs ∙ sym (length_pairs xs ys);
  }

-- ---- a loaded table

counted_one : (forward : ForwardIndex) (half : List ℕ) (k d j e : ℕ) → k < length half → j < length (row_at forward.rows (get_or half k d)) → 0 < degree forward half (get_or (row_at forward.rows (get_or half k d)) j e)
counted_one forward half k d j e within in_row =
    let doc = get_or half k d in
    let t = get_or (row_at forward.rows doc) j e in
    let more = degree_more forward half k doc t within (get_or_default half k d 0 within) in
    let has = ap {B = ℕ} (λ (b : Bool). cond b 1 0) (has_own (row_at forward.rows doc) j e in_row) in
    omega (arith, more, has, degree_front forward half (k + 1) t)

pub loaded_counted_A : (forward : ForwardIndex) (a b : List ℕ) (loads : ℕ) → IsForward forward → All (λ doc. doc < length forward.rows) a → All (λ doc. IsCountedIn A (row_at forward.rows doc) (loaded forward a b loads)) a
loaded_counted_A forward a b loads sound below k d within j e in_row =
    let is = row_is forward (get_or a k d) sound (below k d within) in
    omega (arith, made_at (degree forward a) forward.terms (get_or (row_at forward.rows (get_or a k d)) j e) (is.below j e in_row), counted_one forward a k d j e within in_row)

pub loaded_counted_B : (forward : ForwardIndex) (a b : List ℕ) (loads : ℕ) → IsForward forward → All (λ doc. doc < length forward.rows) b → All (λ doc. IsCountedIn B (row_at forward.rows doc) (loaded forward a b loads)) b
loaded_counted_B forward a b loads sound below k d within j e in_row =
    let is = row_is forward (get_or b k d) sound (below k d within) in
    omega (arith, made_at (degree forward b) forward.terms (get_or (row_at forward.rows (get_or b k d)) j e) (is.below j e in_row), counted_one forward b k d j e within in_row)

pub few_numbers : (n : ℕ) (xs : List ℕ) → AreNumbers n xs → length xs ≤ n
few_numbers n xs are =
    length-le_from_distinct_below xs n (IsDistinct-from_AllPairs {eq = ◌==◌} Decides-eqb xs are.different)
    (λ q found.
    let at = Any-from_list_any (λ (x : ℕ). q == x) xs found in
    omega (arith, eqb-true q at.1 at.4, at.3, are.below at.0 at.1 at.2))

pub loaded_ready : (top : ℕ) (forward : ForwardIndex) (a b : List ℕ) (loads : ℕ) → AreNumbers (length forward.rows) (a ++ b) → length forward.rows < top → 0 < length a → 0 < length b → IsReady top (loaded forward a b loads)
loaded_ready top forward a b loads are low some_a some_b =
    let few = few_numbers (length forward.rows) (a ++ b) are in
    let len = length-append a b in
    record {
      some_a = some_a;
      some_b = some_b;
      low_a = omega (arith, few, len, low);
      low_b = omega (arith, few, len, low);
      both = λ t within.
          let in_terms : t < forward.terms = omega (arith, within, length-map-range_with_len (degree forward a) 0 forward.terms) in
          omega (
            arith,
            few,
            len,
            low,
            made_at (degree forward a) forward.terms t in_terms,
            made_at (degree forward b) forward.terms t in_terms,
            count_by-le-length (λ (place : ℕ). has_term (row_at forward.rows place) t) a,
            count_by-le-length (λ (place : ℕ). has_term (row_at forward.rows place) t) b,
          );
    }

pub loaded_terms : (forward : ForwardIndex) (a b : List ℕ) (loads : ℕ) → length (loaded forward a b loads).a ≡ forward.terms
loaded_terms forward a b loads = length-map-range_with_len (degree forward a) 0 forward.terms

pub loaded_cost : (forward : ForwardIndex) (a b : List ℕ) (loads : ℕ) → cost_of (loaded forward a b loads) ≡ cost forward a b
loaded_cost forward a b loads = cost-counted forward a b a b (length a) (length b) loads refl refl (λ t. refl) (λ t. refl)

pub docs_below : (n : ℕ) (half : List ℕ) (entries : List Entry) → IsPermutation half (docs_of entries) → All (λ p. p < n) half → All (λ entry. entry.doc < n) entries
docs_below n half entries same below k d within =
    let all = All-permutation (λ p. p < n) half (docs_of entries) same below in
    omega (arith, doc_at entries k 0 d within, all k 0 (omega (arith, within, length-map entries (λ (entry : Entry). entry.doc))))

pub AreRanked-from : (forward : ForwardIndex) (a b : List ℕ) (loads : ℕ) (table : Counted) (xs ys : List Entry) → IsForward forward → AreNumbers (length forward.rows) (a ++ b) → table ≡ loaded forward a b loads
    → IsPermutation a (docs_of xs) → IsPermutation b (docs_of ys) → All (HasGain A table forward.rows) xs → All (HasGain B table forward.rows) ys → AllPairs StandsBefore xs → AllPairs StandsBefore ys → AreRanked forward a b loads xs ys
AreRanked-from forward a b loads table xs ys sound numbers is docs_a docs_b gains_a gains_b ranked_a ranked_b = record {
  sound = sound;
  numbers = numbers;
  docs_a = docs_a;
  docs_b = docs_b;
  gains_a = subst (λ (t : Counted). All (HasGain A t forward.rows) xs) is gains_a;
  gains_b = subst (λ (t : Counted). All (HasGain B t forward.rows) ys) is gains_b;
  ranked_a = ranked_a;
  ranked_b = ranked_b;
}

pub loaded_tried : (forward : ForwardIndex) (a b : List ℕ) (loads : ℕ) (table : Counted) (xs ys : List Entry) → AreRanked forward a b loads xs ys → table ≡ loaded forward a b loads → table ≡ tried forward (docs_of xs) (docs_of ys) 0 loads
loaded_tried forward a b loads table xs ys are is =
    is ∙ sym (loaded_after forward a b loads xs ys are 0 a b (omega arith) (IsPermutation-sym a (docs_of xs) are.docs_a) (IsPermutation-sym b (docs_of ys) are.docs_b))

pub no_pairs : (forward : ForwardIndex) (a b : List ℕ) (loads : ℕ) (xs ys : List Entry) → AreRanked forward a b loads xs ys → gaining xs ys ≡ 0 → ArePairs forward a b []
no_pairs forward a b loads xs ys are none =
    subst (ArePairs forward a b) (ap (λ (n : ℕ). take n (zip (docs_of xs) (docs_of ys))) none) (are_pairs forward a b loads xs ys are)

pub both_permuted : (m : ℕ) (a b xs ys x y : List ℕ) → IsPermutation a xs → IsPermutation b ys → IsPermutation (half_after m xs ys) x → IsPermutation (half_after m ys xs) y → IsPermutation (a ++ b) (x ++ y)
both_permuted m a b xs ys x y to_xs to_ys to_x to_y =
    IsPermutation-trans (a ++ b) (xs ++ ys) (x ++ y) (IsPermutation-append a xs b ys to_xs to_ys)
    (IsPermutation-trans (xs ++ ys) (half_after m xs ys ++ half_after m ys xs) (x ++ y) (both_after m xs ys) (IsPermutation-append (half_after m xs ys) x (half_after m ys xs) y to_x to_y))
