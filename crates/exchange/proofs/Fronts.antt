-- Halves of which a front is ranked, and the same halves ranked as a whole.
use Rattle.std.proofs.Common.{Less, Equal, Greater, ◌≡◌, ◌≢◌, ◌⊎◌, ℕ, zero, suc, ◌-◌, ◌/◌, ◌^◌, ◌<◌, ◌≤◌, ℤ, pos, ◌+ℤ◌, ◌<ℤ◌, ◌≤ℤ◌, List, [], ◌∷◌, ◌++◌, length, get_or, take, drop, refl, sym, subst, ap, ◌∙◌, All, inl, inr, arith}
use Rattle.std.specs.List.{AllPairs}
use Rattle.std.specs.List.Sorted.{IsPermutation}
use Rattle.std.specs.declared.cmp.Ordering.{Ordering}
use Rattle.std.specs.Ordering.{nat_cmp, int_cmp}
use Rattle.std.proofs.lemmas.Bool.{cases_lt}
use Rattle.std.proofs.lemmas.Cmp.{ranked, int_ranked}
use Rattle.std.proofs.lemmas.Int.{ints}
use Rattle.std.proofs.lemmas.List.{length-append, length-take, length-drop, length-map, take-map, drop-map, take-append-drop, take-append-le, drop-append-le, get_or_append_left, get_or-append-add, get_or-drop}
use Rattle.std.proofs.lemmas.List.Elements.{All-head, All-tail, All-cons, All-append}
use Rattle.std.proofs.lemmas.List.Kept.{AllPairs-cons}
use Rattle.std.proofs.lemmas.List.Sorted.{IsPermutation-refl, IsPermutation-sym, IsPermutation-trans, IsPermutation-cons, IsPermutation-append_comm, IsPermutation-append_left, IsPermutation-append_right, IsPermutation-map, length_permutation, All-permutation}
use Rattle.exchange.specs.declared.entry.Entry.{Entry}
use Rattle.std.proofs.Math.Nat.{div-le_self}
use Rattle.rgb_base.specs.declared.parts.Side.TheVariants.{A, B}
use Rattle.rgb_base.specs.Order.{AreNumbers}
use Rattle.forward_index.specs.Forward.{ForwardIndex, IsForward}
use Rattle.degrees.specs.Counts.{Counted, loaded, cost_of, degrees_of}
use Rattle.exchange.specs.declared.tries.Tried.{Tried}
use Rattle.exchange.proofs.Moved.{degree-permutation, degrees_of-same}
use Rattle.exchange.proofs.Outcome.{AreRanked, AreRanked-from, same_tables}
use Rattle.exchange.specs.Tries.{docs_of, no_entry, HasGain, half_after, tried, cost_tried, IsFirstLess, StandsBefore, IsParted, ArePassed, IsRankedTo, HavePairs}
use Rattle.exchange.proofs.Exchanged.{Differ}
use Rattle.exchange.proofs.Ranked.{doc_at, gaining_is}

-- ---- of two entries one stands before the other

either : (x y : Entry) (r s : Ordering) → r ≡ int_cmp x.gain y.gain → s ≡ nat_cmp x.doc y.doc → x.doc ≢ y.doc → StandsBefore x y ⊎ StandsBefore y x
either x y Less s is_r is_s apart = inr (inl (int_ranked x.gain y.gain Less is_r))
either x y Equal Less is_r is_s apart = inl (inr (int_ranked x.gain y.gain Equal is_r, ranked x.doc y.doc Less is_s))
either x y Equal Equal is_r is_s apart = absurd (apart (ranked x.doc y.doc Equal is_s))
either x y Equal Greater is_r is_s apart = inr (inr (sym (int_ranked x.gain y.gain Equal is_r), ranked x.doc y.doc Greater is_s))
either x y Greater s is_r is_s apart = inl (inl (int_ranked x.gain y.gain Greater is_r))

then : (x y z : Entry) → StandsBefore x y → StandsBefore y z → StandsBefore x z
then x y z (inl one) (inl two) = inl (omega (arith, ints, one, two))
then x y z (inl one) (inr two) = inl (omega (arith, ints, one, two.0))
then x y z (inr one) (inl two) = inl (omega (arith, ints, one.0, two))
then x y z (inr one) (inr two) = inr (one.0 ∙ two.0, omega (arith, one.1, two.1))

-- ---- each list has a ranked one

later : (x : Entry) (xs : List Entry) → AllPairs StandsBefore (x ∷ xs) → All (StandsBefore x) xs
later x xs all k d within = all 0 (suc k) d (omega arith) (omega (arith, within))

rest_of : (x : Entry) (xs : List Entry) → AllPairs StandsBefore (x ∷ xs) → AllPairs StandsBefore xs
rest_of x xs all i j d order within = all (suc i) (suc j) d (omega (arith, order)) (omega (arith, within))

pub pairs_append : (xs ys : List Entry) → AllPairs StandsBefore xs → AllPairs StandsBefore ys → All (λ x. All (StandsBefore x) ys) xs → AllPairs StandsBefore (xs ++ ys)
pairs_append [] ys one two across = two
pairs_append (x ∷ xs) ys one two across =
    AllPairs-cons StandsBefore x (xs ++ ys) (All-append (StandsBefore x) xs ys (later x xs one) (All-head (λ y. All (StandsBefore y) ys) x xs across)) (pairs_append xs ys (rest_of x xs one) two (All-tail (λ y. All (StandsBefore y) ys) x xs across))

exchanged_heads : (x y : Entry) (ys : List Entry) → IsPermutation (x ∷ y ∷ ys) (y ∷ x ∷ ys)
exchanged_heads x y ys = IsPermutation-append_left ys (x ∷ y ∷ []) (y ∷ x ∷ []) (IsPermutation-append_comm (x ∷ []) (y ∷ []))

inserted : (x : Entry) (ys : List Entry) → All (λ y. x.doc ≢ y.doc) ys → AllPairs StandsBefore ys → (zs : List Entry) × IsPermutation (x ∷ ys) zs × AllPairs StandsBefore zs
inserted x [] apart ranked = (x ∷ [], IsPermutation-refl (x ∷ []), AllPairs-cons StandsBefore x [] (λ k d within. absurd (omega (arith, within))) ranked)
inserted x (y ∷ ys) apart ranked =
    elim (either x y (int_cmp x.gain y.gain) (nat_cmp x.doc y.doc) refl refl (All-head (λ z. x.doc ≢ z.doc) y ys apart)) [
      | inl before ↦
          let behind : All (StandsBefore x) ys = λ k d within. then x y (get_or ys k d) before (later y ys ranked k d within) in
          (x ∷ y ∷ ys, IsPermutation-refl (x ∷ y ∷ ys), AllPairs-cons StandsBefore x (y ∷ ys) (All-cons (StandsBefore x) y ys before behind) ranked)
      | inr after ↦
          let put = inserted x ys (All-tail (λ z. x.doc ≢ z.doc) y ys apart) (rest_of y ys ranked) in
          let behind = All-permutation (StandsBefore y) (x ∷ ys) put.0 put.1 (All-cons (StandsBefore y) x ys after (later y ys ranked)) in
          (y ∷ put.0, IsPermutation-trans (x ∷ y ∷ ys) (y ∷ x ∷ ys) (y ∷ put.0) (exchanged_heads x y ys) (IsPermutation-cons y (x ∷ ys) put.0 put.1), AllPairs-cons StandsBefore y put.0 behind put.2)
    ]

apart_from : (x : Entry) (xs : List Entry) → Differ (docs_of (x ∷ xs)) → All (λ y. x.doc ≢ y.doc) xs
apart_from x xs differ k d within same =
    differ 0 (suc k) 0 (omega arith) (omega (arith, within, length-map xs (λ (entry : Entry). entry.doc))) (same ∙ sym (doc_at xs k 0 d within))

apart_behind : (x : Entry) (xs : List Entry) → Differ (docs_of (x ∷ xs)) → Differ (docs_of xs)
apart_behind x xs differ i j d order within = differ (suc i) (suc j) d (omega (arith, order)) (omega (arith, within))

pub in_order : (xs : List Entry) → Differ (docs_of xs) → (zs : List Entry) × IsPermutation xs zs × AllPairs StandsBefore zs
in_order [] differ = ([], IsPermutation-refl [], λ i j d order within. absurd (omega (arith, order, within)))
in_order (x ∷ xs) differ =
    let rest = in_order xs (apart_behind x xs differ) in
    let put = inserted x rest.0 (All-permutation (λ y. x.doc ≢ y.doc) xs rest.0 rest.1 (apart_from x xs differ)) rest.2 in
    (put.0, IsPermutation-trans (x ∷ xs) (x ∷ rest.0) put.0 (IsPermutation-cons x xs rest.0 rest.1) put.1, put.2)

-- ---- a half whose front is ranked, with the rest of it ranked too

pub record IsWhole (front : ℕ) (other : ℤ) (xs whole : List Entry) : Type 0 where
  pub order : AllPairs StandsBefore whole
  pub same : IsPermutation xs whole
  pub as_far : (m : ℕ) → m ≤ front → take m xs ≡ take m whole
  pub behind : (m : ℕ) → m ≤ front → IsPermutation (drop m xs) (drop m whole)
  pub at : (k : ℕ) (d : Entry) → k < front → get_or whole k d ≡ get_or (take front xs) k d
  pub low : (k : ℕ) (d : Entry) → front ≤ k → k < length whole → ((get_or whole k d).gain +ℤ other) ≤ℤ pos 0

pub differ_drop : (f : ℕ) (xs : List Entry) → Differ (docs_of xs) → Differ (docs_of (drop f xs))
differ_drop zero xs differ = differ
differ_drop (suc f) [] differ = differ
differ_drop (suc f) (x ∷ xs) differ = differ_drop f xs (apart_behind x xs differ)

front_len : (f : ℕ) (xs : List Entry) → f ≤ length xs → length (take f xs) ≡ f
front_len f xs within = omega (arith, within, length-take f xs)

sum_falls : (x y : Entry) (other : ℤ) → pos 0 <ℤ (x.gain +ℤ other) → (y.gain +ℤ other) ≤ℤ pos 0 → StandsBefore x y
sum_falls x y other above low = inl (omega (arith, ints, above, low))

pub whole_of : (f : ℕ) (other : ℤ) (xs : List Entry) → Differ (docs_of xs) → IsParted f other xs → AllPairs StandsBefore (take f xs) → (whole : List Entry) × IsWhole f other xs whole
whole_of f other xs differ parted order =
    let front = take f xs in
    let back = drop f xs in
    let tail = in_order back (differ_drop f xs differ) in
    let len = front_len f xs parted.within in
    let low : All (λ y. (y.gain +ℤ other) ≤ℤ pos 0) tail.0 = All-permutation (λ y. (y.gain +ℤ other) ≤ℤ pos 0) back tail.0 tail.1 parted.rest in
    let join : front ++ back ≡ xs = take-append-drop f xs in (
      front ++ tail.0,
      record {
        order = pairs_append front tail.0 order tail.2 (λ k d within j e inside. sum_falls (get_or front k d) (get_or tail.0 j e) other (parted.above k d within) (low j e inside));
        same = subst (λ (ys : List Entry). IsPermutation ys (front ++ tail.0)) join (IsPermutation-append_right front back tail.0 tail.1);
        as_far = λ m order. ap (take m) (sym join) ∙ take-append-le m front back (omega (arith, order, len)) ∙ sym (take-append-le m front tail.0 (omega (arith, order, len)));
        behind = λ m order.
            subst (λ (ys : List Entry). IsPermutation ys (drop m (front ++ tail.0))) (sym (drop-append-le m front back (omega (arith, order, len))) ∙ ap (drop m) join)
            (subst (IsPermutation (drop m front ++ back)) (sym (drop-append-le m front tail.0 (omega (arith, order, len)))) (IsPermutation-append_right (drop m front) back tail.0 tail.1));
        at = λ k d below. get_or_append_left front tail.0 d k (omega (arith, below, len));
        low = λ k d behind within.
            let there = get_or-append-add front tail.0 (k - f) d in
            let is : get_or (front ++ tail.0) k d ≡ get_or tail.0 (k - f) d = ap (λ (n : ℕ). get_or (front ++ tail.0) n d) (omega (arith, behind, len)) ∙ there in
            subst (λ (e : Entry). (e.gain +ℤ other) ≤ℤ pos 0) (sym is) (low (k - f) d (omega (arith, behind, within, len, length-append front tail.0)));
      },
    )

-- ---- the pairs of both

-- no entry from a place on is above a gain, so that the one which is ranked there isn't
high_at : (u : ℤ) (k f : ℕ) (xs whole : List Entry) → f ≡ k → IsPermutation (drop k xs) (drop k whole) → All (λ e. e.gain ≤ℤ u) (drop f xs) → k < length whole → (get_or whole k no_entry).gain ≤ℤ u
high_at u k f xs whole is same high inside =
    let here = subst (λ (n : ℕ). All (λ e. e.gain ≤ℤ u) (drop n xs)) is high in
    let there = All-permutation (λ e. e.gain ≤ℤ u) (drop k xs) (drop k whole) same here in
    let first = get_or-drop k whole 0 no_entry in
    let low = there 0 no_entry (omega (arith, inside, length-drop k whole)) in
    subst (λ (e : Entry). e.gain ≤ℤ u) (first ∙ ap (λ (n : ℕ). get_or whole n no_entry) (omega arith)) low

pub pairs_of : (fa fb pairs : ℕ) (u v : ℤ) (xs ys : List Entry) → Differ (docs_of xs) → Differ (docs_of ys) → All (λ x. x.gain ≤ℤ v) (drop fb xs) → All (λ y. y.gain ≤ℤ u) (drop fa ys)
    → IsParted fa u xs → IsParted fb v ys → AllPairs StandsBefore (take fa xs) → AllPairs StandsBefore (take fb ys) → ArePassed pairs (take fa xs) (take fb ys) → HavePairs pairs xs ys
pairs_of fa fb pairs u v xs ys differ_x differ_y high_x high_y parted_x parted_y order_x order_y passed =
    let x = whole_of fa u xs differ_x parted_x order_x in
    let y = whole_of fb v ys differ_y parted_y order_y in
    let len_x = front_len fa xs parted_x.within in
    let len_y = front_len fb ys parted_y.within in
    let all_x = length_permutation xs x.0 x.1.same in
    let all_y = length_permutation ys y.0 y.1.same in
    let in_x : pairs ≤ length xs = omega (arith, passed.within_a, len_x, parted_x.within) in
    let in_y : pairs ≤ length ys = omega (arith, passed.within_b, len_y, parted_y.within) in
    record {
      within_a = in_x;
      within_b = in_y;
      ranked_a = x.0;
      ranked_b = y.0;
      is_a = record {
        order = x.1.order;
        front = λ m low. x.1.as_far m (omega (arith, low, passed.within_a, len_x));
        rest = λ m low. x.1.behind m (omega (arith, low, passed.within_a, len_x));
      };
      is_b = record {
        order = y.1.order;
        front = λ m low. y.1.as_far m (omega (arith, low, passed.within_b, len_y));
        rest = λ m low. y.1.behind m (omega (arith, low, passed.within_b, len_y));
      };
      gaining = gaining_is x.0 y.0 pairs (omega (arith, in_x, all_x)) (omega (arith, in_y, all_y))
          (λ k below.
          let at_x = ap (λ (e : Entry). e.gain) (x.1.at k no_entry (omega (arith, below, passed.within_a, len_x))) in
          let at_y = ap (λ (e : Entry). e.gain) (y.1.at k no_entry (omega (arith, below, passed.within_b, len_y))) in
          omega (arith, ints, at_x, at_y, passed.passed k below))
          (λ inside_x inside_y.
          elim (cases_lt pairs fa) [
            | inl early_x ↦
                elim (cases_lt pairs fb) [
                  | inl early_y ↦
                      let at_x = ap (λ (e : Entry). e.gain) (x.1.at pairs no_entry early_x) in
                      let at_y = ap (λ (e : Entry). e.gain) (y.1.at pairs no_entry early_y) in
                      let next = passed.next (omega (arith, early_x, len_x)) (omega (arith, early_y, len_y)) in
                      omega (arith, ints, at_x, at_y, next)
                  | inr late_y ↦
                      let low = y.1.low pairs no_entry late_y inside_y in
                      let at_end : fb ≡ pairs = omega (arith, late_y, passed.within_b, len_y) in
                      let behind = x.1.behind pairs (omega (arith, passed.within_a, len_x)) in
                      let high = high_at v pairs fb xs x.0 at_end behind high_x inside_x in
                      omega (arith, ints, low, high)
                ]
            | inr late_x ↦
                let low = x.1.low pairs no_entry late_x inside_x in
                let at_end : fa ≡ pairs = omega (arith, late_x, passed.within_a, len_x) in
                let behind = y.1.behind pairs (omega (arith, passed.within_b, len_y)) in
                let high = high_at u pairs fa ys y.0 at_end behind high_y inside_y in
                omega (arith, ints, low, high)
          ]);
    }

-- ---- what holds of the entries holds of the ranked ones

whole_a : (pairs : ℕ) (xs ranked : List Entry) → IsRankedTo pairs xs ranked → IsPermutation xs ranked
whole_a pairs xs ranked is = is.rest 0 (omega arith)

pub docs_to : (xs ranked : List Entry) → IsPermutation xs ranked → IsPermutation (docs_of xs) (docs_of ranked)
docs_to xs ranked same = IsPermutation-map (λ (entry : Entry). entry.doc) xs ranked same

pub docs_from : (half : List ℕ) (filled xs : List Entry) → docs_of filled ≡ half → IsPermutation filled xs → IsPermutation half (docs_of xs)
docs_from half filled xs docs same = subst (λ (ys : List ℕ). IsPermutation ys (docs_of xs)) docs (docs_to filled xs same)

pub ranked_by : (forward : ForwardIndex) (a b : List ℕ) (loads : ℕ) (table : Counted) (pairs : ℕ) (old_x old_y xs ys : List Entry) → IsForward forward → AreNumbers (length forward.rows) (a ++ b) → table ≡ loaded forward a b loads
    → docs_of old_x ≡ a → docs_of old_y ≡ b → All (HasGain A table forward.rows) old_x → All (HasGain B table forward.rows) old_y → IsPermutation old_x xs → IsPermutation old_y ys → (have : HavePairs pairs xs ys)
    → AreRanked forward a b loads have.ranked_a have.ranked_b
ranked_by forward a b loads table pairs old_x old_y xs ys sound numbers is docs_x docs_y gains_x gains_y same_x same_y have =
    let to_x = IsPermutation-trans old_x xs have.ranked_a same_x (whole_a pairs xs have.ranked_a have.is_a) in
    let to_y = IsPermutation-trans old_y ys have.ranked_b same_y (whole_a pairs ys have.ranked_b have.is_b) in
    AreRanked-from forward a b loads table have.ranked_a have.ranked_b sound numbers is
    (docs_from a old_x have.ranked_a docs_x to_x) (docs_from b old_y have.ranked_b docs_y to_y)
    (All-permutation (HasGain A table forward.rows) old_x have.ranked_a to_x gains_x) (All-permutation (HasGain B table forward.rows) old_y have.ranked_b to_y gains_y)
    have.is_a.order have.is_b.order

pub after_same : (m pairs : ℕ) (xs ys ranked_x ranked_y : List Entry) → m ≤ pairs → IsRankedTo pairs xs ranked_x → IsRankedTo pairs ys ranked_y
    → IsPermutation (half_after m (docs_of xs) (docs_of ys)) (half_after m (docs_of ranked_x) (docs_of ranked_y))
after_same m pairs xs ys ranked_x ranked_y low is_x is_y =
    let doc : Entry → ℕ = λ (entry : Entry). entry.doc in
    let front : take m (docs_of ys) ≡ take m (docs_of ranked_y) = take-map doc m ys ∙ ap docs_of (is_y.front m low) ∙ sym (take-map doc m ranked_y) in
    let back : IsPermutation (drop m (docs_of xs)) (drop m (docs_of ranked_x)) =
    subst (λ (zs : List ℕ). IsPermutation zs (drop m (docs_of ranked_x))) (sym (drop-map doc m xs))
    (subst (IsPermutation (docs_of (drop m xs))) (sym (drop-map doc m ranked_x)) (docs_to (drop m xs) (drop m ranked_x) (is_x.rest m low))) in
    subst (λ (zs : List ℕ). IsPermutation (take m (docs_of ys) ++ drop m (docs_of xs)) (zs ++ drop m (docs_of ranked_x))) front
    (IsPermutation-append_right (take m (docs_of ys)) (drop m (docs_of xs)) (drop m (docs_of ranked_x)) back)

pub put_same : (m pairs : ℕ) (xs ys ranked_x ranked_y : List Entry) (new : List ℕ) → m ≤ pairs → IsRankedTo pairs xs ranked_x → IsRankedTo pairs ys ranked_y
    → IsPermutation (half_after m (docs_of xs) (docs_of ys)) new → IsPermutation (half_after m (docs_of ranked_x) (docs_of ranked_y)) new
put_same m pairs xs ys ranked_x ranked_y new low is_x is_y same =
    IsPermutation-trans (half_after m (docs_of ranked_x) (docs_of ranked_y)) (half_after m (docs_of xs) (docs_of ys)) new
    (IsPermutation-sym (half_after m (docs_of xs) (docs_of ys)) (half_after m (docs_of ranked_x) (docs_of ranked_y)) (after_same m pairs xs ys ranked_x ranked_y low is_x is_y)) same

same_len : (pairs : ℕ) (xs ranked : List Entry) → IsRankedTo pairs xs ranked → length (docs_of xs) ≡ length (docs_of ranked)
same_len pairs xs ranked is = sym (length_permutation (docs_of xs) (docs_of ranked) (docs_to xs ranked (whole_a pairs xs ranked is)))

pub tried_same : (forward : ForwardIndex) (m loads pairs : ℕ) (xs ys : List Entry) (have : HavePairs pairs xs ys) → m ≤ pairs
    → tried forward (docs_of xs) (docs_of ys) m loads ≡ tried forward (docs_of have.ranked_a) (docs_of have.ranked_b) m loads
tried_same forward m loads pairs xs ys have low =
    let old_x = half_after m (docs_of xs) (docs_of ys) in
    let old_y = half_after m (docs_of ys) (docs_of xs) in
    let new_x = half_after m (docs_of have.ranked_a) (docs_of have.ranked_b) in
    let new_y = half_after m (docs_of have.ranked_b) (docs_of have.ranked_a) in
    same_tables (degrees_of forward old_x) (degrees_of forward new_x) (degrees_of forward old_y) (degrees_of forward new_y)
    (length (docs_of xs)) (length (docs_of have.ranked_a)) (length (docs_of ys)) (length (docs_of have.ranked_b)) loads
    (degrees_of-same forward old_x new_x (λ t. sym (degree-permutation forward old_x new_x t (after_same m pairs xs ys have.ranked_a have.ranked_b low have.is_a have.is_b))))
    (degrees_of-same forward old_y new_y (λ t. sym (degree-permutation forward old_y new_y t (after_same m pairs ys xs have.ranked_b have.ranked_a low have.is_b have.is_a))))
    (same_len pairs xs have.ranked_a have.is_a) (same_len pairs ys have.ranked_b have.is_b)

pub first_same : (forward : ForwardIndex) (pairs : ℕ) (xs ys : List Entry) (have : HavePairs pairs xs ys) (before : ℤ) (last : Tried) → IsFirstLess forward (docs_of xs) (docs_of ys) pairs before last
    → IsFirstLess forward (docs_of have.ranked_a) (docs_of have.ranked_b) pairs before last
first_same forward pairs xs ys have before last is =
    let costs : (m : ℕ) → m ≤ pairs → cost_tried forward (docs_of xs) (docs_of ys) m ≡ cost_tried forward (docs_of have.ranked_a) (docs_of have.ranked_b) m =
    λ m low. ap cost_of (tried_same forward m 0 pairs xs ys have low) in
    record {
      number = is.number;
      is_pairs = is.is_pairs;
      none_before = λ try early. subst (λ (z : ℤ). before ≤ℤ z) (costs (pairs / 2 ^ try) (div-le_self pairs (2 ^ try))) (is.none_before try early);
      first = is.first ∙ costs pairs (omega arith);
      after = is.after ∙ costs last.pairs (omega (arith, is.is_pairs, div-le_self pairs (2 ^ is.number)));
      less = is.less;
    }
