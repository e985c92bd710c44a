-- Tables while more or fewer pairs of two ranked halves are exchanged.
use Rattle.std.proofs.Common.{◌≡◌, ℕ, ◌+◌, ◌-◌, ◌/◌, ◌^◌, ◌<◌, ◌≤◌, ℤ, ◌≤ℤ◌, List, ◌++◌, length, get_or, take, drop, sym, subst, ap, ◌∙◌, All, arith}
use Rattle.std.specs.Prelude.{slice_range}
use Rattle.std.proofs.Math.Nat.{pow-suc, div-div-eq-div-mul, div-one}
use borrow.Author.Count.{below_more}
use Rattle.std.proofs.lemmas.List.{take-append-drop, take-map, drop-map, drop-drop}
use Rattle.std.proofs.lemmas.List.Elements.{All-take, All-drop}
use Rattle.std.proofs.lemmas.List.FromFn.{length-map-range_with_len}
use Rattle.rgb_base.specs.declared.parts.Side.TheVariants.{A, B}
use Rattle.forward_index.specs.Forward.{ForwardIndex}
use Rattle.degrees.specs.Cost.{degree}
use Rattle.degrees.specs.Counts.{Counted}
use Rattle.exchange.specs.declared.entry.Entry.{Entry}
use Rattle.exchange.specs.Gain.{IsReady}
use Rattle.exchange.specs.Tries.{docs_of, all_across, exchanged_by, half_after, tried, cost_tried, AreCountedIn, NoneLess}
use Rattle.exchange.proofs.Moved.{made_at, degree-append, across_A, across_B}

-- ---- degrees of parts of a list

pub deg_cut : (forward : ForwardIndex) (m : ℕ) (xs : List ℕ) (t : ℕ) → degree forward xs t ≡ degree forward (take m xs) t + degree forward (drop m xs) t
deg_cut forward m xs t = ap (λ (ys : List ℕ). degree forward ys t) (sym (take-append-drop m xs)) ∙ degree-append forward (take m xs) (drop m xs) t

pub deg_between : (forward : ForwardIndex) (f m : ℕ) (xs : List ℕ) (t : ℕ) → f ≤ m → degree forward (drop f xs) t ≡ degree forward (slice_range xs f m) t + degree forward (drop m xs) t
deg_between forward f m xs t order =
    deg_cut forward (m - f) (drop f xs) t
    ∙ ap (λ (ys : List ℕ). degree forward (slice_range xs f m) t + degree forward ys t) (drop-drop (m - f) f xs ∙ ap (λ (k : ℕ). drop k xs) (omega arith))

pub deg_after : (forward : ForwardIndex) (m : ℕ) (half other : List ℕ) (t : ℕ) → degree forward (half_after m half other) t ≡ degree forward (take m other) t + degree forward (drop m half) t
deg_after forward m half other t = degree-append forward (take m other) (drop m half) t

-- ---- pairs exchanged, and exchanged back

pub tried_forward : (forward : ForwardIndex) (a b : List ℕ) (m loads : ℕ) → exchanged_by (degree forward (take m a)) (degree forward (take m b)) (tried forward a b 0 loads) ≡ tried forward a b m loads
tried_forward forward a b m loads =
    ap (all_across B (degree forward (take m b)))
    (across_A forward (half_after 0 a b) (half_after 0 b a) (drop m a) (take m a ++ b) (length a) (length b) loads (degree forward (take m a))
    (λ t. omega (arith, deg_after forward 0 a b t, deg_cut forward m a t, deg_cut forward 0 a t, deg_cut forward 0 b t))
    (λ t. omega (arith, degree-append forward (take m a) b t, deg_after forward 0 b a t, deg_cut forward 0 a t, deg_cut forward 0 b t)))
    ∙ across_B forward (drop m a) (take m a ++ b) (half_after m a b) (half_after m b a) (length a) (length b) loads (degree forward (take m b))
    (λ t. omega (arith, degree-append forward (take m a) b t, deg_after forward m b a t, deg_cut forward m b t))
    (λ t. omega (arith, deg_after forward m a b t))

pub tried_back : (forward : ForwardIndex) (a b : List ℕ) (f m loads : ℕ) → f ≤ m → exchanged_by (degree forward (slice_range b f m)) (degree forward (slice_range a f m)) (tried forward a b m loads) ≡ tried forward a b f loads
tried_back forward a b f m loads order =
    let s_a = slice_range a f m in
    let s_b = slice_range b f m in
    ap (all_across B (degree forward s_a))
    (across_A forward (half_after m a b) (half_after m b a) (take f b ++ drop m a) (s_b ++ half_after m b a) (length a) (length b) loads (degree forward s_b)
    (λ t. omega (arith, deg_after forward m a b t, degree-append forward (take f b) (drop m a) t, deg_cut forward m b t, deg_cut forward f b t, deg_between forward f m b t order))
    (λ t. omega (arith, degree-append forward s_b (half_after m b a) t)))
    ∙ across_B forward (take f b ++ drop m a) (s_b ++ half_after m b a) (half_after f a b) (half_after f b a) (length a) (length b) loads (degree forward s_a)
    (λ t. omega (arith, degree-append forward s_b (half_after m b a) t, deg_after forward m b a t, deg_after forward f b a t, deg_cut forward m a t, deg_cut forward f a t, deg_between forward f m a t order, deg_between forward f m b t order))
    (λ t. omega (arith, deg_after forward f a b t, degree-append forward (take f b) (drop m a) t, deg_between forward f m a t order))

-- ---- what an exchange asks

pub tried_terms : (forward : ForwardIndex) (a b : List ℕ) (m loads : ℕ) → length (tried forward a b m loads).a ≡ forward.terms
tried_terms forward a b m loads = length-map-range_with_len (degree forward (half_after m a b)) 0 forward.terms

at_a : (forward : ForwardIndex) (a b : List ℕ) (m loads t : ℕ) → t < forward.terms → get_or (tried forward a b m loads).a t 0 ≡ degree forward (take m b) t + degree forward (drop m a) t
at_a forward a b m loads t within = made_at (degree forward (half_after m a b)) forward.terms t within ∙ deg_after forward m a b t

at_b : (forward : ForwardIndex) (a b : List ℕ) (m loads t : ℕ) → t < forward.terms → get_or (tried forward a b m loads).b t 0 ≡ degree forward (take m a) t + degree forward (drop m b) t
at_b forward a b m loads t within = made_at (degree forward (half_after m b a)) forward.terms t within ∙ deg_after forward m b a t

pub ready_tried : (top : ℕ) (forward : ForwardIndex) (a b : List ℕ) (m loads : ℕ) → IsReady top (tried forward a b 0 loads) → IsReady top (tried forward a b m loads)
ready_tried top forward a b m loads ready = record {
  some_a = ready.some_a;
  some_b = ready.some_b;
  low_a = ready.low_a;
  low_b = ready.low_b;
  both = λ t within.
      let in_terms : t < forward.terms = omega (arith, within, tried_terms forward a b m loads) in
      omega (
        arith,
        ready.both t (omega (arith, in_terms, tried_terms forward a b 0 loads)),
        at_a forward a b 0 loads t in_terms,
        at_b forward a b 0 loads t in_terms,
        at_a forward a b m loads t in_terms,
        at_b forward a b m loads t in_terms,
        deg_cut forward 0 a t,
        deg_cut forward 0 b t,
        deg_cut forward m a t,
        deg_cut forward m b t,
      );
}

pub counted_forward_a : (forward : ForwardIndex) (a b : List ℕ) (m loads : ℕ) → AreCountedIn A (degree forward (take m a)) (tried forward a b 0 loads)
counted_forward_a forward a b m loads t within =
    let in_terms : t < forward.terms = omega (arith, within, tried_terms forward a b 0 loads) in
    omega (arith, at_a forward a b 0 loads t in_terms, deg_cut forward 0 a t, deg_cut forward 0 b t, deg_cut forward m a t)

pub counted_forward_b : (forward : ForwardIndex) (a b : List ℕ) (m loads : ℕ) → AreCountedIn B (degree forward (take m b)) (tried forward a b 0 loads)
counted_forward_b forward a b m loads t within =
    let in_terms : t < forward.terms = omega (arith, within, tried_terms forward a b 0 loads) in
    omega (arith, at_b forward a b 0 loads t in_terms, deg_cut forward 0 a t, deg_cut forward 0 b t, deg_cut forward m b t)

pub counted_back_a : (forward : ForwardIndex) (a b : List ℕ) (f m loads : ℕ) → f ≤ m → AreCountedIn A (degree forward (slice_range b f m)) (tried forward a b m loads)
counted_back_a forward a b f m loads order t within =
    let in_terms : t < forward.terms = omega (arith, within, tried_terms forward a b m loads) in
    omega (arith, at_a forward a b m loads t in_terms, deg_cut forward f b t, deg_cut forward m b t, deg_between forward f m b t order)

pub counted_back_b : (forward : ForwardIndex) (a b : List ℕ) (f m loads : ℕ) → f ≤ m → AreCountedIn B (degree forward (slice_range a f m)) (tried forward a b m loads)
counted_back_b forward a b f m loads order t within =
    let in_terms : t < forward.terms = omega (arith, within, tried_terms forward a b m loads) in
    omega (arith, at_b forward a b m loads t in_terms, deg_cut forward f a t, deg_cut forward m a t, deg_between forward f m a t order)

-- ---- ranges of entries

pub docs_range : (entries : List Entry) (f m : ℕ) → docs_of (slice_range entries f m) ≡ slice_range (docs_of entries) f m
docs_range entries f m =
    sym (take-map (λ (entry : Entry). entry.doc) (m - f) (drop f entries))
    ∙ ap (take (m - f)) (sym (drop-map (λ (entry : Entry). entry.doc) f entries))

pub All-range : (P : Entry → Type 0) (entries : List Entry) (f m : ℕ) → All P entries → All P (slice_range entries f m)
All-range P entries f m all = All-take P (m - f) (drop f entries) (All-drop P f entries all)

-- ---- half as many

pub half_again : (k n : ℕ) → k / 2 ^ n / 2 ≡ k / 2 ^ (n + 1)
half_again k n = div-div-eq-div-mul k (2 ^ n) 2 ∙ ap (λ (d : ℕ). k / d) (sym (pow-suc 2 n) ∙ ap (λ (e : ℕ). 2 ^ e) (omega arith))

-- ---- the steps of the tries

front_docs : (entries : List Entry) (m : ℕ) → docs_of (take m entries) ≡ take m (docs_of entries)
front_docs entries m = sym (take-map (λ (entry : Entry). entry.doc) m entries)

pub tried_first : (forward : ForwardIndex) (a b : List Entry) (m loads : ℕ) (old new : Counted)
    → new ≡ exchanged_by (degree forward (docs_of (take m a))) (degree forward (docs_of (take m b))) old → old ≡ tried forward (docs_of a) (docs_of b) 0 loads → new ≡ tried forward (docs_of a) (docs_of b) m loads
tried_first forward a b m loads old new is was =
    is
    ∙ ap (λ (xs : List ℕ). exchanged_by (degree forward xs) (degree forward (docs_of (take m b))) old) (front_docs a m)
    ∙ ap (λ (xs : List ℕ). exchanged_by (degree forward (take m (docs_of a))) (degree forward xs) old) (front_docs b m)
    ∙ ap (exchanged_by (degree forward (take m (docs_of a))) (degree forward (take m (docs_of b)))) was
    ∙ tried_forward forward (docs_of a) (docs_of b) m loads

pub tried_next : (forward : ForwardIndex) (a b : List Entry) (f m loads : ℕ) (old new : Counted) → f ≤ m
    → new ≡ exchanged_by (degree forward (docs_of (slice_range b f m))) (degree forward (docs_of (slice_range a f m))) old → old ≡ tried forward (docs_of a) (docs_of b) m loads → new ≡ tried forward (docs_of a) (docs_of b) f loads
tried_next forward a b f m loads old new order is was =
    is
    ∙ ap (λ (xs : List ℕ). exchanged_by (degree forward xs) (degree forward (docs_of (slice_range a f m))) old) (docs_range b f m)
    ∙ ap (λ (xs : List ℕ). exchanged_by (degree forward (slice_range (docs_of b) f m)) (degree forward xs) old) (docs_range a f m)
    ∙ ap (exchanged_by (degree forward (slice_range (docs_of b) f m)) (degree forward (slice_range (docs_of a) f m))) was
    ∙ tried_back forward (docs_of a) (docs_of b) f m loads order

pub counted_first_a : (forward : ForwardIndex) (a b : List Entry) (m loads : ℕ) (old : Counted) → old ≡ tried forward (docs_of a) (docs_of b) 0 loads → AreCountedIn A (degree forward (docs_of (take m a))) old
counted_first_a forward a b m loads old was =
    subst (AreCountedIn A (degree forward (docs_of (take m a)))) (sym was)
    (subst (λ (xs : List ℕ). AreCountedIn A (degree forward xs) (tried forward (docs_of a) (docs_of b) 0 loads)) (sym (front_docs a m)) (counted_forward_a forward (docs_of a) (docs_of b) m loads))

pub counted_first_b : (forward : ForwardIndex) (a b : List Entry) (m loads : ℕ) (old : Counted) → old ≡ tried forward (docs_of a) (docs_of b) 0 loads → AreCountedIn B (degree forward (docs_of (take m b))) old
counted_first_b forward a b m loads old was =
    subst (AreCountedIn B (degree forward (docs_of (take m b)))) (sym was)
    (subst (λ (xs : List ℕ). AreCountedIn B (degree forward xs) (tried forward (docs_of a) (docs_of b) 0 loads)) (sym (front_docs b m)) (counted_forward_b forward (docs_of a) (docs_of b) m loads))

pub counted_next_a : (forward : ForwardIndex) (a b : List Entry) (f m loads : ℕ) (old : Counted) → f ≤ m → old ≡ tried forward (docs_of a) (docs_of b) m loads → AreCountedIn A (degree forward (docs_of (slice_range b f m))) old
counted_next_a forward a b f m loads old order was =
    subst (AreCountedIn A (degree forward (docs_of (slice_range b f m)))) (sym was)
    (subst (λ (xs : List ℕ). AreCountedIn A (degree forward xs) (tried forward (docs_of a) (docs_of b) m loads)) (sym (docs_range b f m)) (counted_back_a forward (docs_of a) (docs_of b) f m loads order))

pub counted_next_b : (forward : ForwardIndex) (a b : List Entry) (f m loads : ℕ) (old : Counted) → f ≤ m → old ≡ tried forward (docs_of a) (docs_of b) m loads → AreCountedIn B (degree forward (docs_of (slice_range a f m))) old
counted_next_b forward a b f m loads old order was =
    subst (AreCountedIn B (degree forward (docs_of (slice_range a f m)))) (sym was)
    (subst (λ (xs : List ℕ). AreCountedIn B (degree forward xs) (tried forward (docs_of a) (docs_of b) m loads)) (sym (docs_range a f m)) (counted_back_b forward (docs_of a) (docs_of b) f m loads order))

pub none_yet : (forward : ForwardIndex) (a b : List ℕ) (pairs : ℕ) (before : ℤ) → NoneLess forward a b pairs before 0
none_yet forward a b pairs before try lt = absurd (omega (arith, lt))

pub none_more : (forward : ForwardIndex) (a b : List ℕ) (pairs : ℕ) (before : ℤ) (n m : ℕ) → NoneLess forward a b pairs before n → m ≡ pairs / 2 ^ n → before ≤ℤ cost_tried forward a b m → NoneLess forward a b pairs before (n + 1)
none_more forward a b pairs before n m none is here =
    below_more (λ try. before ≤ℤ cost_tried forward a b (pairs / 2 ^ try)) n none (subst (λ (k : ℕ). before ≤ℤ cost_tried forward a b k) is here)

pub whole_first : (pairs : ℕ) → pairs ≡ pairs / 2 ^ 0
whole_first pairs = sym (div-one pairs)
