-- The touched terms after a write to the pairs.
use Rattle.std.proofs.Common.{◌≡◌, ℕ, ◌+◌, ◌<◌, List, [], ◌∷◌, ◌++◌, length, get_or, set, replicate, inl, inr, refl, sym, ap, ◌∙◌, arith}
use Rattle.std.proofs.lemmas.Bool.{cases_eq}
use Rattle.std.proofs.lemmas.List.{length_push, get_or_push, length-replicate, get_or-replicate}
use Rattle.std.proofs.lemmas.Grind.{same_number_lists}
use Rattle.degrees.specs.declared.pair.Pair.{Pair}
use Rattle.degrees.specs.Steps.{Both, no_counts}
use Rattle.degrees.specs.Kept.{both_of, AreTouched}
use Rattle.degrees.proofs.Touched.{of_term, AreTouched-kept, AreTouched-push, AreTouched-pop, none_touched, room_left}
use Rattle.degrees.proofs.Pairs.{a_len, b_len, of_term_at, of_term_set, of_term_kept, a_set_len}

-- a term comes to its first count
pub AreTouched-first : (pairs : List Pair) (touched : List ℕ) (term : ℕ) (old new : Pair) → AreTouched (both_of pairs) touched
    → term < length pairs → old ≡ get_or pairs term old → old.a + old.b ≡ 0 → 0 < new.a + new.b
    → AreTouched (both_of (set pairs term new)) (touched ++ term ∷ [])
AreTouched-first pairs touched term old new h low read none some =
    AreTouched-push (both_of pairs) (both_of (set pairs term new)) touched term h (a_set_len pairs term new) (omega (arith, a_len pairs))
    (omega (arith, of_term_at pairs term old low read)) (omega (arith, of_term_set pairs term new low)) (of_term_kept pairs term new)

-- a term has counts as before, or none as before
pub AreTouched-again : (pairs : List Pair) (touched : List ℕ) (term : ℕ) (old new : Pair) → AreTouched (both_of pairs) touched
    → term < length pairs → old ≡ get_or pairs term old → (0 < old.a + old.b → 0 < new.a + new.b) → (0 < new.a + new.b → 0 < old.a + old.b)
    → AreTouched (both_of (set pairs term new)) touched
AreTouched-again pairs touched term old new h low read on back =
    let before : of_term (both_of pairs) term ≡ old.a + old.b = of_term_at pairs term old low read in
    let after : of_term (both_of (set pairs term new)) term ≡ new.a + new.b = of_term_set pairs term new low in
    AreTouched-kept (both_of pairs) (both_of (set pairs term new)) touched h (a_set_len pairs term new)
    (λ other lt some.
    elim (cases_eq other term) [
      | inl here ↦ omega (arith, ap (of_term (both_of pairs)) here, ap (of_term (both_of (set pairs term new))) here, on (omega (arith, ap (of_term (both_of pairs)) here)))
      | inr unlike ↦ omega (arith, of_term_kept pairs term new other unlike)
    ])
    (λ other lt some.
    elim (cases_eq other term) [
      | inl here ↦ omega (arith, ap (of_term (both_of pairs)) here, ap (of_term (both_of (set pairs term new))) here, back (omega (arith, ap (of_term (both_of (set pairs term new))) here)))
      | inr unlike ↦ omega (arith, of_term_kept pairs term new other unlike)
    ])

-- there is room for a term without counts
pub room_for : (pairs : List Pair) (touched : List ℕ) (term : ℕ) (old : Pair) → AreTouched (both_of pairs) touched
    → term < length pairs → old ≡ get_or pairs term old → old.a + old.b ≡ 0 → length touched < length pairs
room_for pairs touched term old h low read none =
    omega (arith, a_len pairs, room_left (both_of pairs) touched term h (omega (arith, a_len pairs)) (omega (arith, of_term_at pairs term old low read)))

-- the last touched term loses its counts
pub AreTouched-erased : (pairs : List Pair) (touched : List ℕ) (term : ℕ) (new : Pair) → AreTouched (both_of pairs) (touched ++ term ∷ [])
    → new.a + new.b ≡ 0 → AreTouched (both_of (set pairs term new)) touched
AreTouched-erased pairs touched term new h none =
    let low : term < length pairs =
    omega (arith, a_len pairs, h.below (length touched) 0 (omega (arith, length_push touched term)), get_or_push touched term 0 (length touched) refl) in
    AreTouched-pop (both_of pairs) (both_of (set pairs term new)) touched term h (a_set_len pairs term new)
    (omega (arith, of_term_set pairs term new low)) (of_term_kept pairs term new)

-- where nothing is touched all counts are 0
pub untouched_are_none : (pairs : List Pair) → AreTouched (both_of pairs) [] → both_of pairs ≡ no_counts (length pairs)
untouched_are_none pairs h =
    let n = length pairs in
    let zeros : List ℕ = replicate n 0 in
    let zeros_len : length zeros ≡ n = length-replicate {A = ℕ} n 0 in
    let zero_at : (k : ℕ) → k < n → get_or zeros k 0 ≡ 0 = λ k lt. get_or-replicate {A = ℕ} n k 0 0 lt in
    let none : (k : ℕ) → k < n → of_term (both_of pairs) k ≡ 0 = λ k lt. none_touched (both_of pairs) k h (omega (arith, a_len pairs)) in
    let a : (both_of pairs).a ≡ zeros = same_number_lists (both_of pairs).a zeros (a_len pairs ∙ sym zeros_len)
    (λ k lt. omega (arith, a_len pairs, none k (omega (arith, a_len pairs)), zero_at k (omega (arith, a_len pairs)))) in
    let b : (both_of pairs).b ≡ zeros = same_number_lists (both_of pairs).b zeros (b_len pairs ∙ sym zeros_len)
    (λ k lt. omega (arith, b_len pairs, none k (omega (arith, b_len pairs)), zero_at k (omega (arith, b_len pairs)))) in
    ap (λ (xs : List ℕ). let both : Both = record { a = xs; b = (both_of pairs).b } in both) a
    ∙ ap (λ (xs : List ℕ). let both : Both = record { a = zeros; b = xs } in both) b
