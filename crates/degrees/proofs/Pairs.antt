-- The counts that a table of pairs holds, and a write to it.
use Rattle.std.proofs.Common.{◌≡◌, ◌≢◌, ℕ, zero, suc, ◌∷◌, ◌+◌, ◌<◌, List, length, get_or, set, map, replicate, refl, sym, ap, ◌∙◌, arith}
use Rattle.std.proofs.lemmas.List.{length-map, length-set, map-set, get_or-map, get_or-set_same, get_or-set_other}
use Rattle.rgb_base.specs.declared.parts.Side.{Side}
use Rattle.rgb_base.specs.declared.parts.Side.TheVariants.{A, B}
use Rattle.degrees.specs.declared.pair.Pair.{Pair}
use Rattle.degrees.specs.Steps.{Both, no_counts, half_of, other_of, count_in, count_across}
use Rattle.degrees.specs.Kept.{both_of}
use Rattle.degrees.proofs.Touched.{of_term}

abbrev pub pair_a : Pair → ℕ
pair_a pair = pair.a

abbrev pub pair_b : Pair → ℕ
pair_b pair = pair.b

pub a_len : (pairs : List Pair) → length (both_of pairs).a ≡ length pairs
a_len pairs = length-map pairs pair_a

pub b_len : (pairs : List Pair) → length (both_of pairs).b ≡ length pairs
b_len pairs = length-map pairs pair_b

pub a_at : (pairs : List Pair) (term : ℕ) (pair : Pair) → term < length pairs → pair ≡ get_or pairs term pair → get_or (both_of pairs).a term 0 ≡ pair.a
a_at pairs term pair low read = get_or-map pair_a pairs term pair 0 low ∙ ap pair_a (sym read)

pub b_at : (pairs : List Pair) (term : ℕ) (pair : Pair) → term < length pairs → pair ≡ get_or pairs term pair → get_or (both_of pairs).b term 0 ≡ pair.b
b_at pairs term pair low read = get_or-map pair_b pairs term pair 0 low ∙ ap pair_b (sym read)

pub a_set : (pairs : List Pair) (term : ℕ) (pair : Pair) → (both_of (set pairs term pair)).a ≡ set (both_of pairs).a term pair.a
a_set pairs term pair = map-set pair_a pairs term pair

pub b_set : (pairs : List Pair) (term : ℕ) (pair : Pair) → (both_of (set pairs term pair)).b ≡ set (both_of pairs).b term pair.b
b_set pairs term pair = map-set pair_b pairs term pair

pub half_len : (side : Side) (pairs : List Pair) → length (half_of side (both_of pairs)) ≡ length pairs
half_len A pairs = a_len pairs
half_len B pairs = b_len pairs

pub half_at : (side : Side) (pairs : List Pair) (term : ℕ) (pair : Pair) → term < length pairs → pair ≡ get_or pairs term pair → get_or (half_of side (both_of pairs)) term 0 ≡ count_in side pair
half_at A pairs term pair low read = a_at pairs term pair low read
half_at B pairs term pair low read = b_at pairs term pair low read

pub other_at : (side : Side) (pairs : List Pair) (term : ℕ) (pair : Pair) → term < length pairs → pair ≡ get_or pairs term pair → get_or (other_of side (both_of pairs)) term 0 ≡ count_across side pair
other_at A pairs term pair low read = b_at pairs term pair low read
other_at B pairs term pair low read = a_at pairs term pair low read

pub half_set : (side : Side) (pairs : List Pair) (term : ℕ) (pair : Pair) → half_of side (both_of (set pairs term pair)) ≡ set (half_of side (both_of pairs)) term (count_in side pair)
half_set A pairs term pair = a_set pairs term pair
half_set B pairs term pair = b_set pairs term pair

pub other_set : (side : Side) (pairs : List Pair) (term : ℕ) (pair : Pair) → other_of side (both_of (set pairs term pair)) ≡ set (other_of side (both_of pairs)) term (count_across side pair)
other_set A pairs term pair = b_set pairs term pair
other_set B pairs term pair = a_set pairs term pair

-- both counts of a pair, by its sides
pub sum_of_sides : (side : Side) (pair : Pair) → pair.a + pair.b ≡ count_in side pair + count_across side pair
sum_of_sides A pair = refl
sum_of_sides B pair = omega arith

pub of_term_at : (pairs : List Pair) (term : ℕ) (pair : Pair) → term < length pairs → pair ≡ get_or pairs term pair → of_term (both_of pairs) term ≡ pair.a + pair.b
of_term_at pairs term pair low read = omega (arith, a_at pairs term pair low read, b_at pairs term pair low read)

pub of_term_set : (pairs : List Pair) (term : ℕ) (pair : Pair) → term < length pairs → of_term (both_of (set pairs term pair)) term ≡ pair.a + pair.b
of_term_set pairs term pair low =
    of_term_at (set pairs term pair) term pair (omega (arith, length-set pairs term pair)) (sym (get_or-set_same pairs term pair pair low))

pub of_term_kept : (pairs : List Pair) (term : ℕ) (pair : Pair) (other : ℕ) → other ≢ term → of_term (both_of (set pairs term pair)) other ≡ of_term (both_of pairs) other
of_term_kept pairs term pair other unlike =
    let a : get_or (both_of (set pairs term pair)).a other 0 ≡ get_or (both_of pairs).a other 0 =
    ap (λ (xs : List ℕ). get_or xs other 0) (a_set pairs term pair) ∙ get_or-set_other (both_of pairs).a term other pair.a 0 unlike in
    let b : get_or (both_of (set pairs term pair)).b other 0 ≡ get_or (both_of pairs).b other 0 =
    ap (λ (xs : List ℕ). get_or xs other 0) (b_set pairs term pair) ∙ get_or-set_other (both_of pairs).b term other pair.b 0 unlike in
    omega arith

pub a_set_len : (pairs : List Pair) (term : ℕ) (pair : Pair) → length (both_of (set pairs term pair)).a ≡ length (both_of pairs).a
a_set_len pairs term pair = a_len (set pairs term pair) ∙ length-set pairs term pair ∙ sym (a_len pairs)

pub both_of_none : (n : ℕ) (pair : Pair) → pair.a ≡ 0 → pair.b ≡ 0 → both_of (replicate n pair) ≡ no_counts n
both_of_none zero pair none_a none_b = refl
both_of_none (suc n) pair none_a none_b =
    let rest = both_of_none n pair none_a none_b in
    ap (λ (k : ℕ). let both : Both = record { a = k ∷ map pair_a (replicate n pair); b = pair.b ∷ map pair_b (replicate n pair) } in both) none_a
    ∙ ap (λ (k : ℕ). let both : Both = record { a = 0 ∷ map pair_a (replicate n pair); b = k ∷ map pair_b (replicate n pair) } in both) none_b
    ∙ ap (λ (both : Both). let more : Both = record { a = 0 ∷ both.a; b = 0 ∷ both.b } in more) rest
