-- What the two passes over all draws need beside the steps.
use Rattle.std.proofs.Common.{◌≡◌, ℕ, ◌+◌, ◌*◌, ◌%◌, ◌<◌, ◌≤◌, List, length, get_or, map, replicate, [], ◌∷◌, pos, refl, sym, ap, subst, ◌∙◌, arith, add-zero, length-append}
use Rattle.std.proofs.lemmas.Nat.{mul-le}
use Rattle.rgb_base.specs.declared.parts.Posting.{Posting}
use Rattle.generated_index.specs.declared.cursor.Cursor.{Cursor}
use Rattle.generated_index.specs.Generated.{draw, topic, term_of, term_drawn, times_drawn, postings_of, total_drawn, all_terms}
use Rattle.generated_index.specs.Steps.{row_at, advanced, IsCursor, no_cursor, cursor_at, AreCursors, begins, AreFilled}
use Rattle.generated_index.proofs.Steps.{times_none, times_hit, row_begins, row_hit, cursor_hit, cursor_fresh, begins_le, postings_le}

pub all_terms_are : all_terms ≡ 2000
unfolding all_terms
all_terms_are = refl

-- the term of a draw, by where the draws of its document began
pub drawn_term : (number number' document place made made' first term : ℕ) → first ≡ draw number made' % 32 → made' ≡ 21 * document → number' ≡ number → made ≡ 21 * document + (1 + place)
    → term ≡ term_of first (draw number' made) → term_drawn number document place ≡ term
unfolding term_drawn topic
drawn_term number number' document place made made' first term is_first began same here is_term =
    let d = 21 * document in
    let topic_is : first ≡ draw number d % 32 = is_first ∙ ap (λ (m : ℕ). draw number m % 32) began in
    sym (is_term ∙ ap (λ (n : ℕ). term_of first (draw n made)) same ∙ ap (λ (m : ℕ). term_of first (draw number m)) here ∙ ap (λ (t : ℕ). term_of t (draw number (d + (1 + place)))) topic_is)

-- where the posting of a draw goes, and how often its term was drawn then
pub drawn_place : (number document draws term base : ℕ) (cursor : Cursor) → IsCursor number document draws term base cursor → term_drawn number document draws ≡ term
    → ((advanced document cursor).end ≡ base + length (postings_of number document term) + 1) × ((advanced document cursor).times ≡ times_drawn number term document (draws + 1))
drawn_place number document draws term base cursor h same =
    let hit = cursor_hit number document draws term base cursor h same in
    let posting : Posting = record { doc = document; tf = pos (times_drawn number term document (draws + 1)) } in
    let row = ap (λ (ps : List Posting). length ps) (row_hit number document draws term same) in
    let some : 0 < times_drawn number term document (draws + 1) = omega (arith, times_hit number term document draws same) in
    (omega (arith, hit.end, row, length-append (postings_of number document term) (posting ∷ [])), hit.times some)

-- what was counted of a term in the end
pub counted_end : (number documents term : ℕ) (cursors : List Cursor) → AreCursors number documents 0 (λ _. 0) cursors → term < all_terms → (cursor_at cursors term).end ≡ length (postings_of number documents term)
counted_end number documents term cursors h within =
    let row = ap (λ (ps : List Posting). length ps) (row_begins number documents term) in
    let cursor = h.each term within in
    omega (arith, cursor.end, row)

pub counted_draws : (number documents term : ℕ) (cursors : List Cursor) → AreCursors number documents 0 (λ _. 0) cursors → term < all_terms → (cursor_at cursors term).draws ≡ total_drawn number documents term
counted_draws number documents term cursors h within =
    let cursor = h.each term within in
    omega (arith, cursor.drawn, times_none number term documents)

pub begins_small : (number documents term : ℕ) → documents ≤ 1000000 → term ≤ 2000 → begins number documents term ≤ 2000000000
begins_small number documents term few low = omega (arith, begins_le number documents term, mul-le term documents 2000 1000000 low few)

-- fresh cursors
pub fresh_cursors : (number : ℕ) (base : ℕ → ℕ) (cursors : List Cursor) → length cursors ≡ 2000 → ((k : ℕ) → k < 2000 → cursor_at cursors k ≡ record no_cursor { end = base k })
    → AreCursors number 0 0 base cursors
fresh_cursors number base cursors len each = record {
  len = len ∙ sym all_terms_are;
  each = λ k lt. subst (IsCursor number 0 0 k (base k)) (sym (each k (omega (arith, lt, all_terms_are)))) (cursor_fresh number k (base k));
}
