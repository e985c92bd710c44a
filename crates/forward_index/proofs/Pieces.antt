-- The rows that lie in a table between the places at which they end.
use Rattle.std.proofs.Common.{◌≡◌, ℕ, zero, suc, ◌+◌, ◌-◌, ◌<◌, ◌≤◌, List, [], ◌∷◌, ◌++◌, length, get_or, take, drop, refl, sym, ap, subst, ◌∙◌, arith, Some, add-zero, length-append}
use Rattle.std.specs.Prelude.{slice_get, slice_range, flat_map}
use Rattle.std.proofs.lemmas.Option.{slice_get-get_or}
use Rattle.std.proofs.lemmas.List.{get_or_default, drop_at, take_at, append_assoc}
use Rattle.forward_index.specs.Flat.{pieces, AreEnds, start_from}
use Rattle.forward_index.specs.Rows.{ends}
use Rattle.forward_index.proofs.Filling.{total, total-cons}

pub length-pieces : (from : ℕ) (ends : List ℕ) (table : List ℕ) → length (pieces from ends table) ≡ length ends
length-pieces from [] table = refl
length-pieces from (end ∷ ends) table = let h = length-pieces end ends table in omega (arith, h)

pub from-le : (from : ℕ) (ends : List ℕ) (limit : ℕ) → AreEnds from ends limit → from ≤ limit
from-le from [] limit h = let e : from ≡ limit = h in omega (arith, e)
from-le from (end ∷ ends) limit h = let first : from ≤ end = h.0 in let rest = from-le end ends limit h.1 in omega (arith, first, rest)

-- a row by its number
pub piece_at : (from : ℕ) (ends : List ℕ) (table : List ℕ) (k : ℕ) (d : List ℕ) → k < length ends
    → get_or (pieces from ends table) k d ≡ take (get_or ends k 0 - start_from from ends k) (drop (start_from from ends k) table)
piece_at from [] table k d h = absurd (omega (arith, h))
piece_at from (end ∷ ends) table zero d h = refl
piece_at from (end ∷ ends) table (suc zero) d h = piece_at end ends table 0 d (omega (arith, h))
piece_at from (end ∷ ends) table (suc (suc k)) d h = piece_at end ends table (suc k) d (omega (arith, h))

pub start_from-le : (from : ℕ) (ends : List ℕ) (limit k : ℕ) → AreEnds from ends limit → k < length ends → start_from from ends k ≤ get_or ends k 0
start_from-le from [] limit k h lt = absurd (omega (arith, lt))
start_from-le from (end ∷ ends) limit zero h lt = h.0
start_from-le from (end ∷ ends) limit (suc zero) h lt = start_from-le end ends limit 0 h.1 (omega (arith, lt))
start_from-le from (end ∷ ends) limit (suc (suc k)) h lt = start_from-le end ends limit (suc k) h.1 (omega (arith, lt))

pub end-le : (from : ℕ) (ends : List ℕ) (limit k : ℕ) → AreEnds from ends limit → k < length ends → get_or ends k 0 ≤ limit
end-le from [] limit k h lt = absurd (omega (arith, lt))
end-le from (end ∷ ends) limit zero h lt = from-le end ends limit h.1
end-le from (end ∷ ends) limit (suc k) h lt = end-le end ends limit k h.1 (omega (arith, lt))

-- ---- what the tables tell of the rows

pub row_read : (ends table : List ℕ) (rows : List (List ℕ)) (k from end : ℕ) → pieces 0 ends table ≡ rows → k < length ends
    → from ≡ start_from 0 ends k → end ≡ get_or ends k end → slice_get rows k ≡ Some (slice_range table from end)
row_read ends table rows k from end same lt start stop =
    let stop' : get_or ends k 0 ≡ end = get_or_default ends k 0 end lt ∙ sym stop in
    subst (λ parts. slice_get parts k ≡ Some (slice_range table from end)) same
    (slice_get-get_or (pieces 0 ends table) k [] (omega (arith, lt, length-pieces 0 ends table))
    ∙ ap Some (piece_at 0 ends table k [] lt ∙ ap (λ (n : ℕ). take (get_or ends k 0 - n) (drop n table)) (sym start) ∙ ap (λ (n : ℕ). take (n - from) (drop from table)) stop'))

pub row_order : (ends : List ℕ) (limit k from end : ℕ) → AreEnds 0 ends limit → k < length ends → from ≡ start_from 0 ends k → end ≡ get_or ends k end → from ≤ end
row_order ends limit k from end cuts lt start stop = omega (arith, start, stop, get_or_default ends k end 0 lt, start_from-le 0 ends limit k cuts lt)

pub row_within : (ends : List ℕ) (limit k end : ℕ) → AreEnds 0 ends limit → k < length ends → end ≡ get_or ends k end → end ≤ limit
row_within ends limit k end cuts lt stop = omega (arith, stop, get_or_default ends k end 0 lt, end-le 0 ends limit k cuts lt)

-- ---- rows side by side

pub AreEnds-of : (from : ℕ) (rows : List (List ℕ)) → AreEnds from (ends from rows) (from + total rows)
AreEnds-of from [] = sym (add-zero from)
AreEnds-of from (row ∷ rows) =
    let sum : from + length row + total rows ≡ from + total (row ∷ rows) = omega (arith, total-cons row rows) in
    (omega arith, subst (AreEnds (from + length row) (ends (from + length row) rows)) sum (AreEnds-of (from + length row) rows))

pub pieces-of : (from : ℕ) (rows : List (List ℕ)) (front : List ℕ) → length front ≡ from → pieces from (ends from rows) (front ++ flat_map (λ row. row) rows) ≡ rows
pieces-of from [] front len = refl
pieces-of from (row ∷ rows) front len =
    let rest = flat_map (λ (r : List ℕ). r) rows in
    let size : from + length row - from ≡ length row = omega arith in
    let here : take (from + length row - from) (drop from (front ++ (row ++ rest))) ≡ row = ap (λ (n : ℕ). take n (drop from (front ++ (row ++ rest)))) size ∙ ap (take (length row)) (drop_at front (row ++ rest) from len) ∙ take_at row rest (length row) refl in
    let table : front ++ (row ++ rest) ≡ (front ++ row) ++ rest = sym (append_assoc front row rest) in
    let later : pieces (from + length row) (ends (from + length row) rows) (front ++ (row ++ rest)) ≡ rows =
    ap (pieces (from + length row) (ends (from + length row) rows)) table ∙ pieces-of (from + length row) rows (front ++ row) (length-append front row ∙ ap (λ (n : ℕ). n + length row) len) in
    ap (λ p. p ∷ pieces (from + length row) (ends (from + length row) rows) (front ++ (row ++ rest))) here ∙ ap (λ ps. row ∷ ps) later
