-- The parts of a table, by their numbers, and those of lists that stand side by side in one.
use Rattle.std.proofs.Common.{◌≡◌, ℕ, zero, suc, ◌+◌, ◌-◌, ◌<◌, ◌≤◌, List, [], ◌∷◌, ◌++◌, length, get_or, take, drop, refl, sym, ap, subst, ◌∙◌, arith, Some, length-append, map, add-one}
use Rattle.std.specs.Prelude.{slice_get, slice_range, slice_index_or, flat_map, sum_by}
use Rattle.std.proofs.lemmas.Option.{slice_get-get_or}
use Rattle.std.proofs.lemmas.List.{get_or_default, drop_at, take_at, append_assoc, length-take-le, length-drop, take-map, drop-map}
use Rattle.std.proofs.lemmas.List.Sums.{sum_by-cons}
use Rattle.rgb_base.specs.declared.parts.Posting.{Posting}
use Rattle.postings_rewrite.specs.Pieces.{pieces, AreCuts, start_from}

pub length-pieces : (from : ℕ) (ends : List ℕ) (table : List ℕ) → length (pieces from ends table) ≡ length ends
length-pieces from [] table = refl
length-pieces from (end ∷ ends) table = let h = length-pieces end ends table in omega (arith, h)

from-le : (from : ℕ) (ends : List ℕ) (limit : ℕ) → AreCuts from ends limit → from ≤ limit
from-le from [] limit h = h
from-le from (end ∷ ends) limit h = let first : from ≤ end = h.0 in let rest = from-le end ends limit h.1 in omega (arith, first, rest)

-- a part by its number
pub piece_at : (from : ℕ) (ends : List ℕ) (table : List ℕ) (k : ℕ) (d : List ℕ) → k < length ends
    → get_or (pieces from ends table) k d ≡ take (get_or ends k 0 - start_from from ends k) (drop (start_from from ends k) table)
piece_at from [] table k d h = absurd (omega (arith, h))
piece_at from (end ∷ ends) table zero d h = refl
piece_at from (end ∷ ends) table (suc zero) d h = piece_at end ends table 0 d (omega (arith, h))
piece_at from (end ∷ ends) table (suc (suc k)) d h = piece_at end ends table (suc k) d (omega (arith, h))

pub start_from-le : (from : ℕ) (ends : List ℕ) (limit k : ℕ) → AreCuts from ends limit → k < length ends → start_from from ends k ≤ get_or ends k 0
start_from-le from [] limit k h lt = absurd (omega (arith, lt))
start_from-le from (end ∷ ends) limit zero h lt = h.0
start_from-le from (end ∷ ends) limit (suc zero) h lt = start_from-le end ends limit 0 h.1 (omega (arith, lt))
start_from-le from (end ∷ ends) limit (suc (suc k)) h lt = start_from-le end ends limit (suc k) h.1 (omega (arith, lt))

pub end-le : (from : ℕ) (ends : List ℕ) (limit k : ℕ) → AreCuts from ends limit → k < length ends → get_or ends k 0 ≤ limit
end-le from [] limit k h lt = absurd (omega (arith, lt))
end-le from (end ∷ ends) limit zero h lt = from-le end ends limit h.1
end-le from (end ∷ ends) limit (suc k) h lt = end-le end ends limit k h.1 (omega (arith, lt))

-- ---- what the tables tell of the parts

pub part_read : (ends table : List ℕ) (parts : List (List ℕ)) (k from end : ℕ) → pieces 0 ends table ≡ parts → k < length ends
    → from ≡ start_from 0 ends k → end ≡ get_or ends k end → slice_get parts k ≡ Some (slice_range table from end)
part_read ends table parts k from end same lt start stop =
    let stop' : get_or ends k 0 ≡ end = get_or_default ends k 0 end lt ∙ sym stop in
    subst (λ parts. slice_get parts k ≡ Some (slice_range table from end)) same
    (slice_get-get_or (pieces 0 ends table) k [] (omega (arith, lt, length-pieces 0 ends table))
    ∙ ap Some (piece_at 0 ends table k [] lt ∙ ap (λ (n : ℕ). take (get_or ends k 0 - n) (drop n table)) (sym start) ∙ ap (λ (n : ℕ). take (n - from) (drop from table)) stop'))

pub part_order : (ends : List ℕ) (limit k from end : ℕ) → AreCuts 0 ends limit → k < length ends → from ≡ start_from 0 ends k → end ≡ get_or ends k end → from ≤ end
part_order ends limit k from end cuts lt start stop = omega (arith, start, stop, get_or_default ends k end 0 lt, start_from-le 0 ends limit k cuts lt)

pub part_within : (ends : List ℕ) (limit k end : ℕ) → AreCuts 0 ends limit → k < length ends → end ≡ get_or ends k end → end ≤ limit
part_within ends limit k end cuts lt stop = omega (arith, stop, get_or_default ends k end 0 lt, end-le 0 ends limit k cuts lt)

-- an element that stands in the list is the one at its place, whatever stands for none
pub read_at : (parts : List (List ℕ)) (k : ℕ) (part : List ℕ) → k < length parts → slice_get parts k ≡ Some part → slice_index_or parts k [] ≡ part
read_at parts k part lt read = let found = slice_get-get_or parts k [] lt in cc

-- a part of the documents of a table
pub piece_of : (ends : List ℕ) (table : List Posting) (k from end : ℕ) → k < length ends → from ≡ start_from 0 ends k → end ≡ get_or ends k 0
    → map (λ posting. posting.doc) (slice_range table from end) ≡ get_or (pieces 0 ends (map (λ posting. posting.doc) table)) k []
piece_of ends table k from end within start stop =
    let doc_of = λ (posting : Posting). posting.doc in
    let docs = map doc_of table in
    let front : take (end - from) (drop from docs) ≡ map doc_of (slice_range table from end) = ap (take (end - from)) (drop-map doc_of from table) ∙ take-map doc_of (end - from) (drop from table) in
    let there : get_or (pieces 0 ends docs) k [] ≡ take (end - from) (drop from docs) =
    piece_at 0 ends docs k [] within ∙ (ap (λ (n : ℕ). take (get_or ends k 0 - n) (drop n docs)) (sym start) ∙ ap (λ (n : ℕ). take (n - from) (drop from docs)) (sym stop)) in
    sym (there ∙ front)

pub start_from-next : (from : ℕ) (ends : List ℕ) (k : ℕ) → start_from from ends (k + 1) ≡ get_or ends k 0
start_from-next from ends k = ap (start_from from ends) (add-one k)

-- ---- lists side by side

abbrev pub ends_from : ℕ → List (List ℕ) → List ℕ
ends_from from [] = []
ends_from from (part ∷ parts) = (from + length part) ∷ ends_from (from + length part) parts

abbrev pub total : List (List ℕ) → ℕ
total parts = sum_by (λ (part : List ℕ). length part) parts

pub length-ends_from : (from : ℕ) (parts : List (List ℕ)) → length (ends_from from parts) ≡ length parts
length-ends_from from [] = refl
length-ends_from from (part ∷ parts) = let h = length-ends_from (from + length part) parts in omega (arith, h)

pub AreCuts-of : (from : ℕ) (parts : List (List ℕ)) (limit : ℕ) → from + total parts ≤ limit → AreCuts from (ends_from from parts) limit
AreCuts-of from [] limit le = omega (arith, le)
AreCuts-of from (part ∷ parts) limit le =
    let sum = sum_by-cons (λ (part : List ℕ). length part) part parts in
    (omega arith, AreCuts-of (from + length part) parts limit (omega (arith, le, sum)))

pub pieces-of : (from : ℕ) (parts : List (List ℕ)) (front : List ℕ) → length front ≡ from → pieces from (ends_from from parts) (front ++ flat_map (λ part. part) parts) ≡ parts
pieces-of from [] front len = refl
pieces-of from (part ∷ parts) front len =
    let rest = flat_map (λ (r : List ℕ). r) parts in
    let size : from + length part - from ≡ length part = omega arith in
    let here : take (from + length part - from) (drop from (front ++ (part ++ rest))) ≡ part = ap (λ (n : ℕ). take n (drop from (front ++ (part ++ rest)))) size ∙ ap (take (length part)) (drop_at front (part ++ rest) from len) ∙ take_at part rest (length part) refl in
    let table : front ++ (part ++ rest) ≡ (front ++ part) ++ rest = sym (append_assoc front part rest) in
    let later : pieces (from + length part) (ends_from (from + length part) parts) (front ++ (part ++ rest)) ≡ parts =
    ap (pieces (from + length part) (ends_from (from + length part) parts)) table ∙ pieces-of (from + length part) parts (front ++ part) (length-append front part ∙ ap (λ (n : ℕ). n + length part) len) in
    ap (λ p. p ∷ pieces (from + length part) (ends_from (from + length part) parts) (front ++ (part ++ rest))) here ∙ ap (λ ps. part ∷ ps) later
