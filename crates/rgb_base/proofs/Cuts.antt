-- The parts of a table: what one more end, more elements or another table make of them.
use Rattle.std.proofs.Common.{◌≡◌, ℕ, zero, suc, ◌+◌, ◌-◌, ◌<◌, ◌≤◌, List, [], ◌∷◌, ◌++◌, length, get_or, take, drop, sum_by, refl, sym, ap, subst, ◌∙◌, arith, length-drop, Some, All, cond}
use Rattle.std.specs.Prelude.{slice_get, slice_range, Result, Ok, Err, is_ok, IsOk}
use Rattle.std.proofs.lemmas.Bool.{false≢true}
use Rattle.std.proofs.lemmas.Option.{slice_get-get_or}
use Rattle.std.proofs.lemmas.List.Elements.{All-get_or}
use Rattle.std.proofs.lemmas.List.{get_or_default, take-append-drop, take_all, take-append-le, drop-append-le, drop_at, length-take-le, drop-drop}
use Rattle.std.proofs.lemmas.List.Sums.{sum_by-cons}
use Rattle.std.proofs.Math.Seq.{take-add}
use Rattle.std.specs.List.{flat_map}
use Rattle.rgb_base.specs.declared.parts.Posting.{Posting}
use Rattle.rgb_base.specs.Flat.{pieces, last_end, AreCuts, start_from, cut_like}

pub length-pieces : {X : Type 0} (from : ℕ) (ends : List ℕ) (table : List X) → length (pieces from ends table) ≡ length ends
length-pieces from [] table = refl
length-pieces from (end ∷ ends) table = let h = length-pieces end ends table in omega (arith, h)

pub last_end-le : (from : ℕ) (ends : List ℕ) (limit : ℕ) → AreCuts from ends limit → last_end from ends ≤ limit
last_end-le from [] limit h = h
last_end-le from (end ∷ ends) limit h = last_end-le end ends limit h.1

pub le-last_end : (from : ℕ) (ends : List ℕ) (limit : ℕ) → AreCuts from ends limit → from ≤ last_end from ends
le-last_end from [] limit h = omega arith
le-last_end from (end ∷ ends) limit h = let first : from ≤ end = h.0 in let rest = le-last_end end ends limit h.1 in omega (arith, first, rest)

pub AreCuts-grown : (from : ℕ) (ends : List ℕ) (limit more : ℕ) → AreCuts from ends limit → limit ≤ more → AreCuts from ends more
AreCuts-grown from [] limit more h le = let first : from ≤ limit = h in omega (arith, first, le)
AreCuts-grown from (end ∷ ends) limit more h le = (h.0, AreCuts-grown end ends limit more h.1 le)

-- one more end, which is that of the table
pub AreCuts-more : (from : ℕ) (ends : List ℕ) (limit : ℕ) → AreCuts from ends limit → AreCuts from (ends ++ limit ∷ []) limit
AreCuts-more from [] limit h = (h, omega arith)
AreCuts-more from (end ∷ ends) limit h = (h.0, AreCuts-more end ends limit h.1)

pub last_end-more : (from : ℕ) (ends : List ℕ) (end : ℕ) → last_end from (ends ++ end ∷ []) ≡ end
last_end-more from [] end = refl
last_end-more from (first ∷ ends) end = last_end-more first ends end

-- the part of a longer table
piece-grown : {X : Type 0} (from end : ℕ) (table more : List X) → from ≤ end → end ≤ length table → take (end - from) (drop from (table ++ more)) ≡ take (end - from) (drop from table)
piece-grown from end table more low high =
    let within : from ≤ length table = omega (arith, low, high) in
    let inside : end - from ≤ length (drop from table) = omega (arith, low, high, length-drop from table) in
    ap (take (end - from)) (drop-append-le from table more within) ∙ take-append-le (end - from) (drop from table) more inside

pub pieces-grown : {X : Type 0} (from : ℕ) (ends : List ℕ) (table more : List X) → AreCuts from ends (length table) → pieces from ends (table ++ more) ≡ pieces from ends table
pieces-grown from [] table more h = refl
pieces-grown from (end ∷ ends) table more h =
    let first = piece-grown from end table more h.0 (let low = le-last_end end ends (length table) h.1 in let high = last_end-le end ends (length table) h.1 in omega (arith, low, high)) in
    let rest = pieces-grown end ends table more h.1 in
    ap (λ p. p ∷ pieces end ends (table ++ more)) first ∙ ap (λ ps. take (end - from) (drop from table) ∷ ps) rest

pub pieces-more : {X : Type 0} (from : ℕ) (ends : List ℕ) (end : ℕ) (table : List X)
    → pieces from (ends ++ end ∷ []) table ≡ pieces from ends table ++ take (end - last_end from ends) (drop (last_end from ends) table) ∷ []
pieces-more from [] end table = refl
pieces-more from (first ∷ ends) end table = ap (λ ps. take (first - from) (drop from table) ∷ ps) (pieces-more first ends end table)

-- one more part, to the end of the table
pub pieces_closed : {X : Type 0} (from : ℕ) (ends : List ℕ) (table : List X)
    → pieces from (ends ++ length table ∷ []) table ≡ pieces from ends table ++ drop (last_end from ends) table ∷ []
pieces_closed from ends table =
    let last = last_end from ends in
    let whole : take (length table - last) (drop last table) ≡ drop last table = take_all (length table - last) (drop last table) (omega (arith, length-drop last table)) in
    pieces-more from ends (length table) table ∙ ap (λ p. pieces from ends table ++ p ∷ []) whole

-- a part by its number
pub piece_at : {X : Type 0} (from : ℕ) (ends : List ℕ) (table : List X) (k : ℕ) (d : List X) → k < length ends
    → get_or (pieces from ends table) k d ≡ take (get_or ends k 0 - start_from from ends k) (drop (start_from from ends k) table)
piece_at from [] table k d h = absurd (omega (arith, h))
piece_at from (end ∷ ends) table zero d h = refl
piece_at from (end ∷ ends) table (suc zero) d h = piece_at end ends table 0 d (omega (arith, h))
piece_at from (end ∷ ends) table (suc (suc k)) d h = piece_at end ends table (suc k) d (omega (arith, h))

pub start_from-le : (from : ℕ) (ends : List ℕ) (limit k : ℕ) → AreCuts from ends limit → k < length ends → start_from from ends k ≤ get_or ends k 0
start_from-le from [] limit k h lt = absurd (omega (arith, lt))
start_from-le from (end ∷ ends) limit zero h lt = h.0
start_from-le from (end ∷ ends) limit (suc zero) h lt = start_from-le end ends limit 0 h.1 (omega (arith, lt))
start_from-le from (end ∷ ends) limit (suc (suc k)) h lt = start_from-le end ends limit (suc k) h.1 (omega (arith, lt))

pub end-le : (from : ℕ) (ends : List ℕ) (limit k : ℕ) → AreCuts from ends limit → k < length ends → get_or ends k 0 ≤ limit
end-le from [] limit k h lt = absurd (omega (arith, lt))
end-le from (end ∷ ends) limit zero h lt = let low = le-last_end end ends limit h.1 in let high = last_end-le end ends limit h.1 in omega (arith, low, high)
end-le from (end ∷ ends) limit (suc k) h lt = end-le end ends limit k h.1 (omega (arith, lt))

-- the parts one behind another
pub flat_map-pieces : {X : Type 0} (from : ℕ) (ends : List ℕ) (table : List X) → AreCuts from ends (length table)
    → flat_map (λ part. part) (pieces from ends table) ≡ take (last_end from ends - from) (drop from table)
flat_map-pieces from [] table h = let none : from - from ≡ 0 = omega arith in sym (ap (λ n. take n (drop from table)) none)
flat_map-pieces from (end ∷ ends) table h =
    let last = last_end end ends in
    let low : from ≤ end = h.0 in
    let high = le-last_end end ends (length table) h.1 in
    let at : from + (end - from) ≡ end = omega (arith, low) in
    let both : (end - from) + (last - end) ≡ last - from = omega (arith, low, high) in
    let there : drop (end - from) (drop from table) ≡ drop end table = drop-drop (end - from) from table ∙ ap (λ n. drop n table) at in
    ap (λ xs. take (end - from) (drop from table) ++ xs) (flat_map-pieces end ends table h.1 ∙ ap (take (last - end)) (sym there))
    ∙ sym (take-add (end - from) (last - end) (drop from table)) ∙ ap (λ n. take n (drop from table)) both

length-piece : {X : Type 0} (from end : ℕ) (ends : List ℕ) (table : List X) → AreCuts from (end ∷ ends) (length table) → length (take (end - from) (drop from table)) ≡ end - from
length-piece from end ends table h =
    let low : from ≤ end = h.0 in
    let up = le-last_end end ends (length table) h.1 in
    let high = last_end-le end ends (length table) h.1 in
    length-take-le (end - from) (drop from table) (omega (arith, low, up, high, length-drop from table))

pub sum_by-pieces : {X : Type 0} (from : ℕ) (ends : List ℕ) (table : List X) → AreCuts from ends (length table)
    → sum_by (λ part. length part) (pieces from ends table) + from ≡ last_end from ends
sum_by-pieces from [] table h = omega arith
sum_by-pieces {X} from (end ∷ ends) table h =
    let low : from ≤ end = h.0 in
    let first = length-piece from end ends table h in
    let rest = sum_by-pieces end ends table h.1 in
    omega (arith, low, first, rest, sum_by-cons (λ (part : List X). length part) (take (end - from) (drop from table)) (pieces end ends table))

pub running_total : {X : Type 0} (from : ℕ) (ends : List ℕ) (table : List X) (k : ℕ) → AreCuts from ends (length table) → k < length ends
    → get_or ends k 0 ≡ sum_by (λ part. length part) (take (suc k) (pieces from ends table)) + from
running_total from [] table k h lt = absurd (omega (arith, lt))
running_total {X} from (end ∷ ends) table zero h lt =
    let first = length-piece from end ends table h in
    let low : from ≤ end = h.0 in
    omega (arith, low, first, sum_by-cons (λ (part : List X). length part) (take (end - from) (drop from table)) [])
running_total {X} from (end ∷ ends) table (suc k) h lt =
    let first = length-piece from end ends table h in
    let low : from ≤ end = h.0 in
    let rest = running_total end ends table k h.1 (omega (arith, lt)) in
    omega (arith, low, first, rest, sum_by-cons (λ (part : List X). length part) (take (end - from) (drop from table)) (take (suc k) (pieces end ends table)))

-- the same places in another table
pub cut_like-pieces : (from : ℕ) (ends : List ℕ) (table other : List Posting) → AreCuts from ends (length table)
    → cut_like (pieces from ends table) (drop from other) ≡ pieces from ends other
cut_like-pieces from [] table other h = refl
cut_like-pieces from (end ∷ ends) table other h =
    let first = length-piece from end ends table h in
    let low : from ≤ end = h.0 in
    let at : from + (end - from) ≡ end = omega (arith, low) in
    let there : drop (end - from) (drop from other) ≡ drop end other = drop-drop (end - from) from other ∙ ap (λ n. drop n other) at in
    let rest : List Posting → List (List Posting) = cut_like (pieces end ends table) in
    ap (λ n. take n (drop from other) ∷ rest (drop n (drop from other))) first
    ∙ ap (λ xs. take (end - from) (drop from other) ∷ rest xs) there
    ∙ ap (λ ps. take (end - from) (drop from other) ∷ ps) (cut_like-pieces end ends table other h.1)

-- ---- what a table tells of its parts, where they are those of this list

pub within_ends : {X : Type 0} (ends : List ℕ) (table : List X) (closed : List (List X)) (k : ℕ) → pieces 0 ends table ≡ closed → k < length closed → k < length ends
within_ends ends table closed k same lt = omega (arith, lt, ap length same, length-pieces 0 ends table)

pub part_read : {X : Type 0} (ends : List ℕ) (table : List X) (closed : List (List X)) (k from end : ℕ) → pieces 0 ends table ≡ closed → k < length closed
    → from ≡ start_from 0 ends k → end ≡ get_or ends k end → slice_get closed k ≡ Some (slice_range table from end)
part_read ends table closed k from end same lt start stop =
    let within = within_ends ends table closed k same lt in
    let stop' : get_or ends k 0 ≡ end = get_or_default ends k 0 end within ∙ sym stop in
    subst (λ parts. slice_get parts k ≡ Some (slice_range table from end)) same
    (slice_get-get_or (pieces 0 ends table) k [] (omega (arith, within, length-pieces 0 ends table))
    ∙ ap Some (piece_at 0 ends table k [] within ∙ ap (λ (n : ℕ). take (get_or ends k 0 - n) (drop n table)) (sym start) ∙ ap (λ (n : ℕ). take (n - from) (drop from table)) stop'))

pub part_order : (ends : List ℕ) (limit k from end : ℕ) → AreCuts 0 ends limit → k < length ends → from ≡ start_from 0 ends k → end ≡ get_or ends k end → from ≤ end
part_order ends limit k from end cuts lt start stop = omega (arith, start, stop, get_or_default ends k end 0 lt, start_from-le 0 ends limit k cuts lt)

pub part_within : (ends : List ℕ) (limit k end : ℕ) → AreCuts 0 ends limit → k < length ends → end ≡ get_or ends k end → end ≤ limit
part_within ends limit k end cuts lt stop = omega (arith, stop, get_or_default ends k end 0 lt, end-le 0 ends limit k cuts lt)

-- a start is 0 or an end
pub start_from-All : (P : ℕ → Type 0) (ends : List ℕ) (k from : ℕ) → All P ends → k < length ends → from ≡ start_from 0 ends k → 0 < from → P from
start_from-All P ends zero from all lt start some = absurd (omega (arith, start, some))
start_from-All P ends (suc k) from all lt start some = subst P (sym start) (All-get_or P ends k 0 (omega (arith, lt)) all)

pub end-All : (P : ℕ → Type 0) (ends : List ℕ) (k end : ℕ) → All P ends → k < length ends → end ≡ get_or ends k end → P end
end-All P ends k end all lt stop = subst P (sym stop) (All-get_or P ends k end lt all)

pub table_length : {X : Type 0} (ends : List ℕ) (table : List X) → AreCuts 0 ends (length table)
    → length table ≡ sum_by (λ part. length part) (pieces 0 ends table) + length (drop (last_end 0 ends) table)
table_length ends table cuts =
    let sum = sum_by-pieces 0 ends table cuts in
    let high = last_end-le 0 ends (length table) cuts in
    omega (arith, sum, high, length-drop (last_end 0 ends) table)

pub table_whole : {X : Type 0} (ends : List ℕ) (table : List X) → AreCuts 0 ends (length table)
    → table ≡ flat_map (λ part. part) (pieces 0 ends table) ++ drop (last_end 0 ends) table
table_whole ends table cuts =
    let last = last_end 0 ends in
    let less : last - 0 ≡ last = omega arith in
    let front = flat_map-pieces 0 ends table cuts ∙ ap (λ n. take n table) less in
    sym (take-append-drop last table) ∙ ap (λ xs. xs ++ drop last table) (sym front)

-- where nothing stands behind the last part, it ends with the table
pub last_end-whole : {X : Type 0} (ends : List ℕ) (table : List X) → AreCuts 0 ends (length table) → drop (last_end 0 ends) table ≡ [] → last_end 0 ends ≡ length table
last_end-whole ends table cuts none =
    let high = last_end-le 0 ends (length table) cuts in
    omega (arith, high, length-drop (last_end 0 ends) table, ap length none)

-- one more part behind the last one, where nothing stood there
pub pieces_pushed : {X : Type 0} (ends : List ℕ) (table part : List X) → AreCuts 0 ends (length table) → last_end 0 ends ≡ length table
    → pieces 0 (ends ++ length (table ++ part) ∷ []) (table ++ part) ≡ pieces 0 ends table ++ part ∷ []
pieces_pushed ends table part cuts whole =
    let behind : drop (last_end 0 ends) (table ++ part) ≡ part = ap (λ n. drop n (table ++ part)) whole ∙ drop_at table part (length table) refl in
    pieces_closed 0 ends (table ++ part) ∙ ap (λ ps. ps ++ drop (last_end 0 ends) (table ++ part) ∷ []) (pieces-grown 0 ends table part cuts)
    ∙ ap (λ p. pieces 0 ends table ++ p ∷ []) behind

pub AreCuts-pushed : (ends : List ℕ) (limit more : ℕ) → AreCuts 0 ends limit → limit ≤ more → AreCuts 0 (ends ++ more ∷ []) more
AreCuts-pushed ends limit more cuts le = AreCuts-more 0 ends more (AreCuts-grown 0 ends limit more cuts le)

-- a push for which there was room
pub pushed_within : {X T E : Type 0} (r : Result T E) (now was pushed : List X) → IsOk r → now ≡ cond (is_ok r) pushed was → now ≡ pushed
pushed_within (Ok x) now was pushed h e = e
pushed_within (Err x) now was pushed h e = absurd (false≢true h)
