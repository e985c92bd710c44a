-- Parts of a list of lists, one behind another.
use Rattle.std.proofs.Common.{◌≡◌, ℕ, ◌+◌, ◌-◌, ◌<◌, ◌≤◌, List, [], ◌∷◌, ◌++◌, length, take, drop, get_or, Some, option_map, ap, ◌∙◌, arith, drop-cons}
use Rattle.std.specs.Prelude.{pos, slice_get, slice_range}
use Rattle.std.proofs.Math.Seq.{take-add}
use Rattle.std.proofs.lemmas.List.{drop-drop, take_all}
use Rattle.std.proofs.lemmas.List.Sums.{sum_by-append, sum_by-cons}
use Rattle.std.proofs.lemmas.Option.{slice_get-get_or}
use Rattle.rgb_base.specs.declared.parts.Posting.{Posting}
use Rattle.rgb_base.specs.declared.parts.TermList.{TermList}
use Rattle.rgb_base.specs.Parts.{posting_count}

abbrev pub no_list : TermList
no_list = record { term = []; df = pos 0; cf = pos 0; postings = [] }

pub range_both : {X : Type 0} (xs : List X) (from middle to : ℕ) → from ≤ middle → middle ≤ to → slice_range xs from to ≡ slice_range xs from middle ++ slice_range xs middle to
range_both xs from middle to low high =
    let lengths : to - from ≡ (middle - from) + (to - middle) = omega arith in
    let place : from + (middle - from) ≡ middle = omega arith in
    ap (λ n. take n (drop from xs)) lengths ∙ take-add (middle - from) (to - middle) (drop from xs)
    ∙ ap (λ ys. take (middle - from) (drop from xs) ++ take (to - middle) ys) (drop-drop (middle - from) from xs ∙ ap (λ n. drop n xs) place)

range_one : {X : Type 0} (xs : List X) (i : ℕ) (d : X) → i < length xs → slice_range xs i (i + 1) ≡ get_or xs i d ∷ []
range_one xs i d within =
    let one : i + 1 - i ≡ 1 = omega arith in
    ap (λ n. take n (drop i xs)) one ∙ ap (take 1) (drop-cons xs i d within)

pub range_more : {X : Type 0} (xs : List X) (from i : ℕ) (d : X) → from ≤ i → i < length xs → slice_range xs from (i + 1) ≡ slice_range xs from i ++ get_or xs i d ∷ []
range_more xs from i d order within = range_both xs from i (i + 1) order (omega arith) ∙ ap (λ ys. slice_range xs from i ++ ys) (range_one xs i d within)

pub range_none : {X : Type 0} (xs : List X) (i : ℕ) → slice_range xs i i ≡ []
range_none xs i = let none : i - i ≡ 0 = omega arith in ap (λ n. take n (drop i xs)) none

pub range_all : {X : Type 0} (xs : List X) → slice_range xs 0 (length xs) ≡ xs
range_all xs = take_all (length xs - 0) xs (omega arith)

-- ---- how many postings they have

pub count_both : (lists : List TermList) (from middle to : ℕ) → from ≤ middle → middle ≤ to → posting_count (slice_range lists from to) ≡ posting_count (slice_range lists from middle) + posting_count (slice_range lists middle to)
count_both lists from middle to low high =
    ap posting_count (range_both lists from middle to low high) ∙ sum_by-append (λ (list : TermList). length list.postings) (slice_range lists from middle) (slice_range lists middle to)

pub count_more : (lists : List TermList) (from i : ℕ) → from ≤ i → i < length lists → posting_count (slice_range lists from (i + 1)) ≡ posting_count (slice_range lists from i) + length (get_or lists i no_list).postings
count_more lists from i order within =
    let one = sum_by-cons (λ (list : TermList). length list.postings) (get_or lists i no_list) [] in
    omega (arith, ap posting_count (range_more lists from i no_list order within), sum_by-append (λ (list : TermList). length list.postings) (slice_range lists from i) (get_or lists i no_list ∷ []), one)

pub count_none : (lists : List TermList) (i : ℕ) → posting_count (slice_range lists i i) ≡ 0
count_none lists i = ap posting_count (range_none lists i)

-- the lists up to one have no more postings than those up to a later one, nor than all
pub count_within : (lists : List TermList) (from i to : ℕ) → from ≤ i → i ≤ to → posting_count (slice_range lists from i) ≤ posting_count (slice_range lists from to)
count_within lists from i to low high = omega (arith, count_both lists from i to low high)

pub count_below : (lists : List TermList) (from to : ℕ) → from ≤ to → to ≤ length lists → posting_count (slice_range lists from to) ≤ posting_count lists
count_below lists from to order within =
    omega (arith, count_both lists 0 from (length lists) (omega arith) (omega arith), count_both lists from to (length lists) order within, ap posting_count (range_all lists))

pub postings_read : (lists : List TermList) (i : ℕ) (postings : List Posting) → i < length lists → option_map (λ (list : TermList). list.postings) (slice_get lists i) ≡ Some postings → (get_or lists i no_list).postings ≡ postings
postings_read lists i postings within read = let found = slice_get-get_or lists i no_list within in cc
