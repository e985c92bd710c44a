-- A table of renumbered postings, put together of parts.
use Rattle.std.proofs.Common.{◌≡◌, ℕ, ◌+◌, ◌<◌, ◌≤◌, List, [], ◌∷◌, ◌++◌, length, take, drop, get_or, refl, sym, subst, ap, arith}
use Rattle.std.specs.List.{AllZip}
use Rattle.std.specs.Prelude.{slice_range}
use Rattle.std.proofs.lemmas.List.{take-append-le, drop-append-le, length-drop, length-append, take_all, nil_from_length}
use Rattle.std.proofs.lemmas.List.Sums.{sum_by-append, sum_by-cons}
use Rattle.rayon.proofs.ListFacts.{AllZip-append}
use Rattle.rgb_base.specs.declared.parts.Posting.{Posting}
use Rattle.rgb_base.specs.declared.parts.TermList.{TermList}
use Rattle.rgb_base.specs.Parts.{posting_count}
use Rattle.rgb_base.specs.Table.{cut_anew}
use Rattle.postings_rewrite.specs.Renumbering.{ArePostingsRenumbered, IsListRenumbered}
use Rattle.postings_rewrite.specs.Tables.{IsTableRenumbered}
use Rattle.postings_rewrite.proofs.Lists.{no_list, range_both, range_more, range_none}

pub cut_anew-append : (xs ys : List TermList) (front back : List Posting) → length front ≡ posting_count xs → cut_anew (xs ++ ys) (front ++ back) ≡ cut_anew xs front ++ cut_anew ys back
unfolding cut_anew
cut_anew-append [] ys front back len = ap (λ (postings : List Posting). cut_anew ys (postings ++ back)) (nil_from_length front len)
cut_anew-append (x ∷ xs) ys front back len =
    let n = length x.postings in
    let count = sum_by-cons (λ (list : TermList). length list.postings) x xs in
    let fits : n ≤ length front = omega (arith, len, count) in
    let here : take n (front ++ back) ≡ take n front = take-append-le n front back fits in
    let rest : drop n (front ++ back) ≡ drop n front ++ back = drop-append-le n front back fits in
    let left : length (drop n front) ≡ posting_count xs = omega (arith, len, count, length-drop n front) in
    rw (here, rest, cut_anew-append xs ys (drop n front) back left) refl

pub IsTableRenumbered-none : (order : List ℕ) → IsTableRenumbered order [] []
unfolding cut_anew
IsTableRenumbered-none order = record { len = refl; parts = tt }

pub IsTableRenumbered-one : (order : List ℕ) (list : TermList) (part : List Posting) → length part ≡ length list.postings → ArePostingsRenumbered order list.postings part → IsTableRenumbered order (list ∷ []) part
unfolding cut_anew
IsTableRenumbered-one order list part len is =
    let whole : take (length list.postings) part ≡ part = take_all (length list.postings) part (omega arith) in
    record {
      len = omega (arith, len, sum_by-cons (λ (list : TermList). length list.postings) list []);
      parts = (record { term = refl; df = refl; cf = refl; postings = subst (ArePostingsRenumbered order list.postings) (sym whole) is }, tt);
    }

pub IsTableRenumbered-append : (order : List ℕ) (xs ys : List TermList) (front back : List Posting) → IsTableRenumbered order xs front → IsTableRenumbered order ys back → IsTableRenumbered order (xs ++ ys) (front ++ back)
IsTableRenumbered-append order xs ys front back one other = record {
  len = omega (arith, one.len, other.len, length-append front back, sum_by-append (λ (list : TermList). length list.postings) xs ys);
  parts = subst (AllZip (IsListRenumbered order) (xs ++ ys)) (sym (cut_anew-append xs ys front back one.len)) (AllZip-append (IsListRenumbered order) xs ys (cut_anew xs front) (cut_anew ys back) one.parts other.parts);
}

pub IsTableRenumbered-both : (order : List ℕ) (lists : List TermList) (from middle to : ℕ) (front back : List Posting) → from ≤ middle → middle ≤ to → IsTableRenumbered order (slice_range lists from middle) front → IsTableRenumbered order (slice_range lists middle to) back → IsTableRenumbered order (slice_range lists from to) (front ++ back)
IsTableRenumbered-both order lists from middle to front back low high one other =
    subst (λ (xs : List TermList). IsTableRenumbered order xs (front ++ back)) (sym (range_both lists from middle to low high)) (IsTableRenumbered-append order (slice_range lists from middle) (slice_range lists middle to) front back one other)

pub IsTableRenumbered-more : (order : List ℕ) (lists : List TermList) (from i : ℕ) (table part : List Posting) → from ≤ i → i < length lists → length part ≡ length (get_or lists i no_list).postings → IsTableRenumbered order (slice_range lists from i) table → ArePostingsRenumbered order (get_or lists i no_list).postings part → IsTableRenumbered order (slice_range lists from (i + 1)) (table ++ part)
IsTableRenumbered-more order lists from i table part low within len before is =
    subst (λ (xs : List TermList). IsTableRenumbered order xs (table ++ part)) (sym (range_more lists from i no_list low within))
    (IsTableRenumbered-append order (slice_range lists from i) (get_or lists i no_list ∷ []) table part before (IsTableRenumbered-one order (get_or lists i no_list) part len is))

pub IsTableRenumbered-start : (order : List ℕ) (lists : List TermList) (from : ℕ) (table : List Posting) → table ≡ [] → IsTableRenumbered order (slice_range lists from from) table
IsTableRenumbered-start order lists from table empty =
    subst (IsTableRenumbered order (slice_range lists from from)) (sym empty)
    (subst (λ (xs : List TermList). IsTableRenumbered order xs []) (sym (range_none lists from)) (IsTableRenumbered-none order))
