-- Ranked halves.
use Rattle.std.proofs.Common.{Less, Equal, Greater, ◌≡◌, ◌≢◌, ℕ, ◌<◌, ◌≤◌, ℤ, pos, ◌+ℤ◌, ◌<ℤ◌, ◌≤ℤ◌, Bool, true, false, List, length, get_or, refl, sym, ap, ◌∙◌, inl, inr, arith}
use Rattle.std.specs.Prelude.{int_lt}
use Rattle.std.specs.List.{AllPairs, zip}
use Rattle.std.specs.List.Sorted.{IsSortedBy}
use Rattle.std.specs.Cmp.{IsTotalOrder}
use Rattle.std.specs.declared.cmp.Ordering.{Ordering}
use Rattle.std.specs.Ordering.{nat_cmp, int_cmp, on, then_cmp, flip_args, ordering_then, is_lt}
use Rattle.std.proofs.lemmas.Cmp.{ranked, int_ranked, on_total, then_total, back_total, nat_cmp_total, int_cmp_total}
use Rattle.std.proofs.lemmas.Int.{ints}
use Rattle.std.proofs.lemmas.Bool.{false≢true}
use Rattle.std.proofs.lemmas.List.{length-map, get_or-map}
use Rattle.std.proofs.lemmas.List.Sorted.{sorted_far, ranks_by}
use Rattle.std.proofs.lemmas.List.Sums.{prefix_len_is}
use Rattle.std.proofs.lemmas.Slice.Zip.{length-zip, get_or-zip}
use Rattle.exchange.specs.declared.entry.Entry.{Entry}
use Rattle.exchange.specs.Tries.{docs_of, no_entry, StandsBefore, gaining}
use Rattle.exchange.proofs.Exchanged.{Differ}

-- ---- the order of ranks

abbrev pub rank_cmp : Entry → Entry → Ordering
rank_cmp = then_cmp (flip_args (on (λ (entry : Entry). entry.gain) int_cmp)) (on (λ (entry : Entry). entry.doc) nat_cmp)

pub rank_total : IsTotalOrder rank_cmp
rank_total = then_total (back_total (on_total (λ (entry : Entry). entry.gain) int_cmp_total)) (on_total (λ (entry : Entry). entry.doc) nat_cmp_total)

stands : (x y : Entry) (r s : Ordering) → r ≡ int_cmp x.gain y.gain → s ≡ nat_cmp y.doc x.doc → is_lt (ordering_then r s) ≡ false → x.doc ≢ y.doc → StandsBefore x y
stands x y Less s is_r is_s test apart = absurd (false≢true (sym test))
stands x y Equal Less is_r is_s test apart = absurd (false≢true (sym test))
stands x y Equal Equal is_r is_s test apart = absurd (apart (sym (ranked y.doc x.doc Equal is_s)))
stands x y Equal Greater is_r is_s test apart = inr (int_ranked x.gain y.gain Equal is_r, ranked y.doc x.doc Greater is_s)
stands x y Greater s is_r is_s test apart = inl (int_ranked x.gain y.gain Greater is_r)

pub doc_at : (entries : List Entry) (k e : ℕ) (d : Entry) → k < length entries → get_or (docs_of entries) k e ≡ (get_or entries k d).doc
doc_at entries k e d within = get_or-map (λ (entry : Entry). entry.doc) entries k d e within

pub ranked_from_sorted : (entries : List Entry) → Differ (docs_of entries) → IsSortedBy (λ x y. is_lt (rank_cmp x y)) entries → AllPairs StandsBefore entries
ranked_from_sorted entries differ sorted i j d order within =
    let x = get_or entries i d in
    let y = get_or entries j d in
    let far : is_lt (rank_cmp y x) ≡ false = sorted_far (λ u v. is_lt (rank_cmp u v)) (ranks_by rank_total (λ (entry : Entry). entry)) entries sorted i j d (omega arith) within in
    stands x y (int_cmp x.gain y.gain) (nat_cmp y.doc x.doc) refl refl far (λ same.
    differ i j 0 order (omega (arith, length-map entries (λ (entry : Entry). entry.doc))) (doc_at entries i 0 d (omega arith) ∙ same ∙ sym (doc_at entries j 0 d within)))

-- ---- the pairs in front that gain something

gains : (z : ℤ) → pos 0 <ℤ z → int_lt (pos 0) z ≡ true
gains z above = grind (arith, ints)

gains_not : (z : ℤ) → z ≤ℤ pos 0 → int_lt (pos 0) z ≡ false
gains_not z low = grind (arith, ints)

pub gaining_is : (a b : List Entry) (n : ℕ) → n ≤ length a → n ≤ length b → ((k : ℕ) → k < n → pos 0 <ℤ ((get_or a k no_entry).gain +ℤ (get_or b k no_entry).gain))
    → (n < length a → n < length b → ((get_or a n no_entry).gain +ℤ (get_or b n no_entry).gain) ≤ℤ pos 0) → n ≡ gaining a b
gaining_is a b n low high passes stops =
    let test : Entry × Entry → Bool = λ (pair : Entry × Entry). int_lt (pos 0) (pair.0.gain +ℤ pair.1.gain) in
    sym (prefix_len_is test (zip a b) n (no_entry, no_entry) (omega (arith, length-zip a b))
    (λ k within. ap test (get_or-zip a b k (no_entry, no_entry) (omega arith) (omega arith)) ∙ gains ((get_or a k no_entry).gain +ℤ (get_or b k no_entry).gain) (passes k within))
    (λ within.
    let in_a : n < length a = omega (arith, length-zip a b, within) in
    let in_b : n < length b = omega (arith, length-zip a b, within) in
    ap test (get_or-zip a b n (no_entry, no_entry) in_a in_b) ∙ gains_not ((get_or a n no_entry).gain +ℤ (get_or b n no_entry).gain) (stops in_a in_b)))
