-- Where a list's postings stand in a table.
use Rattle.std.proofs.Common.{◌≡◌, ℕ, zero, suc, ◌+◌, List, [], ◌∷◌, ◌++◌, length, take, drop, refl, sym, ap, subst, ◌∙◌}
use Rattle.std.specs.Prelude.{slice_get, Some}
use Rattle.std.proofs.lemmas.List.{take_at, drop_at, drop-drop}
use Rattle.std.proofs.lemmas.List.Concat.{flat_map-cons}
use Rattle.std.proofs.lemmas.List.Sums.{sum_by-cons}
use Rattle.std.proofs.lemmas.Option.{same_Some, none-some}
use Rattle.rgb_base.specs.declared.parts.Posting.{Posting}
use Rattle.rgb_base.specs.declared.parts.TermList.{TermList}
use Rattle.rgb_base.specs.Parts.{posting_count}
use Rattle.rgb_base.specs.Table.{all_postings, cut_anew}

pub part_at : (lists : List TermList) (k : ℕ) (list : TermList) → slice_get lists k ≡ Some list
    → list.postings ≡ take (length list.postings) (drop (posting_count (take k lists)) (all_postings lists))
part_at [] k list at = absurd (none-some list at)
part_at (first ∷ lists) zero list at =
    let same : first ≡ list = same_Some first list at in
    subst (λ (l : TermList). l.postings ≡ take (length l.postings) (all_postings (first ∷ lists))) same
    (sym (ap (take (length first.postings)) (flat_map-cons (λ (l : TermList). l.postings) first lists) ∙ take_at first.postings (all_postings lists) (length first.postings) refl))
part_at (first ∷ lists) (suc k) list at =
    let n = length first.postings in
    let m = posting_count (take k lists) in
    let count : posting_count (take (suc k) (first ∷ lists)) ≡ n + m = sum_by-cons (λ (l : TermList). length l.postings) first (take k lists) in
    let whole = flat_map-cons (λ (l : TermList). l.postings) first lists in
    let behind : drop (posting_count (take (suc k) (first ∷ lists))) (all_postings (first ∷ lists)) ≡ drop m (all_postings lists) =
    ap (λ (i : ℕ). drop i (all_postings (first ∷ lists))) count ∙ ap (drop (n + m)) whole ∙ sym (drop-drop m n (first.postings ++ all_postings lists))
    ∙ ap (drop m) (drop_at first.postings (all_postings lists) n refl) in
    part_at lists k list at ∙ ap (take (length list.postings)) (sym behind)

pub cut_at : (lists : List TermList) (table : List Posting) (k : ℕ) (list : TermList) → slice_get lists k ≡ Some list
    → slice_get (cut_anew lists table) k ≡ Some (record list { postings = take (length list.postings) (drop (posting_count (take k lists)) table) })
unfolding cut_anew
cut_at [] table k list at = absurd (none-some list at)
cut_at (first ∷ lists) table zero list at =
    let same : first ≡ list = same_Some first list at in
    ap (λ (l : TermList). Some (record l { postings = take (length l.postings) table })) same
cut_at (first ∷ lists) table (suc k) list at =
    let n = length first.postings in
    let m = posting_count (take k lists) in
    let count : posting_count (take (suc k) (first ∷ lists)) ≡ n + m = sum_by-cons (λ (l : TermList). length l.postings) first (take k lists) in
    let behind : drop m (drop n table) ≡ drop (posting_count (take (suc k) (first ∷ lists))) table = drop-drop m n table ∙ ap (λ (i : ℕ). drop i table) (sym count) in
    cut_at lists (drop n table) k list at ∙ ap (λ (ps : List Posting). Some (record list { postings = take (length list.postings) ps })) behind

pub cut_whole : (lists : List TermList) → cut_anew lists (all_postings lists) ≡ lists
unfolding cut_anew
cut_whole [] = refl
cut_whole (first ∷ lists) =
    let n = length first.postings in
    let whole = flat_map-cons (λ (l : TermList). l.postings) first lists in
    let front : take n (all_postings (first ∷ lists)) ≡ first.postings = ap (take n) whole ∙ take_at first.postings (all_postings lists) n refl in
    let behind : drop n (all_postings (first ∷ lists)) ≡ all_postings lists = ap (drop n) whole ∙ drop_at first.postings (all_postings lists) n refl in
    ap (λ (ps : List Posting). record first { postings = ps } ∷ cut_anew lists (drop n (all_postings (first ∷ lists)))) front
    ∙ ap (λ (ps : List Posting). first ∷ cut_anew lists ps) behind ∙ ap (λ (ls : List TermList). first ∷ ls) (cut_whole lists)
