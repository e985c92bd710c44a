-- An index with other postings.
use Rattle.std.proofs.Common.{◌≡◌, ℕ, ◌+◌, ◌-◌, ◌^◌, ◌<◌, ◌≤◌, List, [], ◌∷◌, length, take, drop, sum_by, All, refl, sym, ap, subst, ◌∙◌, arith, length-drop}
use Rattle.std.specs.Prelude.{FitsSigned}
use Rattle.std.specs.Int.{w32}
use Rattle.std.proofs.lemmas.List.{length-take-le}
use Rattle.std.proofs.lemmas.List.Sums.{sum_by-cons}
use Rattle.std.proofs.lemmas.List.Elements.{All-head, All-tail, All-nil, All-cons, All-take, All-drop}
use Rattle.rgb_base.specs.declared.parts.Posting.{Posting}
use Rattle.rgb_base.specs.declared.parts.TermList.{TermList}
use Rattle.rgb_base.specs.declared.columns.Counts.{Counts}
use Rattle.rgb_base.specs.Parts.{IndexParts, IsIndex, terms_of, posting_count, AreOrdered, AreDifferent, FitsList}
use Rattle.rgb_base.specs.Flat.{AreCuts, pieces, last_end, lists_of}
use Rattle.rgb_base.specs.Table.{AreSplits, cut_at, with_postings}
use Rattle.rgb_base.proofs.Rows.{sum_by-mapped}

-- ---- ends

pub AreCuts-splits : (from : ℕ) (ends : List ℕ) (size : ℕ) → AreSplits from ends size → AreCuts from ends size
AreCuts-splits from [] size h = omega (arith, h)
AreCuts-splits from (end ∷ ends) size h = (h.0, AreCuts-splits end ends size h.1)

pub last_end-splits : (from : ℕ) (ends : List ℕ) (size : ℕ) → AreSplits from ends size → last_end from ends ≡ size
last_end-splits from [] size h = h
last_end-splits from (end ∷ ends) size h = last_end-splits end ends size h.1

first_end : (from : ℕ) (ends : List ℕ) (size : ℕ) → AreSplits from ends size → from ≤ size
first_end from [] size h = omega (arith, h)
first_end from (end ∷ ends) size h = let low : from ≤ end = h.0 in let rest = first_end end ends size h.1 in omega (arith, low, rest)

-- ---- the lists

pub cut_at-lists_of : (from : ℕ) (ends : List ℕ) (terms : List (List ℕ)) (counts : List Counts) (parts : List (List Posting)) (table : List Posting)
    → length terms ≡ length counts → length parts ≡ length counts
    → cut_at from ends (lists_of terms counts parts) table ≡ lists_of terms counts (pieces from ends table)
unfolding cut_at
cut_at-lists_of from [] [] counts parts table a b = refl
cut_at-lists_of from [] (term ∷ terms) [] parts table a b = refl
cut_at-lists_of from [] (term ∷ terms) (count ∷ counts) [] table a b = refl
cut_at-lists_of from [] (term ∷ terms) (count ∷ counts) (part ∷ parts) table a b = refl
cut_at-lists_of from (end ∷ ends) [] counts parts table a b = refl
cut_at-lists_of from (end ∷ ends) (term ∷ terms) [] parts table a b = refl
cut_at-lists_of from (end ∷ ends) (term ∷ terms) (count ∷ counts) [] table a b = absurd (omega (arith, b))
cut_at-lists_of from (end ∷ ends) (term ∷ terms) (count ∷ counts) (part ∷ parts) table a b =
    let first : TermList = record { term = term; df = count.df; cf = count.cf; postings = take (end - from) (drop from table) } in
    ap (λ (lists : List TermList). first ∷ lists) (cut_at-lists_of end ends terms counts parts table (omega (arith, a)) (omega (arith, b)))

length-cut_at : (from : ℕ) (ends : List ℕ) (lists : List TermList) (table : List Posting) → length ends ≡ length lists → length (cut_at from ends lists table) ≡ length lists
unfolding cut_at
length-cut_at from [] [] table same = refl
length-cut_at from [] (list ∷ lists) table same = absurd (omega (arith, same))
length-cut_at from (end ∷ ends) [] table same = refl
length-cut_at from (end ∷ ends) (list ∷ lists) table same = let h = length-cut_at end ends lists table (omega (arith, same)) in omega (arith, h)

terms-cut_at : (from : ℕ) (ends : List ℕ) (lists : List TermList) (table : List Posting) → length ends ≡ length lists → terms_of (cut_at from ends lists table) ≡ terms_of lists
unfolding cut_at
terms-cut_at from [] [] table same = refl
terms-cut_at from [] (list ∷ lists) table same = absurd (omega (arith, same))
terms-cut_at from (end ∷ ends) [] table same = refl
terms-cut_at from (end ∷ ends) (list ∷ lists) table same = ap (λ (rest : List (List ℕ)). list.term ∷ rest) (terms-cut_at end ends lists table (omega (arith, same)))

count-cut_at : (from : ℕ) (ends : List ℕ) (lists : List TermList) (table : List Posting) → length ends ≡ length lists → AreSplits from ends (length table)
    → posting_count (cut_at from ends lists table) + from ≡ length table
unfolding cut_at
count-cut_at from [] [] table same h = omega (arith, h)
count-cut_at from [] (list ∷ lists) table same h = absurd (omega (arith, same))
count-cut_at from (end ∷ ends) [] table same h = absurd (omega (arith, same))
count-cut_at from (end ∷ ends) (list ∷ lists) table same h =
    let size : TermList → ℕ = λ l. length l.postings in
    let cut : TermList = record list { postings = take (end - from) (drop from table) } in
    let low : from ≤ end = h.0 in
    let high : end ≤ length table = first_end end ends (length table) h.1 in
    let within : end - from ≤ length (drop from table) = omega (arith, low, high, length-drop from table) in
    let first : length (take (end - from) (drop from table)) ≡ end - from = length-take-le (end - from) (drop from table) within in
    let rest = count-cut_at end ends lists table (omega (arith, same)) h.1 in
    let whole = sum_by-cons size cut (cut_at end ends lists table) in
    omega (arith, low, first, rest, whole)

fits-cut_at : (from : ℕ) (ends : List ℕ) (lists : List TermList) (table : List Posting) → All FitsList lists → All (λ posting. FitsSigned w32 posting.tf) table → All FitsList (cut_at from ends lists table)
unfolding cut_at
fits-cut_at from [] [] table fit values = All-nil FitsList
fits-cut_at from [] (list ∷ lists) table fit values = All-nil FitsList
fits-cut_at from (end ∷ ends) [] table fit values = All-nil FitsList
fits-cut_at from (end ∷ ends) (list ∷ lists) table fit values =
    let value : Posting → Type 0 = λ posting. FitsSigned w32 posting.tf in
    let n = end - from in
    let first = All-head FitsList list lists fit in
    let cut : TermList = record list { postings = take n (drop from table) } in
    let here : FitsList cut = record { term = first.term; df = first.df; cf = first.cf; postings = All-take value n (drop from table) (All-drop value from table values) } in
    All-cons FitsList cut (cut_at end ends lists table) here (fits-cut_at end ends lists table (All-tail FitsList list lists fit) values)

-- ---- the index

pub IsIndex-refilled : (index : IndexParts) (table : List Posting) (ends : List ℕ) → IsIndex index → length ends ≡ length index.lists → AreSplits 0 ends (length table) → length table < 2 ^ 32
    → AreOrdered (length index.documents) (cut_at 0 ends index.lists table) → All (λ posting. FitsSigned w32 posting.tf) table
    → IsIndex (with_postings index table ends)
IsIndex-refilled index table ends h len splits few ordered values =
    let lists_len = length-cut_at 0 ends index.lists table len in
    let terms = terms-cut_at 0 ends index.lists table len in
    let postings = count-cut_at 0 ends index.lists table len splits in
    let term_bytes : sum_by (λ (list : TermList). length list.term) (cut_at 0 ends index.lists table) ≡ sum_by (λ (list : TermList). length list.term) index.lists =
    sym (sum_by-mapped (λ (text : List ℕ). length text) (λ (list : TermList). list.term) (cut_at 0 ends index.lists table)) ∙ ap (sum_by (λ (text : List ℕ). length text)) terms
    ∙ sum_by-mapped (λ (text : List ℕ). length text) (λ (list : TermList). list.term) index.lists in
    record {
      counted = record { lists = omega (arith, h.counted.lists, lists_len); documents = h.counted.documents };
      ordered = ordered;
      different = subst AreDifferent (sym terms) h.different;
      sized = record { postings = omega (arith, postings, few); text = omega (arith, term_bytes, h.sized.text) };
      header = h.header;
      lists = fits-cut_at 0 ends index.lists table h.lists values;
      documents = h.documents;
    }
