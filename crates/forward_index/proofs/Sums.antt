-- Sums over the documents and over the postings.
use Rattle.std.proofs.Common.{◌≡◌, ◌≢◌, ◌==◌, ℕ, suc, ◌+◌, ◌<◌, ◌≤◌, List, [], ◌∷◌, length, get_or, map, refl, sym, ◌∙◌, arith, All, AllPairs, cond, eqb, inl, inr}
use Rattle.std.specs.Prelude.{sum_by, nat_le}
use Rattle.std.proofs.lemmas.Bool.{cases_eq, eq-eqb, ne_eqb, cond-true, cond-false, cond_both}
use Rattle.std.proofs.lemmas.List.{length-map, get_or-map}
use Rattle.std.proofs.lemmas.List.Sums.{sum_by-cons, sum_by-le, sum_by-le-sum_by}
use Rattle.rgb_base.specs.declared.parts.Posting.{Posting}
use Rattle.rgb_base.specs.declared.parts.TermList.{TermList}
use Rattle.rgb_base.specs.Parts.{posting_count}
use Rattle.forward_index.specs.Rows.{times, kept_times, row_from, rows_of}
use Rattle.forward_index.proofs.Steps.{one_if}
use Rattle.forward_index.proofs.Rows.{row_step}
use Rattle.forward_index.proofs.Filling.{total, total-cons}

pub sum_by-both : {X : Type 0} (f g : X → ℕ) (xs : List X) → sum_by (λ x. f x + g x) xs ≡ sum_by f xs + sum_by g xs
sum_by-both f g [] = refl
sum_by-both {X} f g (x ∷ xs) = let rest = sum_by-both f g xs in omega (arith, rest, sum_by-cons (λ (y : X). f y + g y) x xs, sum_by-cons f x xs, sum_by-cons g x xs)

pub sum_by-none : {X : Type 0} (f : X → ℕ) (xs : List X) → All (λ x. f x ≤ 0) xs → sum_by f xs ≡ 0
sum_by-none f xs none = omega (arith, sum_by-le f 0 xs none)

one_yes : (x y : ℕ) → x ≡ y → one_if (eqb x y) ≡ 1
one_yes x y e = cond-true {A = ℕ} (eqb x y) 1 0 (eq-eqb x y e)

one_no : (x y : ℕ) → (x ≡ y → ⊥) → one_if (eqb x y) ≡ 0
one_no x y ne = cond-false {A = ℕ} (eqb x y) 1 0 (ne_eqb x y ne)

pub AllPairs-head : {X : Type 0} (R : X → X → Type 0) (x : X) (xs : List X) → AllPairs R (x ∷ xs) → All (R x) xs
AllPairs-head R x xs all k d lt = all 0 (suc k) d (omega arith) (omega (arith, lt))

pub AllPairs-tail : {X : Type 0} (R : X → X → Type 0) (x : X) (xs : List X) → AllPairs R (x ∷ xs) → AllPairs R xs
AllPairs-tail R x xs all i j d less within = all (suc i) (suc j) d (omega (arith, less)) (omega (arith, within))

-- a number stands at most once among different ones
pub single : (x : ℕ) (xs : List ℕ) → AllPairs (λ a b. a ≢ b) xs → sum_by (λ y. one_if (eqb x y)) xs ≤ 1
single x [] different = omega arith
single x (y ∷ ys) different =
    let rest = single x ys (AllPairs-tail (λ (a b : ℕ). a ≢ b) y ys different) in
    let cons = sum_by-cons (λ (z : ℕ). one_if (eqb x z)) y ys in
    elim (cases_eq x y) [
      | inl e ↦
          let others : sum_by (λ (z : ℕ). one_if (eqb x z)) ys ≡ 0 = sum_by-none (λ (z : ℕ). one_if (eqb x z)) ys (λ k d lt.
          let no : one_if (eqb x (get_or ys k d)) ≡ 0 = one_no x (get_or ys k d) (λ same. different 0 (suc k) d (omega arith) (omega (arith, lt)) (sym e ∙ same)) in
          omega (arith, no)) in
          omega (arith, cons, others, one_yes x y e)
      | inr ne ↦ omega (arith, cons, rest, one_no x y ne)
    ]

-- postings of rising documents have each at most once
pub times_once : (document : ℕ) (postings : List Posting) → AllPairs (λ a b. a < b) (map (λ posting. posting.doc) postings) → times document postings ≤ 1
times_once document [] rising = omega arith
times_once document (posting ∷ postings) rising =
    let rest = times_once document postings (AllPairs-tail (λ (a b : ℕ). a < b) posting.doc (map (λ (p : Posting). p.doc) postings) rising) in
    let cons = sum_by-cons (λ (p : Posting). cond (p.doc == document) 1 0) posting postings in
    elim (cases_eq posting.doc document) [
      | inl e ↦
          let others : times document postings ≡ 0 = sum_by-none (λ (p : Posting). cond (p.doc == document) 1 0) postings (λ k d lt.
          let size = length-map postings (λ (p : Posting). p.doc) in
          let above : posting.doc < get_or (map (λ (p : Posting). p.doc) postings) k 0 = rising 0 (suc k) 0 (omega arith) (omega (arith, lt, size)) in
          let there = get_or-map (λ (p : Posting). p.doc) postings k d 0 lt in
          let no : one_if (eqb (get_or postings k d).doc document) ≡ 0 = one_no (get_or postings k d).doc document (λ same. absurd (omega (arith, same, above, there, e))) in
          omega (arith, no)) in
          omega (arith, cons, others, one_yes posting.doc document e)
      | inr ne ↦ omega (arith, cons, rest, one_no posting.doc document ne)
    ]

-- the postings of different documents are no more than all
pub times_of_all : (documents : List ℕ) (postings : List Posting) → AllPairs (λ a b. a ≢ b) documents → sum_by (λ document. times document postings) documents ≤ length postings
times_of_all documents [] different = let none = sum_by-none (λ (document : ℕ). times document []) documents (λ k d lt. omega arith) in omega (arith, none)
times_of_all documents (posting ∷ postings) different =
    let rest = times_of_all documents postings different in
    let one = single posting.doc documents different in
    let both = sum_by-both (λ (document : ℕ). one_if (eqb posting.doc document)) (λ (document : ℕ). times document postings) documents in
    let split = sum_by-le-sum_by (λ (document : ℕ). times document (posting ∷ postings)) (λ (document : ℕ). one_if (eqb posting.doc document) + times document postings) documents (λ document.
    omega (arith, sum_by-cons (λ (p : Posting). cond (p.doc == document) 1 0) posting postings)) in
    omega (arith, rest, one, both, split)

pub kept_of_all : (min_df : ℕ) (documents : List ℕ) (postings : List Posting) → AllPairs (λ a b. a ≢ b) documents → sum_by (λ document. kept_times min_df document postings) documents ≤ length postings
kept_of_all min_df documents postings different =
    let fewer = sum_by-le-sum_by (λ (document : ℕ). kept_times min_df document postings) (λ (document : ℕ). times document postings) documents (λ document.
    cond_both (nat_le min_df (length postings)) (times document postings) 0 (λ (n : ℕ). n ≤ times document postings) (λ _. omega arith) (λ _. omega arith)) in
    omega (arith, fewer, times_of_all documents postings different)

entries_from : (min_df term : ℕ) (lists : List TermList) (documents : List ℕ) → AllPairs (λ a b. a ≢ b) documents → sum_by (λ document. length (row_from min_df document term lists)) documents ≤ posting_count lists
entries_from min_df term [] documents different = let none = sum_by-none (λ (document : ℕ). length (row_from min_df document term [])) documents (λ k d lt. omega arith) in omega (arith, none)
entries_from min_df term (list ∷ lists) documents different =
    let rest = entries_from min_df (term + 1) lists documents different in
    let here = kept_of_all min_df documents list.postings different in
    let both = sum_by-both (λ (document : ℕ). kept_times min_df document list.postings) (λ (document : ℕ). length (row_from min_df document (term + 1) lists)) documents in
    let split = sum_by-le-sum_by (λ (document : ℕ). length (row_from min_df document term (list ∷ lists))) (λ (document : ℕ). kept_times min_df document list.postings + length (row_from min_df document (term + 1) lists)) documents (λ document.
    omega (arith, row_step min_df document term list lists)) in
    omega (arith, rest, here, both, split, sum_by-cons (λ (l : TermList). length l.postings) list lists)

total-map : (row : ℕ → List ℕ) (documents : List ℕ) → total (map row documents) ≡ sum_by (λ document. length (row document)) documents
total-map row [] = refl
total-map row (document ∷ documents) = let rest = total-map row documents in omega (arith, rest, total-cons (row document) (map row documents), sum_by-cons (λ (d : ℕ). length (row d)) document documents)

-- the rows of different documents have no more entries than the lists have postings
pub rows_few : (min_df : ℕ) (lists : List TermList) (documents : List ℕ) → AllPairs (λ a b. a ≢ b) documents → total (rows_of min_df lists documents) ≤ posting_count lists
rows_few min_df lists documents different =
    omega (arith, total-map (λ (document : ℕ). row_from min_df document 0 lists) documents, entries_from min_df 0 lists documents different)
