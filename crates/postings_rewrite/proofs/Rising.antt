-- Postings whose documents strictly rise: there is one list of them.
use Rattle.std.proofs.Common.{◌≡◌, ◌≢◌, ℕ, zero, suc, ◌<◌, ◌==◌, false, List, [], ◌∷◌, length, get_or, map, Contains, refl, sym, subst, ap, ◌∙◌, arith}
use Rattle.std.specs.Prelude.{pos}
use Rattle.std.specs.List.{AllPairs, IsDistinct}
use Rattle.std.specs.List.Sorted.{IsPermutation, IsStrictlyIncreasing, IsNonDecreasing, IsNonDecreasingBy}
use Rattle.std.proofs.lemmas.Bool.Decides.{nat_tests}
use Rattle.std.proofs.lemmas.List.{length-map, get_or-map}
use Rattle.std.proofs.lemmas.List.Elements.{All-map}
use Rattle.std.proofs.lemmas.List.Kept.{AllPairs-from_increasing}
use Rattle.std.proofs.lemmas.List.Sorted.{IsPermutation-map, IsPermutation-sym, IsPermutation-trans, Contains-permutation, All-permutation}
use Rattle.std.proofs.lemmas.Map.Keys.{IsDistinct-from_apart, IsDistinct-IsPermutation, IsStrictlyIncreasing-from_distinct}
use Rattle.rgb_base.specs.declared.parts.Posting.{Posting}
use Rattle.rgb_base.specs.Order.{IsOrder, new_of}
use Rattle.rgb_base.specs.Parts.{IsPostings}
use Rattle.rgb_base.specs.Laws.{NumbersUndoTheOrder}
use Rattle.postings_rewrite.specs.Renumbering.{moved, ArePostingsRenumbered}

abbrev pub no_posting : Posting
no_posting = record { doc = 0; tf = pos 0 }

abbrev pub docs_of : List Posting → List ℕ
docs_of postings = map (λ posting. posting.doc) postings

-- each document lies below all later ones
abbrev pub Rises : List Posting → Type 0
Rises postings = AllPairs (λ a b. a.doc < b.doc) postings

doc_at : (postings : List Posting) (k e : ℕ) (d : Posting) → k < length postings → get_or (docs_of postings) k e ≡ (get_or postings k d).doc
doc_at postings k e d within = get_or-map (λ (posting : Posting). posting.doc) postings k d e within

pub rises : (postings : List Posting) → IsStrictlyIncreasing (docs_of postings) → Rises postings
rises postings rising i j d order within =
    omega (
      arith,
      AllPairs-from_increasing (docs_of postings) rising i j 0 order (omega (arith, length-map postings (λ (posting : Posting). posting.doc))),
      doc_at postings i 0 d (omega arith),
      doc_at postings j 0 d within,
    )

rises_tail : (first : Posting) (postings : List Posting) → Rises (first ∷ postings) → Rises postings
rises_tail first postings rising i j d order within = rising (suc i) (suc j) d (omega arith) (omega arith)

-- ---- one list of them has these postings

first_at : (x y : Posting) (xs ys : List Posting) (k m : ℕ) → Rises (x ∷ xs) → Rises (y ∷ ys) → k < length (y ∷ ys) → get_or (y ∷ ys) k x ≡ x → m < length (x ∷ xs) → get_or (x ∷ xs) m y ≡ y → x ≡ y
first_at x y xs ys zero m x_rises y_rises k_within k_is m_within m_is = sym k_is
first_at x y xs ys (suc k) zero x_rises y_rises k_within k_is m_within m_is = m_is
first_at x y xs ys (suc k) (suc m) x_rises y_rises k_within k_is m_within m_is =
    absurd (omega (
      arith,
      y_rises 0 (suc k) x (omega arith) k_within,
      x_rises 0 (suc m) y (omega arith) m_within,
      ap (λ (posting : Posting). posting.doc) k_is,
      ap (λ (posting : Posting). posting.doc) m_is,
    ))

rest_at : (x y z : Posting) (xs ys : List Posting) (k m : ℕ) → x ≡ y → Rises (x ∷ xs) → k < length xs → get_or xs k z ≡ z → m < length (y ∷ ys) → get_or (y ∷ ys) m z ≡ z → Contains ys z
rest_at x y z xs ys k zero same x_rises k_within k_is m_within m_is =
    absurd (omega (
      arith,
      x_rises 0 (suc k) z (omega arith) (omega arith),
      ap (λ (posting : Posting). posting.doc) same,
      ap (λ (posting : Posting). posting.doc) k_is,
      ap (λ (posting : Posting). posting.doc) m_is,
    ))
rest_at x y z xs ys k (suc m) same x_rises k_within k_is m_within m_is = (m, omega arith, m_is)

later : (x z : Posting) (xs : List Posting) → Contains xs z → Contains (x ∷ xs) z
later x z xs stands = (suc stands.0, omega (arith, stands.1), stands.2)

same_postings : (xs ys : List Posting) → Rises xs → Rises ys → ((z : Posting) → Contains xs z → Contains ys z) → ((z : Posting) → Contains ys z → Contains xs z) → xs ≡ ys
same_postings [] [] x_rises y_rises to from = refl
same_postings [] (y ∷ ys) x_rises y_rises to from = let stands = from y (0, omega arith, refl) in absurd (omega (arith, stands.1))
same_postings (x ∷ xs) [] x_rises y_rises to from = let stands = to x (0, omega arith, refl) in absurd (omega (arith, stands.1))
same_postings (x ∷ xs) (y ∷ ys) x_rises y_rises to from =
    let x_stands = to x (0, omega arith, refl) in
    let y_stands = from y (0, omega arith, refl) in
    let first : x ≡ y = first_at x y xs ys x_stands.0 y_stands.0 x_rises y_rises x_stands.1 x_stands.2 y_stands.1 y_stands.2 in
    let rest : xs ≡ ys = same_postings xs ys (rises_tail x xs x_rises) (rises_tail y ys y_rises)
    (λ z stands. let there = to z (later x z xs stands) in rest_at x y z xs ys stands.0 there.0 first x_rises stands.1 stands.2 there.1 there.2)
    (λ z stands. let there = from z (later y z ys stands) in rest_at y x z ys xs stands.0 there.0 (sym first) y_rises stands.1 stands.2 there.1 there.2) in
    ap (λ (z : Posting). z ∷ xs) first ∙ ap (λ (zs : List Posting). y ∷ zs) rest

pub rising_is_one : (xs ys : List Posting) → IsStrictlyIncreasing (docs_of xs) → IsStrictlyIncreasing (docs_of ys) → IsPermutation xs ys → xs ≡ ys
rising_is_one xs ys x_rises y_rises same =
    same_postings xs ys (rises xs x_rises) (rises ys y_rises) (λ z. Contains-permutation xs ys z same) (λ z. Contains-permutation ys xs z (IsPermutation-sym xs ys same))

pub ArePostingsRenumbered-one : (order : List ℕ) (old a b : List Posting) → ArePostingsRenumbered order old a → ArePostingsRenumbered order old b → a ≡ b
ArePostingsRenumbered-one order old a b to_a to_b =
    rising_is_one a b to_a.rising to_b.rising (IsPermutation-trans a (map (moved order) old) b (IsPermutation-sym (map (moved order) old) a to_a.pairs) to_b.pairs)

-- ---- a sort by the new numbers makes it

new_at : (order : List ℕ) (postings : List Posting) (k e : ℕ) → k < length postings → get_or (docs_of (map (moved order) postings)) k e ≡ new_of order (get_or postings k no_posting).doc
new_at order postings k e within =
    doc_at (map (moved order) postings) k e no_posting (omega (arith, length-map postings (moved order)))
    ∙ ap (λ (posting : Posting). posting.doc) (get_or-map (moved order) postings k no_posting no_posting within)

not_equal : (a b : ℕ) → a ≢ b → (a == b) ≡ false
not_equal a b unlike = grind (arith, nat_tests)

pub moved_differ : (order : List ℕ) (postings : List Posting) → NumbersUndoTheOrder → IsOrder order → IsPostings (length order) postings → IsDistinct ◌==◌ (docs_of (map (moved order) postings))
moved_differ order postings undo ordered is =
    IsDistinct-from_apart ◌==◌ (docs_of (map (moved order) postings)) (λ i j d lt within.
    let inside : j < length postings = omega (arith, length-map postings (moved order), length-map (map (moved order) postings) (λ (posting : Posting). posting.doc)) in
    let a = (get_or postings i no_posting).doc in
    let b = (get_or postings j no_posting).doc in
    let apart : a < b = rises postings is.rising i j no_posting lt inside in
    let a_low : a < length order = is.below i no_posting (omega arith) in
    let b_low : b < length order = is.below j no_posting inside in
    let unlike : get_or (docs_of (map (moved order) postings)) i d ≢ get_or (docs_of (map (moved order) postings)) j d = λ same.
    let news : new_of order a ≡ new_of order b = sym (new_at order postings i d (omega arith)) ∙ same ∙ new_at order postings j d inside in
    let back : a ≡ b = sym (((undo order ordered).0 a a_low).1) ∙ ap (λ (n : ℕ). get_or order n 0) news ∙ ((undo order ordered).0 b b_low).1 in
    omega arith in
    not_equal (get_or (docs_of (map (moved order) postings)) i d) (get_or (docs_of (map (moved order) postings)) j d) unlike)

docs_do_not_fall : (postings : List Posting) → IsNonDecreasingBy (λ (posting : Posting). posting.doc) postings → IsNonDecreasing (docs_of postings)
docs_do_not_fall postings rising i j d order within =
    let inside : j < length postings = omega (arith, length-map postings (λ (posting : Posting). posting.doc)) in
    omega (arith, rising i j no_posting order inside, doc_at postings i d no_posting (omega arith), doc_at postings j d no_posting inside)

flips : (x y : ℕ) → (x == y) ≡ (y == x)
flips x y = grind (arith, nat_tests)

pub sorted_is_renumbered : (order : List ℕ) (old mapped new : List Posting) → NumbersUndoTheOrder → IsOrder order → IsPostings (length order) old → mapped ≡ map (moved order) old → IsPermutation mapped new → IsNonDecreasingBy (λ (posting : Posting). posting.doc) new → ArePostingsRenumbered order old new
sorted_is_renumbered order old mapped new undo ordered is same permuted sorted =
    let pairs : IsPermutation (map (moved order) old) new = subst (λ (postings : List Posting). IsPermutation postings new) same permuted in
    record {
      pairs = pairs;
      rising = IsStrictlyIncreasing-from_distinct (docs_of new) (docs_do_not_fall new sorted)
          (IsDistinct-IsPermutation ◌==◌ flips (docs_of (map (moved order) old)) (docs_of new) (IsPermutation-map (λ (posting : Posting). posting.doc) (map (moved order) old) new pairs) (moved_differ order old undo ordered is));
    }

-- ---- and keeps the documents below their number

pub renumbered_below : (order : List ℕ) (old new : List Posting) → NumbersUndoTheOrder → IsOrder order → IsPostings (length order) old → ArePostingsRenumbered order old new → IsPostings (length order) new
renumbered_below order old new undo ordered is renumbered = record {
  rising = renumbered.rising;
  below = All-permutation (λ (posting : Posting). posting.doc < length order) (map (moved order) old) new renumbered.pairs
      (All-map (λ (posting : Posting). posting.doc < length order) (moved order) old (λ k d within. ((undo order ordered).0 (get_or old k d).doc (is.below k d within)).0));
}
