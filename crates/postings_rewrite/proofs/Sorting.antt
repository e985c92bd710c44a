-- Each list of postings can be put in order, so an index renumbered is there.
use Rattle.std.proofs.Common.{◌≡◌, ℕ, zero, suc, ◌<◌, ◌≤◌, true, false, nat_lt, cond, List, [], ◌∷◌, length, get_or, map, refl, sym, subst, inl, inr, All, arith}
use Rattle.std.specs.List.{AllZip}
use Rattle.std.specs.List.Sorted.{IsPermutation}
use Rattle.std.proofs.lemmas.Bool.{cases_lt}
use Rattle.std.proofs.lemmas.Bool.Decides.{nat_tests}
use Rattle.std.proofs.lemmas.List.Elements.{All-cons, All-nil, All-tail}
use Rattle.std.proofs.lemmas.List.Sorted.{IsPermutation-refl, IsPermutation-cons, IsPermutation-middle, IsPermutation-trans, All-permutation}
use Rattle.rgb_base.specs.declared.parts.Posting.{Posting}
use Rattle.rgb_base.specs.declared.parts.TermList.{TermList}
use Rattle.rgb_base.specs.Parts.{IndexParts, IsPostings, AreOrdered}
use Rattle.rgb_base.specs.Order.{IsOrder}
use Rattle.rgb_base.specs.Laws.{NumbersUndoTheOrder}
use Rattle.rgb_base.specs.Table.{taken_at}
use Rattle.postings_rewrite.specs.Renumbering.{moved, ArePostingsRenumbered, IsListRenumbered, IsRenumbered}
use Rattle.postings_rewrite.specs.Laws.{RenumberedIsThere}
use Rattle.postings_rewrite.proofs.Rising.{sorted_is_renumbered}
use Rattle.postings_rewrite.proofs.Indexes.{AreRecordsRenumbered-taken}

inserted : Posting → List Posting → List Posting
inserted posting [] = posting ∷ []
inserted posting (first ∷ others) = cond (nat_lt posting.doc first.doc) (posting ∷ first ∷ others) (first ∷ inserted posting others)

in_order : List Posting → List Posting
in_order [] = []
in_order (posting ∷ postings) = inserted posting (in_order postings)

abbrev NeverFalls : List Posting → Type 0
NeverFalls [] = Unit {0}
NeverFalls (posting ∷ postings) = All (λ later. posting.doc ≤ later.doc) postings × NeverFalls postings

below : (a b : ℕ) → a < b → nat_lt a b ≡ true
below a b h = grind (arith, nat_tests)

not_below : (a b : ℕ) → b ≤ a → nat_lt a b ≡ false
not_below a b h = grind (arith, nat_tests)

inserted-permutation : (posting : Posting) (postings : List Posting) → IsPermutation (posting ∷ postings) (inserted posting postings)
unfolding inserted
inserted-permutation posting [] = IsPermutation-refl (posting ∷ [])
inserted-permutation posting (first ∷ others) =
    elim (cases_lt posting.doc first.doc) [
      | inl lt ↦ rw (below posting.doc first.doc lt) (IsPermutation-refl (posting ∷ first ∷ others))
      | inr ge ↦ rw (not_below posting.doc first.doc ge) (IsPermutation-trans (posting ∷ first ∷ others) (first ∷ posting ∷ others) (first ∷ inserted posting others) (IsPermutation-middle (posting ∷ []) first others) (IsPermutation-cons first (posting ∷ others) (inserted posting others) (inserted-permutation posting others)))
    ]

inserted-rises : (posting : Posting) (postings : List Posting) → NeverFalls postings → NeverFalls (inserted posting postings)
unfolding inserted
inserted-rises posting [] rises = (All-nil (λ (later : Posting). posting.doc ≤ later.doc), tt)
inserted-rises posting (first ∷ others) rises =
    elim (cases_lt posting.doc first.doc) [
      | inl lt ↦ rw (below posting.doc first.doc lt) (All-cons (λ (later : Posting). posting.doc ≤ later.doc) first others (omega arith) (λ k d within. omega (arith, rises.0 k d within)), rises)
      | inr ge ↦
          let low : All (λ (later : Posting). first.doc ≤ later.doc) (inserted posting others) =
          All-permutation (λ (later : Posting). first.doc ≤ later.doc) (posting ∷ others) (inserted posting others) (inserted-permutation posting others) (All-cons (λ (later : Posting). first.doc ≤ later.doc) posting others ge rises.0) in
          rw (not_below posting.doc first.doc ge) (low, inserted-rises posting others rises.1)
    ]

in_order-permutation : (postings : List Posting) → IsPermutation postings (in_order postings)
unfolding in_order
in_order-permutation [] = IsPermutation-refl []
in_order-permutation (posting ∷ postings) =
    IsPermutation-trans (posting ∷ postings) (posting ∷ in_order postings) (inserted posting (in_order postings)) (IsPermutation-cons posting postings (in_order postings) (in_order-permutation postings)) (inserted-permutation posting (in_order postings))

in_order-rises : (postings : List Posting) → NeverFalls (in_order postings)
unfolding in_order
in_order-rises [] = tt
in_order-rises (posting ∷ postings) = inserted-rises posting (in_order postings) (in_order-rises postings)

never_falls : (postings : List Posting) (i j : ℕ) (d : Posting) → NeverFalls postings → i ≤ j → j < length postings → (get_or postings i d).doc ≤ (get_or postings j d).doc
never_falls [] i j d rises order within = absurd (omega (arith, within))
never_falls (posting ∷ postings) zero zero d rises order within = omega arith
never_falls (posting ∷ postings) zero (suc j) d rises order within = rises.0 j d (omega (arith, within))
never_falls (posting ∷ postings) (suc i) zero d rises order within = absurd (omega (arith, order))
never_falls (posting ∷ postings) (suc i) (suc j) d rises order within = never_falls postings i j d rises.1 (omega (arith, order)) (omega (arith, within))

postings_there : (order : List ℕ) (old : List Posting) → NumbersUndoTheOrder → IsOrder order → IsPostings (length order) old → ArePostingsRenumbered order old (in_order (map (moved order) old))
postings_there order old undo ordered is =
    let mapped = map (moved order) old in
    sorted_is_renumbered order old mapped (in_order mapped) undo ordered is refl (in_order-permutation mapped) (λ i j d. never_falls (in_order mapped) i j d (in_order-rises mapped))

abbrev list_in_order : List ℕ → TermList → TermList
list_in_order order list = record list { postings = in_order (map (moved order) list.postings) }

lists_there : (order : List ℕ) (old : List TermList) → NumbersUndoTheOrder → IsOrder order → AreOrdered (length order) old → AllZip (IsListRenumbered order) old (map (list_in_order order) old)
lists_there order [] undo ordered is = tt
lists_there order (list ∷ lists) undo ordered is =
    (record { term = refl; df = refl; cf = refl; postings = postings_there order list.postings undo ordered (is 0 list (omega arith)) }, lists_there order lists undo ordered (All-tail (λ (l : TermList). IsPostings (length order) l.postings) list lists is))

pub there : NumbersUndoTheOrder → RenumberedIsThere
there undo index order sound ordered =
    let old : AreOrdered (length order) index.lists = subst (λ (n : ℕ). AreOrdered n index.lists) (sym ordered.len) sound.ordered in
    let new : IndexParts = record { header = index.header; lists = map (list_in_order order) index.lists; documents = taken_at order index.documents } in
    let is : IsRenumbered index order new = record { header = refl; lists = lists_there order index.lists undo ordered.ordered old; records = AreRecordsRenumbered-taken order index.documents ordered.ordered ordered.len } in
    (new, is)
