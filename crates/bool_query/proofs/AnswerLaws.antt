-- The laws of answers: of an index renumbered, of one answer, of what is stored of an index.
use Rattle.std.proofs.Common.{◌≡◌, ◌⊎◌, inl, inr, ℕ, zero, suc, ◌<◌, List, [], ◌∷◌, length, get_or, map, slice_get, slice_index, Some, Contains, refl, sym, subst, ap, ◌∙◌, arith}
use Rattle.std.specs.List.{AllZip, AllPairs}
use Rattle.std.specs.List.Sorted.{IsPermutation}
use Rattle.std.specs.Prelude.{option_map, slice_index_or}
use Rattle.std.proofs.lemmas.List.{length-map, get_or-map}
use Rattle.std.proofs.lemmas.List.Kept.{AllPairs-from_increasing}
use Rattle.std.proofs.lemmas.List.Sorted.{IsPermutation-map, IsPermutation-sym, Contains-permutation}
use Rattle.std.proofs.lemmas.Option.{slice_get_within, slice_get-map, get_or_from_slice_get}
use Rattle.std.proofs.lemmas.Simd.{map-map}
use Rattle.rgb_base.specs.declared.parts.Posting.{Posting}
use Rattle.rgb_base.specs.declared.parts.TermList.{TermList}
use Rattle.rgb_base.specs.Parts.{IndexParts, IsIndex, IsPostings, terms_of}
use Rattle.rgb_base.specs.Order.{new_of}
use Rattle.rgb_base.specs.Laws.{NumbersUndoTheOrder}
use Rattle.postings_rewrite.specs.Laws.{IsOrderOf}
use Rattle.postings_rewrite.specs.Renumbering.{moved, ArePostingsRenumbered, IsListRenumbered, IsRenumbered}
use Rattle.postings_rewrite.specs.Stores.{stored_of}
use Rattle.bool_query.specs.Answers.{HasTerm, HasPosting}
use Rattle.bool_query.specs.AnswerLaws.{AnswersAreRenumbered, MeantIsBelow, AnswerIsOne, StoreAnswersAsTheIndex}
use Rattle.bool_query.proofs.Meanings.{meant_below, meant_same}

abbrev docs_of : List Posting → List ℕ
docs_of postings = map (λ posting. posting.doc) postings

abbrev doc_of : Posting → ℕ
doc_of posting = posting.doc

some_equal : {X : Type 0} (x y : X) → Some x ≡ Some y → x ≡ y
some_equal x y same = cc

-- ---- members of mapped lists

record IsImage {X Y : Type 0} (f : X → Y) (xs : List X) (y : Y) : Type 0 where
  of : X
  stands : Contains xs of
  same : f of ≡ y

image_at : {X Y : Type 0} (f : X → Y) (xs : List X) (y : Y) (k : ℕ) → k < length (map f xs) → get_or (map f xs) k y ≡ y → IsImage f xs y
image_at f [] y k within is = absurd (omega (arith, within))
image_at f (x ∷ xs) y zero within is = record { of = x; stands = (0, omega arith, refl); same = is }
image_at f (x ∷ xs) y (suc k) within is =
    let rest = image_at f xs y k (omega (arith, within)) is in
    record { of = rest.of; stands = (suc rest.stands.0, omega (arith, rest.stands.1), rest.stands.2); same = rest.same }

image : {X Y : Type 0} (f : X → Y) (xs : List X) (y : Y) → Contains (map f xs) y → IsImage f xs y
image f xs y stands = image_at f xs y stands.0 stands.1 stands.2

mapped : {X Y : Type 0} (f : X → Y) (xs : List X) (x : X) → Contains xs x → Contains (map f xs) (f x)
mapped f xs x stands = (stands.0, omega (arith, stands.1, length-map xs f), get_or-map f xs stands.0 x (f x) stands.1 ∙ ap f stands.2)

-- ---- lists that are paired

record IsPaired {A B : Type 0} (R : A → B → Type 0) (xs : List A) (ys : List B) (k : ℕ) : Type 0 where
  left : A
  right : B
  left_stands : slice_get xs k ≡ Some left
  right_stands : slice_get ys k ≡ Some right
  is : R left right

paired : {A B : Type 0} (R : A → B → Type 0) (xs : List A) (ys : List B) (k : ℕ) → AllZip R xs ys → (k < length xs) ⊎ (k < length ys) → IsPaired R xs ys k
paired R [] [] k all (inl within) = absurd (omega (arith, within))
paired R [] [] k all (inr within) = absurd (omega (arith, within))
paired R [] (y ∷ ys) k all within = absurd all
paired R (x ∷ xs) [] k all within = absurd all
paired R (x ∷ xs) (y ∷ ys) zero all within = record { left = x; right = y; left_stands = refl; right_stands = refl; is = all.0 }
paired R (x ∷ xs) (y ∷ ys) (suc k) all (inl within) =
    let rest = paired R xs ys k all.1 (inl (omega (arith, within))) in
    record { left = rest.left; right = rest.right; left_stands = rest.left_stands; right_stands = rest.right_stands; is = rest.is }
paired R (x ∷ xs) (y ∷ ys) (suc k) all (inr within) =
    let rest = paired R xs ys k all.1 (inr (omega (arith, within))) in
    record { left = rest.left; right = rest.right; left_stands = rest.left_stands; right_stands = rest.right_stands; is = rest.is }

-- ---- an index renumbered

list_below : (index : IndexParts) (place : ℕ) (list : TermList) (doc : ℕ) → IsIndex index → slice_get index.lists place ≡ Some list → Contains (docs_of list.postings) doc → doc < length index.documents
list_below index place list doc sound stands posted =
    let same : get_or index.lists place list ≡ list = get_or_from_slice_get index.lists place list list stands in
    let is : IsPostings (length index.documents) list.postings = subst (λ (l : TermList). IsPostings (length index.documents) l.postings) same (sound.ordered place list (slice_get_within index.lists place list stands)) in
    let found = image doc_of list.postings doc posted in
    let low : (get_or list.postings found.stands.0 found.of).doc < length index.documents = is.below found.stands.0 found.of found.stands.1 in
    subst (λ n. n < length index.documents) found.same (subst (λ (p : Posting). p.doc < length index.documents) found.stands.2 low)

docs_moved : (order : List ℕ) (postings : List Posting) → docs_of (map (moved order) postings) ≡ map (new_of order) (docs_of postings)
docs_moved order postings = map-map doc_of (moved order) postings ∙ sym (map-map (new_of order) doc_of postings)

permuted : (order : List ℕ) (old new : List Posting) → ArePostingsRenumbered order old new → IsPermutation (map (new_of order) (docs_of old)) (docs_of new)
permuted order old new is = subst (λ (ds : List ℕ). IsPermutation ds (docs_of new)) (docs_moved order old) (IsPermutation-map doc_of (map (moved order) old) new is.pairs)

posting_to : NumbersUndoTheOrder → (index new : IndexParts) (order : List ℕ) → IsIndex index → IsOrderOf index order → IsRenumbered index order new → (term : List ℕ) (number : ℕ) → number < length index.documents
    → HasPosting new term number → HasPosting index term (slice_index order number)
posting_to undo index new order sound ordered is term number low has =
    let pair = paired (IsListRenumbered order) index.lists new.lists has.place is.lists (inr (slice_get_within new.lists has.place has.list has.stands)) in
    let list : has.list ≡ pair.right = some_equal has.list pair.right (sym has.stands ∙ pair.right_stands) in
    let posted : Contains (docs_of pair.right.postings) number = subst (λ (l : TermList). Contains (docs_of l.postings) number) list has.posted in
    let here : Contains (map (new_of order) (docs_of pair.left.postings)) number =
    Contains-permutation (docs_of pair.right.postings) (map (new_of order) (docs_of pair.left.postings)) number (IsPermutation-sym (map (new_of order) (docs_of pair.left.postings)) (docs_of pair.right.postings) (permuted order pair.left.postings pair.right.postings pair.is.postings)) posted in
    let old = image (new_of order) (docs_of pair.left.postings) number here in
    let old_low : old.of < length order = omega (arith, list_below index has.place pair.left old.of sound pair.left_stands old.stands, ordered.len) in
    let back : old.of ≡ slice_index order number = sym (((undo order ordered.ordered).0 old.of old_low).1) ∙ ap (slice_index order) old.same in
    record {
      place = has.place;
      list = pair.left;
      stands = pair.left_stands;
      named = sym pair.is.term ∙ (ap (λ (l : TermList). l.term) (sym list) ∙ has.named);
      posted = subst (λ (d : ℕ). Contains (docs_of pair.left.postings) d) back old.stands;
    }

posting_from : NumbersUndoTheOrder → (index new : IndexParts) (order : List ℕ) → IsOrderOf index order → IsRenumbered index order new → (term : List ℕ) (number : ℕ) → number < length index.documents
    → HasPosting index term (slice_index order number) → HasPosting new term number
posting_from undo index new order ordered is term number low has =
    let pair = paired (IsListRenumbered order) index.lists new.lists has.place is.lists (inl (slice_get_within index.lists has.place has.list has.stands)) in
    let list : has.list ≡ pair.left = some_equal has.list pair.left (sym has.stands ∙ pair.left_stands) in
    let posted : Contains (docs_of pair.left.postings) (slice_index order number) = subst (λ (l : TermList). Contains (docs_of l.postings) (slice_index order number)) list has.posted in
    let there : Contains (docs_of pair.right.postings) (new_of order (slice_index order number)) =
    Contains-permutation (map (new_of order) (docs_of pair.left.postings)) (docs_of pair.right.postings) (new_of order (slice_index order number)) (permuted order pair.left.postings pair.right.postings pair.is.postings) (mapped (new_of order) (docs_of pair.left.postings) (slice_index order number) posted) in
    record {
      place = has.place;
      list = pair.right;
      stands = pair.right_stands;
      named = pair.is.term ∙ (ap (λ (l : TermList). l.term) (sym list) ∙ has.named);
      posted = subst (λ (d : ℕ). Contains (docs_of pair.right.postings) d) (((undo order ordered.ordered).1 number (omega (arith, low, ordered.len))).1) there;
    }

pub renumbered : NumbersUndoTheOrder → AnswersAreRenumbered
renumbered undo index new order sound ordered is t number low =
    let there = (undo order ordered.ordered).1 number (omega (arith, low, ordered.len)) in
    meant_same (HasPosting new) (HasPosting index) (length new.documents) (length index.documents) t number (slice_index order number)
    (λ term. (posting_to undo index new order sound ordered is term number low, posting_from undo index new order ordered is term number low))
    (λ inside. omega (arith, there.0, ordered.len), λ inside. omega (arith, low, is.records.len))

pub below : MeantIsBelow
below index sound t doc meant = meant_below (HasPosting index) (length index.documents) t doc (λ term has. list_below index has.place has.list doc sound has.stands has.posted) meant

-- ---- one answer

abbrev Rises : List ℕ → Type 0
Rises numbers = AllPairs (λ a b. a < b) numbers

rises_tail : (first : ℕ) (numbers : List ℕ) → Rises (first ∷ numbers) → Rises numbers
rises_tail first numbers rising i j d order within = rising (suc i) (suc j) d (omega arith) (omega arith)

first_at : (x y : ℕ) (xs ys : List ℕ) (k m : ℕ) → Rises (x ∷ xs) → Rises (y ∷ ys) → k < length (y ∷ ys) → get_or (y ∷ ys) k x ≡ x → m < length (x ∷ xs) → get_or (x ∷ xs) m y ≡ y → x ≡ y
first_at x y xs ys zero m x_rises y_rises k_within k_is m_within m_is = sym k_is
first_at x y xs ys (suc k) zero x_rises y_rises k_within k_is m_within m_is = m_is
first_at x y xs ys (suc k) (suc m) x_rises y_rises k_within k_is m_within m_is =
    absurd (omega (arith, y_rises 0 (suc k) x (omega arith) k_within, x_rises 0 (suc m) y (omega arith) m_within, k_is, m_is))

rest_at : (x y z : ℕ) (xs ys : List ℕ) (k m : ℕ) → x ≡ y → Rises (x ∷ xs) → k < length xs → get_or xs k z ≡ z → m < length (y ∷ ys) → get_or (y ∷ ys) m z ≡ z → Contains ys z
rest_at x y z xs ys k zero same x_rises k_within k_is m_within m_is =
    absurd (omega (arith, x_rises 0 (suc k) z (omega arith) (omega arith), same, k_is, m_is))
rest_at x y z xs ys k (suc m) same x_rises k_within k_is m_within m_is = (m, omega arith, m_is)

later : (x z : ℕ) (xs : List ℕ) → Contains xs z → Contains (x ∷ xs) z
later x z xs stands = (suc stands.0, omega (arith, stands.1), stands.2)

same_numbers : (xs ys : List ℕ) → Rises xs → Rises ys → ((z : ℕ) → Contains xs z → Contains ys z) → ((z : ℕ) → Contains ys z → Contains xs z) → xs ≡ ys
same_numbers [] [] x_rises y_rises to from = refl
same_numbers [] (y ∷ ys) x_rises y_rises to from = let stands = from y (0, omega arith, refl) in absurd (omega (arith, stands.1))
same_numbers (x ∷ xs) [] x_rises y_rises to from = let stands = to x (0, omega arith, refl) in absurd (omega (arith, stands.1))
same_numbers (x ∷ xs) (y ∷ ys) x_rises y_rises to from =
    let x_stands = to x (0, omega arith, refl) in
    let y_stands = from y (0, omega arith, refl) in
    let first : x ≡ y = first_at x y xs ys x_stands.0 y_stands.0 x_rises y_rises x_stands.1 x_stands.2 y_stands.1 y_stands.2 in
    let rest : xs ≡ ys = same_numbers xs ys (rises_tail x xs x_rises) (rises_tail y ys y_rises)
    (λ z stands. let there = to z (later x z xs stands) in rest_at x y z xs ys stands.0 there.0 first x_rises stands.1 stands.2 there.1 there.2)
    (λ z stands. let there = from z (later y z ys stands) in rest_at y x z ys xs stands.0 there.0 (sym first) y_rises stands.1 stands.2 there.1 there.2) in
    ap (λ (z : ℕ). z ∷ xs) first ∙ ap (λ (zs : List ℕ). y ∷ zs) rest

pub one : AnswerIsOne
one terms store t a b to_a to_b =
    same_numbers a b (λ i j d order within. AllPairs-from_increasing a to_a.rising i j d order within) (λ i j d order within. AllPairs-from_increasing b to_b.rising i j d order within)
    (λ doc stands. (to_b.each doc).1 ((to_a.each doc).0 stands)) (λ doc stands. (to_a.each doc).1 ((to_b.each doc).0 stands))

-- ---- what is stored of an index

record IsListed (lists : List TermList) (n : ℕ) (term : List ℕ) (doc : ℕ) : Type 0 where
  list : TermList
  stands : slice_get lists n ≡ Some list
  named : list.term ≡ term
  posted : Contains (docs_of list.postings) doc

listed_to : (lists : List TermList) (n : ℕ) (term : List ℕ) (doc : ℕ) → slice_get (terms_of lists) n ≡ Some term → Contains (slice_index_or (map (λ list. docs_of list.postings) lists) n []) doc → IsListed lists n term doc
listed_to [] n term doc named listed = absurd (omega (arith, slice_get_within [] n term named))
listed_to (list ∷ lists) zero term doc named listed = record { list = list; stands = refl; named = some_equal list.term term named; posted = listed }
listed_to (list ∷ lists) (suc n) term doc named listed =
    let rest = listed_to lists n term doc named listed in
    record { list = rest.list; stands = rest.stands; named = rest.named; posted = rest.posted }

term_to : (index : IndexParts) (term : List ℕ) (doc : ℕ) → HasTerm (terms_of index.lists) (stored_of index) term doc → HasPosting index term doc
term_to index term doc has =
    let found = listed_to index.lists has.list term doc has.named has.listed in
    record { place = has.list; list = found.list; stands = found.stands; named = found.named; posted = found.posted }

term_from : (index : IndexParts) (term : List ℕ) (doc : ℕ) → HasPosting index term doc → HasTerm (terms_of index.lists) (stored_of index) term doc
term_from index term doc has =
    let docs : slice_get (map (λ (list : TermList). docs_of list.postings) index.lists) has.place ≡ Some (docs_of has.list.postings) =
    slice_get-map (λ (list : TermList). docs_of list.postings) index.lists has.place ∙ ap (option_map (λ (list : TermList). docs_of list.postings)) has.stands in
    record {
      list = has.place;
      named = slice_get-map (λ (list : TermList). list.term) index.lists has.place ∙ (ap (option_map (λ (list : TermList). list.term)) has.stands ∙ ap (λ (t : List ℕ). Some t) has.named);
      listed = subst (λ (ds : List ℕ). Contains ds doc) (sym (get_or_from_slice_get (map (λ (list : TermList). docs_of list.postings) index.lists) has.place (docs_of has.list.postings) [] docs)) has.posted;
    }

pub stored : StoreAnswersAsTheIndex
stored index t doc =
    meant_same (HasTerm (terms_of index.lists) (stored_of index)) (HasPosting index) (length index.documents) (length index.documents) t doc doc
    (λ term. (term_to index term doc, term_from index term doc)) (λ low. low, λ low. low)
