-- The laws of renumbered indexes.
use Rattle.std.proofs.Common.{◌≡◌, ℕ, suc, ◌<◌, List, [], ◌∷◌, length, get_or, map, slice_get, Some, refl, sym, subst, ap, ◌∙◌, All, arith}
use Rattle.std.specs.Prelude.{ℤ}
use Rattle.std.specs.List.{AllZip}
use Rattle.std.specs.List.Sorted.{IsPermutation}
use Rattle.std.proofs.lemmas.Simd.{map-map}
use Rattle.std.proofs.lemmas.List.Elements.{All-tail}
use Rattle.std.proofs.lemmas.List.Sorted.{IsPermutation-refl, IsPermutation-map, IsPermutation-trans}
use Rattle.rgb_base.specs.declared.parts.Posting.{Posting}
use Rattle.rgb_base.specs.declared.parts.TermList.{TermList}
use Rattle.rgb_base.specs.declared.parts.DocRecord.{DocRecord}
use Rattle.rgb_base.specs.declared.parts.Header.{Header}
use Rattle.rgb_base.specs.Parts.{IndexParts, IsPostings, AreOrdered}
use Rattle.rgb_base.specs.Order.{IsOrder, Renumbers, new_of}
use Rattle.rgb_base.specs.Laws.{NumbersUndoTheOrder}
use Rattle.postings_rewrite.specs.Renumbering.{moved, ArePostingsRenumbered, IsListRenumbered}
use Rattle.postings_rewrite.specs.Laws.{RenumberingIsOne, IdentityLeaves, TwiceIsOnce}
use Rattle.postings_rewrite.proofs.Rising.{ArePostingsRenumbered-one}

-- ---- parts tell the whole

abbrev list_made : List ℕ → ℤ → ℤ → List Posting → TermList
list_made term df cf postings = record { term = term; df = df; cf = cf; postings = postings }

same_list : (a b : TermList) → a.term ≡ b.term → a.df ≡ b.df → a.cf ≡ b.cf → a.postings ≡ b.postings → a ≡ b
same_list a b terms dfs cfs postings =
    ap (λ t. list_made t a.df a.cf a.postings) terms ∙ (ap (λ n. list_made b.term n a.cf a.postings) dfs
    ∙ (ap (λ n. list_made b.term b.df n a.postings) cfs ∙ ap (λ ps. list_made b.term b.df b.cf ps) postings))

abbrev index_made : Header → List TermList → List DocRecord → IndexParts
index_made header lists documents = record { header = header; lists = lists; documents = documents }

same_index : (a b : IndexParts) → a.header ≡ b.header → a.lists ≡ b.lists → a.documents ≡ b.documents → a ≡ b
same_index a b headers lists documents =
    ap (λ h. index_made h a.lists a.documents) headers ∙ (ap (λ ls. index_made b.header ls a.documents) lists ∙ ap (λ ds. index_made b.header b.lists ds) documents)

some_same : {X : Type 0} (x y : X) → Some x ≡ Some y → x ≡ y
some_same x y same = cc

same_elements : {X : Type 0} (xs ys : List X) → length xs ≡ length ys → ((i : ℕ) → i < length xs → slice_get xs i ≡ slice_get ys i) → xs ≡ ys
same_elements [] [] len each = refl
same_elements [] (y ∷ ys) len each = absurd (omega (arith, len))
same_elements (x ∷ xs) [] len each = absurd (omega (arith, len))
same_elements (x ∷ xs) (y ∷ ys) len each =
    let first : x ≡ y = some_same x y (each 0 (omega arith)) in
    let rest : xs ≡ ys = same_elements xs ys (omega (arith, len)) (λ i within. each (suc i) (omega arith)) in
    ap (λ z. z ∷ xs) first ∙ ap (λ zs. y ∷ zs) rest

-- ---- an index renumbered is one index

lists_one : (order : List ℕ) (old a b : List TermList) → AllZip (IsListRenumbered order) old a → AllZip (IsListRenumbered order) old b → a ≡ b
lists_one order [] [] [] to_a to_b = refl
lists_one order [] (x ∷ xs) b to_a to_b = absurd to_a
lists_one order [] [] (y ∷ ys) to_a to_b = absurd to_b
lists_one order (z ∷ zs) [] b to_a to_b = absurd to_a
lists_one order (z ∷ zs) (x ∷ xs) [] to_a to_b = absurd to_b
lists_one order (z ∷ zs) (x ∷ xs) (y ∷ ys) to_a to_b =
    let one = to_a.0 in
    let other = to_b.0 in
    let first : x ≡ y = same_list x y (one.term ∙ sym other.term) (one.df ∙ sym other.df) (one.cf ∙ sym other.cf) (ArePostingsRenumbered-one order z.postings x.postings y.postings one.postings other.postings) in
    ap (λ (list : TermList). list ∷ xs) first ∙ ap (λ (lists : List TermList). y ∷ lists) (lists_one order zs xs ys to_a.1 to_b.1)

pub one_index : RenumberingIsOne
one_index index a b order ordered to_a to_b =
    same_index a b (to_a.header ∙ sym to_b.header) (lists_one order index.lists a.lists b.lists to_a.lists to_b.lists)
    (same_elements a.documents b.documents (to_a.records.len ∙ sym to_b.records.len) (λ i within.
    let inside : i < length order = omega (arith, within, to_a.records.len, ordered.len) in
    to_a.records.each i inside ∙ sym (to_b.records.each i inside)))

-- ---- by the identity

map_same : {X Y : Type 0} (f g : X → Y) (xs : List X) → All (λ x. f x ≡ g x) xs → map f xs ≡ map g xs
map_same f g [] same = refl
map_same f g (x ∷ xs) same = ap (λ y. y ∷ map f xs) (same 0 x (omega arith)) ∙ ap (λ ys. g x ∷ ys) (map_same f g xs (All-tail (λ z. f z ≡ g z) x xs same))

map_same_id : {X : Type 0} (f : X → X) (xs : List X) → All (λ x. f x ≡ x) xs → map f xs ≡ xs
map_same_id f [] same = refl
map_same_id f (x ∷ xs) same = ap (λ y. y ∷ map f xs) (same 0 x (omega arith)) ∙ ap (λ ys. x ∷ ys) (map_same_id f xs (All-tail (λ z. f z ≡ z) x xs same))

with_doc : (posting : Posting) (a b : ℕ) → a ≡ b → (record posting { doc = a }) ≡ (record posting { doc = b })
with_doc posting a b same = ap (λ (n : ℕ). let p : Posting = record posting { doc = n } in p) same

postings_left : (order : List ℕ) (postings : List Posting) (documents : ℕ) → Renumbers order documents (λ old. old) → IsPostings documents postings → ArePostingsRenumbered order postings postings
postings_left order postings documents leaves is =
    let same : map (moved order) postings ≡ postings = map_same_id (moved order) postings (λ k d within. with_doc (get_or postings k d) (new_of order (get_or postings k d).doc) (get_or postings k d).doc (leaves.each (get_or postings k d).doc (is.below k d within))) in
    record { pairs = subst (λ (old : List Posting). IsPermutation old postings) (sym same) (IsPermutation-refl postings); rising = is.rising }

lists_left : (order : List ℕ) (lists : List TermList) (documents : ℕ) → Renumbers order documents (λ old. old) → AreOrdered documents lists → AllZip (IsListRenumbered order) lists lists
lists_left order [] documents leaves is = tt
lists_left order (list ∷ lists) documents leaves is =
    (record { term = refl; df = refl; cf = refl; postings = postings_left order list.postings documents leaves (is 0 list (omega arith)) }, lists_left order lists documents leaves (All-tail (λ (l : TermList). IsPostings documents l.postings) list lists is))

pub left : NumbersUndoTheOrder → IdentityLeaves
left undo index new order sound ordered leaves to_new =
    one_index index new index order ordered to_new (record {
      header = refl;
      lists = lists_left order index.lists (length index.documents) leaves sound.ordered;
      records = record {
        len = refl;
        each = λ number within.
            let here : get_or order number 0 ≡ number =
            ap (λ (n : ℕ). get_or order n 0) (sym (leaves.each number (omega (arith, within, ordered.len)))) ∙ ((undo order ordered.ordered).0 number within).1 in
            ap (slice_get index.documents) (sym here);
      };
    })

-- ---- by one order and then by another

module _ (undo : NumbersUndoTheOrder) (first second both : List ℕ) (documents : ℕ)
    (first_ordered : IsOrder first) (second_ordered : IsOrder second) (both_ordered : IsOrder both)
    (first_len : length first ≡ documents) (second_len : length second ≡ documents)
    (joins : Renumbers both documents (λ old. new_of second (new_of first old))) where
  moved_twice : (old : List Posting) → IsPostings documents old → map (moved both) old ≡ map (moved second) (map (moved first) old)
  moved_twice old is =
      map_same (moved both) (λ (posting : Posting). moved second (moved first posting)) old (λ k d within.
      let posting = get_or old k d in
      with_doc posting (new_of both posting.doc) (new_of second (new_of first posting.doc)) (joins.each posting.doc (is.below k d within)))
      ∙ sym (map-map (moved second) (moved first) old)

  postings_twice : (old middle last : List Posting) → IsPostings documents old → ArePostingsRenumbered first old middle → ArePostingsRenumbered second middle last → ArePostingsRenumbered both old last
  postings_twice old middle last is to_middle to_last =
      let once : map (moved both) old ≡ map (moved second) (map (moved first) old) = moved_twice old is in
      let pairs : IsPermutation (map (moved second) (map (moved first) old)) last =
      IsPermutation-trans (map (moved second) (map (moved first) old)) (map (moved second) middle) last (IsPermutation-map (moved second) (map (moved first) old) middle to_middle.pairs) to_last.pairs in
      record { pairs = subst (λ (postings : List Posting). IsPermutation postings last) (sym once) pairs; rising = to_last.rising }

  lists_twice : (old middle last : List TermList) → AreOrdered documents old → AllZip (IsListRenumbered first) old middle → AllZip (IsListRenumbered second) middle last → AllZip (IsListRenumbered both) old last
  lists_twice [] [] [] is to_middle to_last = tt
  lists_twice [] [] (z ∷ zs) is to_middle to_last = absurd to_last
  lists_twice [] (y ∷ ys) last is to_middle to_last = absurd to_middle
  lists_twice (x ∷ xs) [] last is to_middle to_last = absurd to_middle
  lists_twice (x ∷ xs) (y ∷ ys) [] is to_middle to_last = absurd to_last
  lists_twice (x ∷ xs) (y ∷ ys) (z ∷ zs) is to_middle to_last =
      let one = to_middle.0 in
      let other = to_last.0 in (
        record {
          term = other.term ∙ one.term;
          df = other.df ∙ one.df;
          cf = other.cf ∙ one.cf;
          postings = postings_twice x.postings y.postings z.postings (is 0 x (omega arith)) one.postings other.postings;
        },
        lists_twice xs ys zs (All-tail (λ (l : TermList). IsPostings documents l.postings) x xs is) to_middle.1 to_last.1,
      )

  -- the entry of the joined order
  entry : (number : ℕ) → number < documents → get_or both number 0 ≡ get_or first (get_or second number 0) 0
  entry number within =
      let middle = get_or second number 0 in
      let old = get_or first middle 0 in
      let from_second = (undo second second_ordered).1 number (omega arith) in
      let middle_low : middle < length first = omega (arith, from_second.0) in
      let from_first = (undo first first_ordered).1 middle middle_low in
      let old_low : old < documents = omega (arith, from_first.0) in
      let new : new_of both old ≡ number = joins.each old old_low ∙ (ap (new_of second) from_first.1 ∙ from_second.1) in
      ap (λ (n : ℕ). get_or both n 0) (sym new) ∙ ((undo both both_ordered).0 old (omega (arith, joins.len))).1

pub twice : NumbersUndoTheOrder → TwiceIsOnce
twice undo index middle last first second both sound first_order second_order both_order joins to_middle to_last =
    let documents = length index.documents in
    record {
      header = to_last.header ∙ to_middle.header;
      lists = lists_twice undo first second both documents first_order.ordered second_order.ordered both_order.ordered first_order.len second_order.len joins index.lists middle.lists last.lists sound.ordered to_middle.lists to_last.lists;
      records = record {
        len = to_last.records.len ∙ to_middle.records.len;
        each = λ number within.
            let inside : number < documents = omega (arith, within, both_order.len) in
            let low = (undo second second_order.ordered).1 number (omega (arith, second_order.len)) in
            to_last.records.each number (omega (arith, second_order.len))
            ∙ to_middle.records.each (get_or second number 0) (omega (arith, low.0, second_order.len, first_order.len))
            ∙ ap (slice_get index.documents) (sym (entry undo first second both documents first_order.ordered second_order.ordered both_order.ordered first_order.len second_order.len joins number inside));
      };
    }
