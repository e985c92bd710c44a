-- An answer over the store of a renumbered index is the answer over the base under the numbering.
use Rattle.std.proofs.Common.{◌≡◌, ◌≢◌, ◌↔◌, ⊎_elim, ℕ, ◌<◌, List, [], ◌∷◌, length, map, get_or, slice_index, All, Contains, refl, sym, subst, ap, ◌∙◌, arith}
use Rattle.std.specs.List.{AllZip, AllPairs}
use Rattle.std.proofs.lemmas.List.{length-map, get_or-map, get_or_default}
use Rattle.std.proofs.lemmas.List.Kept.{AllPairs-from_increasing}
use Rattle.std.proofs.lemmas.Option.{slice_get_within}
use Rattle.rgb_base.specs.declared.parts.TermList.{TermList}
use Rattle.rgb_base.specs.Parts.{IndexParts, IsIndex, terms_of}
use Rattle.rgb_base.specs.Order.{new_of}
use Rattle.rgb_base.specs.Laws.{NumbersUndoTheOrder}
use Rattle.postings_rewrite.specs.Laws.{IsOrderOf}
use Rattle.postings_rewrite.specs.Renumbering.{IsListRenumbered}
use Rattle.postings_rewrite.specs.Stores.{StoredLists, IsStore, IsStoredRenumbered}
use Rattle.bool_query.specs.Tree.{Tree, of_term, conjunction, disjunction, negation, Trees, no_trees, tree}
use Rattle.bool_query.specs.Meaning.{IsMeant, IsInEvery, IsInSome}
use Rattle.bool_query.specs.Answers.{HasTerm, IsMeantInStore, IsMeantInIndex, IsAnswerTo}
use Rattle.bool_query.specs.AnswerLaws.{AnswersAreRenumbered, MeantIsBelow, StoreAnswersAsTheIndex}
use Rattle.live_index.specs.Answers.{IsAnswerUnder}

-- ---- terms

pub same_terms : (order : List ℕ) (old new : List TermList) → AllZip (IsListRenumbered order) old new
    → terms_of new ≡ terms_of old
same_terms order [] [] all = refl
same_terms order [] (y ∷ ys) all = absurd all
same_terms order (x ∷ xs) [] all = absurd all
same_terms order (x ∷ xs) (y ∷ ys) all =
    let first = all.0.term in let rest = same_terms order xs ys all.1 in cc (first, rest)

-- ---- what is meant lies below the number of documents

mutual
  pub meant_below : (posted : List ℕ → ℕ → Type 0) (documents : ℕ)
      → ((term : List ℕ) (doc : ℕ) → posted term doc → doc < documents)
      → (query : Tree) (doc : ℕ) → IsMeant posted documents query doc → doc < documents
  meant_below posted documents below (of_term term) doc meant = below term doc meant
  meant_below posted documents below (conjunction parts) doc meant = every_below posted documents below parts doc meant
  meant_below posted documents below (disjunction parts) doc meant = some_below posted documents below parts doc meant
  meant_below posted documents below (negation part) doc meant = meant.0

  pub every_below : (posted : List ℕ → ℕ → Type 0) (documents : ℕ)
      → ((term : List ℕ) (doc : ℕ) → posted term doc → doc < documents)
      → (parts : Trees) (doc : ℕ) → IsInEvery posted documents parts doc → doc < documents
  every_below posted documents below no_trees doc meant = meant
  every_below posted documents below (tree part parts) doc meant = meant_below posted documents below part doc meant.0

  pub some_below : (posted : List ℕ → ℕ → Type 0) (documents : ℕ)
      → ((term : List ℕ) (doc : ℕ) → posted term doc → doc < documents)
      → (parts : Trees) (doc : ℕ) → IsInSome posted documents parts doc → doc < documents
  some_below posted documents below no_trees doc meant = absurd meant
  some_below posted documents below (tree part parts) doc meant =
      ⊎_elim (meant_below posted documents below part doc) (some_below posted documents below parts doc) meant

pub term_below : (terms : List (List ℕ)) (store : StoredLists) → IsStore store
    → length terms ≡ length store.lists → (term : List ℕ) (doc : ℕ) → HasTerm terms store term doc
    → doc < store.documents
term_below terms store sound same term doc has =
    let within : has.list < length store.lists = omega (arith, slice_get_within terms has.list term has.named) in
    let list = get_or store.lists has.list [] in
    let low : get_or list has.listed.0 doc < store.documents =
    (sound has.list [] within).below has.listed.0 doc has.listed.1 in
    subst (λ (d : ℕ). d < store.documents) has.listed.2 low

-- ---- the answer

-- what an answer rests on
pub record Grounds (base : IndexParts) (order : List ℕ) : Type 0 where
  pub undo : NumbersUndoTheOrder
  pub renumbered : AnswersAreRenumbered
  pub meant_below : MeantIsBelow
  pub stored : StoreAnswersAsTheIndex
  pub sound : IsIndex base
  pub ordered : IsOrderOf base order

module _ (base : IndexParts) (order : List ℕ) (store : StoredLists) (terms : List (List ℕ)) (query : Tree)
    (ids : List ℕ) (grounds : Grounds base order) (sound : IsStore store)
    (is_stored : IsStoredRenumbered base order store) (same : terms ≡ terms_of base.lists)
    (answers : IsAnswerTo terms store query ids) where
  old_terms : terms ≡ terms_of is_stored.new.lists
  old_terms = same ∙ sym (same_terms order base.lists is_stored.new.lists is_stored.renumbered.lists)

  as_many : length terms ≡ length store.lists
  as_many =
      let a : length terms ≡ length is_stored.new.lists =
      ap length old_terms ∙ length-map is_stored.new.lists (λ (l : TermList). l.term) in
      let b : length store.lists ≡ length is_stored.new.lists =
      ap (λ (s : StoredLists). length s.lists) is_stored.same ∙ length-map is_stored.new.lists _ in
      a ∙ sym b

  as_long : store.documents ≡ length base.documents
  as_long = ap (λ (s : StoredLists). s.documents) is_stored.same ∙ is_stored.renumbered.records.len

  id_below : (id : ℕ) → Contains ids id → id < length base.documents
  id_below id stands =
      let low = meant_below (HasTerm terms store) store.documents (term_below terms store sound as_many)
      query id ((answers.each id).0 stands) in
      omega (arith, low, as_long)

  -- over the store the same is meant as over the index that it stores
  in_new : (id : ℕ) → IsMeantInStore terms store query id ↔ IsMeantInIndex is_stored.new query id
  in_new id =
      subst (λ (ts : List (List ℕ)). IsMeantInStore ts store query id ↔ IsMeantInIndex is_stored.new query id)
      (sym old_terms)
      (subst (λ (s : StoredLists). IsMeantInStore (terms_of is_stored.new.lists) s query id ↔ IsMeantInIndex is_stored.new query id)
      (sym is_stored.same) (grounds.stored is_stored.new query id))

  in_base : (id : ℕ) → id < length base.documents
      → IsMeantInIndex is_stored.new query id ↔ IsMeantInIndex base query (slice_index order id)
  in_base id low =
      grounds.renumbered base is_stored.new order grounds.sound grounds.ordered is_stored.renumbered query id low

  pub ids_below : All (λ id. id < length order) ids
  ids_below k d within =
      let low = id_below (get_or ids k d) (k, within, get_or_default ids k (get_or ids k d) d within) in
      omega (arith, low, grounds.ordered.len)

  original_at : (place : ℕ) → place < length ids
      → slice_index (map (slice_index order) ids) place ≡ slice_index order (slice_index ids place)
  original_at place within = get_or-map (slice_index order) ids place 0 0 within

  is_image : (place : ℕ) → place < length ids
      → slice_index ids place ≡ new_of order (slice_index (map (slice_index order) ids) place)
  is_image place within =
      sym (ap (new_of order) (original_at place within)
      ∙ ((grounds.undo order grounds.ordered.ordered).1 (slice_index ids place) (ids_below place 0 within)).1)

  differ : AllPairs (λ a b. a ≢ b) (map (slice_index order) ids)
  differ i j d before within e =
      let size : length (map (slice_index order) ids) ≡ length ids = length-map ids (slice_index order) in
      let here : j < length ids = omega (arith, within, size) in
      let first : i < length ids = omega arith in
      let rise : slice_index ids i < slice_index ids j = AllPairs-from_increasing ids answers.rising i j 0 before here in
      let same : slice_index (map (slice_index order) ids) i ≡ slice_index (map (slice_index order) ids) j =
      get_or_default (map (slice_index order) ids) i 0 d (omega (arith, size))
      ∙ (e ∙ get_or_default (map (slice_index order) ids) j d 0 within) in
      let back : slice_index ids i ≡ slice_index ids j =
      is_image i first ∙ (ap (new_of order) same ∙ sym (is_image j here)) in
      absurd (omega (arith, rise, back))

  meant_here : (doc : ℕ) → Contains (map (slice_index order) ids) doc → IsMeantInIndex base query doc
  meant_here doc stands =
      let place = stands.0 in
      let within : place < length ids = omega (arith, stands.1, length-map ids (slice_index order)) in
      let id = slice_index ids place in
      let has : Contains ids id = (place, within, get_or_default ids place id 0 within) in
      let low = id_below id has in
      let meant = (in_base id low).0 ((in_new id).0 ((answers.each id).0 has)) in
      let is : slice_index order id ≡ doc =
      sym (original_at place within)
      ∙ (get_or_default (map (slice_index order) ids) place 0 doc stands.1 ∙ stands.2) in
      subst (λ (d : ℕ). IsMeantInIndex base query d) is meant

  stands_here : (doc : ℕ) → IsMeantInIndex base query doc → Contains (map (slice_index order) ids) doc
  stands_here doc meant =
      let low : doc < length order =
      omega (arith, grounds.meant_below base grounds.sound query doc meant, grounds.ordered.len) in
      let id = new_of order doc in
      let undone = (grounds.undo order grounds.ordered.ordered).0 doc low in
      let small : id < length base.documents = omega (arith, undone.0, grounds.ordered.len) in
      let meant_old = subst (λ (d : ℕ). IsMeantInIndex base query d) (sym undone.1) meant in
      let has = (answers.each id).1 ((in_new id).1 ((in_base id small).1 meant_old)) in
      let place = has.0 in
      let there : slice_index ids place ≡ id = get_or_default ids place 0 id has.1 ∙ has.2 in
      let inside : place < length (map (slice_index order) ids) =
      omega (arith, has.1, length-map ids (slice_index order)) in (
        place,
        inside,
        get_or_default (map (slice_index order) ids) place doc 0 inside
            ∙ (original_at place has.1 ∙ (ap (slice_index order) there ∙ undone.1)),
      )

  pub answer_under : (originals : List ℕ) → originals ≡ map (slice_index order) ids
      → IsAnswerUnder base order query ids originals
  answer_under originals is =
      subst (λ (os : List ℕ). IsAnswerUnder base order query ids os) (sym is) (record {
        rising = answers.rising;
        len = length-map ids (slice_index order);
        images = is_image;
        once = differ;
        each = λ doc. (meant_here doc, stands_here doc);
      })
