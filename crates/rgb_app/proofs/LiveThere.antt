-- At each version each query has an answer.
use Rattle.std.proofs.Common.{◌≡◌, ◌⊎◌, ℕ, zero, suc, ◌<◌, ◌≤◌, List, [], ◌∷◌, length, map, get_or, slice_get, slice_index, Some, Contains, refl, sym, ap, subst, ◌∙◌, inl, inr, arith}
use Rattle.std.specs.List.{AllPairs, range_with_len}
use Rattle.std.proofs.lemmas.Bool.{cases_lt}
use Rattle.std.proofs.lemmas.List.{length-map, get_or-map}
use Rattle.std.proofs.lemmas.List.Kept.{AllPairs-from_increasing}
use Rattle.std.proofs.lemmas.Grind.{get_or_default_zero}
use Rattle.std.proofs.lemmas.Option.{same_Some, none-some}
use Rattle.rgb_base.specs.Parts.{IndexParts, IsIndex}
use Rattle.rgb_base.specs.Order.{new_of}
use Rattle.rgb_base.specs.Laws.{NumbersUndoTheOrder}
use Rattle.postings_rewrite.specs.Laws.{IsOrderOf}
use Rattle.bool_query.specs.Tree.{Tree}
use Rattle.bool_query.specs.Answers.{AreExactly, IsMeantInIndex}
use Rattle.bool_query.specs.AnswerLaws.{MeantIsBelow}
use Rattle.query_file.specs.Queries.{Numbered}
use Rattle.bisection.specs.Progress.{depth_after}
use Rattle.live_index.specs.Answers.{IsAnswerUnder}
use Rattle.command_words.specs.declared.reordering.Reordering.{Reordering}
use Rattle.rgb_app.specs.Reordering.{options_of}
use Rattle.rgb_app.specs.Live.{down_to, slabs_at, IsVersion, last_of, IsLiveAnswer, AreLiveAnswers, NoneFalls, AreAt, AreLive}
use Rattle.rgb_app.specs.declared.live_answers.LiveAnswer.{LiveAnswer}
use Rattle.rgb_app.proofs.Reorderings.{AreThere, some_numbering}
use Rattle.rgb_app.proofs.Meanings.{Known, meant_is_known}
use Rattle.rgb_app.proofs.Answerings.{some_exactly}
use Rattle.rgb_app.proofs.LiveOnes.{LiveLaws, version_is_order}

-- ---- versions

pub some_version : AreThere → (options : Reordering) (index : IndexParts) → IsIndex index → (version : ℕ) → (numbering : List ℕ) × IsVersion options index version numbering
some_version theirs options index sound zero = (range_with_len 0 (length index.documents), refl)
some_version theirs options index sound (suc others) =
    let made = some_numbering theirs (down_to options (depth_after (options_of options) (slabs_at options.by_name others))) index sound in
    (made.numbering, record { trace = made.trace; is_numbering = made.is_numbering })

-- ---- the answer under an order

-- the new number is that of a document that the query means
abbrev IsMeantUnder : IndexParts → List ℕ → Tree → ℕ → Type 0
IsMeantUnder index order tree number = (number < length index.documents) × IsMeantInIndex index tree (slice_index order number)

under_known : (index : IndexParts) (order : List ℕ) (tree : Tree) (number : ℕ) → Known (IsMeantUnder index order tree number)
under_known index order tree number = by (cases_lt number (length index.documents)) (meant_is_known index tree (slice_index order number))
  where
    by : (number < length index.documents) ⊎ (length index.documents ≤ number) → Known (IsMeantInIndex index tree (slice_index order number)) → Known (IsMeantUnder index order tree number)
    by (inr high) meant = inr (λ p. absurd (omega (arith, high, p.0)))
    by (inl low) (inl meant) = inl (low, meant)
    by (inl low) (inr never) = inr (λ p. never p.1)

-- the old number of each
abbrev olds : List ℕ → List ℕ → List ℕ
olds order ids = map (slice_index order) ids

old_at : (order ids : List ℕ) (k d : ℕ) → k < length ids → get_or (olds order ids) k d ≡ slice_index order (slice_index ids k)
old_at order ids k d lt = get_or-map (slice_index order) ids k 0 d lt

-- they are an answer
record IsUnder (index : IndexParts) (order : List ℕ) (tree : Tree) (ids : List ℕ) : Type 0 where
  pub ordered : IsOrderOf index order
  pub undo : NumbersUndoTheOrder
  pub are : AreExactly (IsMeantUnder index order tree) ids

id_is : (index : IndexParts) (order : List ℕ) (tree : Tree) (ids : List ℕ) → IsUnder index order tree ids → (k : ℕ) → k < length ids → IsMeantUnder index order tree (slice_index ids k)
id_is index order tree ids is k lt = (is.are.each (slice_index ids k)).0 (k, lt, get_or_default_zero ids k (slice_index ids k) lt)

-- the number of the document at a place is the one that stands there
back_at : (index : IndexParts) (order : List ℕ) (tree : Tree) (ids : List ℕ) → IsUnder index order tree ids → (k d : ℕ) → k < length ids → new_of order (get_or (olds order ids) k d) ≡ slice_index ids k
back_at index order tree ids is k d lt =
    let low : slice_index ids k < length order = omega (arith, (id_is index order tree ids is k lt).0, is.ordered.len) in
    ap (new_of order) (old_at order ids k d lt) ∙ ((is.undo order is.ordered.ordered).1 (slice_index ids k) low).1

olds_differ : (index : IndexParts) (order : List ℕ) (tree : Tree) (ids : List ℕ) → IsUnder index order tree ids → AllPairs (λ a b. a ≡ b → ⊥) (olds order ids)
olds_differ index order tree ids is i j d less within same =
    let high : j < length ids = omega (arith, within, length-map ids (slice_index order)) in
    let low : i < length ids = omega (arith, less, high) in
    let numbers : slice_index ids i ≡ slice_index ids j = sym (back_at index order tree ids is i d low) ∙ ap (new_of order) same ∙ back_at index order tree ids is j d high in
    let rises : get_or ids i 0 < get_or ids j 0 = AllPairs-from_increasing ids is.are.rising i j 0 less high in
    absurd (omega (arith, rises, numbers))

old_is_meant : (index : IndexParts) (order : List ℕ) (tree : Tree) (ids : List ℕ) → IsUnder index order tree ids → (doc : ℕ) → Contains (olds order ids) doc → IsMeantInIndex index tree doc
old_is_meant index order tree ids is doc (k, within, stands) =
    let lt : k < length ids = omega (arith, within, length-map ids (slice_index order)) in
    subst (λ (n : ℕ). IsMeantInIndex index tree n) (sym (old_at order ids k doc lt) ∙ stands) (id_is index order tree ids is k lt).1

meant_is_old : MeantIsBelow → (index : IndexParts) → IsIndex index → (order : List ℕ) (tree : Tree) (ids : List ℕ) → IsUnder index order tree ids → (doc : ℕ) → IsMeantInIndex index tree doc → Contains (olds order ids) doc
meant_is_old below index sound order tree ids is doc meant =
    let low : doc < length index.documents = below index sound tree doc meant in
    let number = new_of order doc in
    let back = (is.undo order is.ordered.ordered).0 doc (omega (arith, low, is.ordered.len)) in
    let under : IsMeantUnder index order tree number = (omega (arith, back.0, is.ordered.len), subst (λ (n : ℕ). IsMeantInIndex index tree n) (sym back.1) meant) in
    let there = (is.are.each number).1 under in
    let k = there.0 in
    let at : slice_index ids k ≡ number = sym (get_or_default_zero ids k number there.1) ∙ there.2 in
    (k, omega (arith, there.1, length-map ids (slice_index order)), old_at order ids k doc there.1 ∙ ap (slice_index order) at ∙ back.1)

some_under : LiveLaws → (index : IndexParts) → IsIndex index → (order : List ℕ) → IsOrderOf index order → (tree : Tree) → (ids : List ℕ) × IsAnswerUnder index order tree ids (olds order ids)
some_under laws index sound order ordered tree =
    let chosen = some_exactly (IsMeantUnder index order tree) (length index.documents) (under_known index order tree) (λ number p. p.0) in
    let ids = chosen.0 in
    let is : IsUnder index order tree ids = record { ordered = ordered; undo = laws.undo; are = chosen.1 } in (
      ids,
      record {
        rising = chosen.1.rising;
        len = length-map ids (slice_index order);
        images = λ k lt. sym (back_at index order tree ids is k 0 lt);
        once = olds_differ index order tree ids is;
        each = λ doc. (old_is_meant index order tree ids is doc, meant_is_old laws.below index sound order tree ids is doc);
      },
    )

-- ---- answers at a version

-- the queries have answers of this version
record HasAnswersAt (options : Reordering) (index : IndexParts) (queries : List Numbered) (version : ℕ) : Type 0 where
  pub answers : List LiveAnswer
  pub are : AreLiveAnswers options index queries answers
  pub at : AreAt version answers

one_at : LiveLaws → AreThere → (options : Reordering) (index : IndexParts) → IsIndex index → (version : ℕ) → version ≤ last_of options → (query : Numbered)
    → (answer : LiveAnswer) × IsLiveAnswer options index query answer × (answer.version ≡ version)
one_at laws theirs options index sound version most query =
    let made = some_version theirs options index sound version in
    let ordered = version_is_order laws.ones options index sound version made.0 made.1 in
    let found = some_under laws index sound made.0 ordered query.query in (
      record { line = query.line; version = version; ids = found.0; originals = olds made.0 found.0 },
      record { line = refl; most = most; numbering = made.0; is_version = made.1; is_answer = found.1 },
      refl,
    )

-- the answer to one more query before the others
first_of_all : (options : Reordering) (index : IndexParts) (first : Numbered) (queries : List Numbered) (mine : LiveAnswer) (answers : List LiveAnswer) → IsLiveAnswer options index first mine → AreLiveAnswers options index queries answers
    → (place : ℕ) (query : Numbered) (answer : LiveAnswer) → slice_get (first ∷ queries) place ≡ Some query → slice_get (mine ∷ answers) place ≡ Some answer → IsLiveAnswer options index query answer
first_of_all options index first queries mine answers is are zero query answer asked answered =
    subst (λ (q : Numbered). IsLiveAnswer options index q answer) (same_Some first query asked) (subst (λ (a : LiveAnswer). IsLiveAnswer options index first a) (same_Some mine answer answered) is)
first_of_all options index first queries mine answers is are (suc place) query answer asked answered = are.each place query answer asked answered

first_at_version : (version : ℕ) (mine : LiveAnswer) (answers : List LiveAnswer) → mine.version ≡ version → AreAt version answers → AreAt version (mine ∷ answers)
first_at_version version mine answers is are zero answer answered = subst (λ (a : LiveAnswer). a.version ≡ version) (same_Some mine answer answered) is
first_at_version version mine answers is are (suc place) answer answered = are place answer answered

some_at : LiveLaws → AreThere → (options : Reordering) (index : IndexParts) → IsIndex index → (version : ℕ) → version ≤ last_of options → (queries : List Numbered) → HasAnswersAt options index queries version
some_at laws theirs options index sound version most [] = record {
  answers = [];
  are = record { len = refl; each = λ place query answer asked answered. absurd (none-some query asked) };
  at = λ place answer answered. absurd (none-some answer answered);
}
some_at laws theirs options index sound version most (query ∷ queries) =
    let mine = one_at laws theirs options index sound version most query in
    let rest = some_at laws theirs options index sound version most queries in
    record {
      answers = mine.0 ∷ rest.answers;
      are = record {
        len = ap suc rest.are.len;
        each = first_of_all options index query queries mine.0 rest.answers mine.1 rest.are;
      };
      at = first_at_version version mine.0 rest.answers mine.2 rest.at;
    }

-- ---- what readers were answered

none_falls : (readers : ℕ) (answers : List LiveAnswer) → AreAt 0 answers → NoneFalls readers answers
none_falls readers answers at place later one other less turn first second = omega (arith, at place one first, at later other second)

-- so many readers can be answered
pub record HasLive (options : Reordering) (readers : ℕ) (index : IndexParts) (queries : List Numbered) : Type 0 where
  pub answers : List LiveAnswer
  pub finals : List LiveAnswer
  pub are_live : AreLive options readers index queries answers finals

-- each at the first version
pub some_live : LiveLaws → AreThere → (options : Reordering) (readers : ℕ) (index : IndexParts) → IsIndex index → (queries : List Numbered) → HasLive options readers index queries
some_live laws theirs options readers index sound queries =
    let firsts = some_at laws theirs options index sound 0 (omega arith) queries in
    let lasts = some_at laws theirs options index sound (last_of options) (omega arith) queries in
    record {
      answers = firsts.answers;
      finals = lasts.answers;
      are_live = record { answered = firsts.are; in_turn = none_falls readers firsts.answers firsts.at; again = lasts.are; last = lasts.at };
    }
