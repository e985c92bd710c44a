-- An answer at a version is one.
use Rattle.std.proofs.Common.{◌≡◌, ℕ, zero, suc, ◌<◌, List, [], ◌∷◌, length, map, get_or, slice_get, slice_index, Some, Contains, refl, sym, ap, subst, ◌∙◌, arith}
use Rattle.std.specs.List.Sorted.{IsStrictlyIncreasing}
use Rattle.std.proofs.lemmas.List.{ext_get_or}
use Rattle.std.proofs.lemmas.List.FromFn.{length-range_with_len}
use Rattle.std.proofs.lemmas.Grind.{get_or_default_zero}
use Rattle.std.proofs.lemmas.Option.{same_Some, none-some}
use Rattle.rgb_base.specs.Parts.{IndexParts, IsIndex}
use Rattle.rgb_base.specs.Order.{new_of}
use Rattle.rgb_base.specs.Laws.{NumbersUndoTheOrder}
use Rattle.postings_rewrite.specs.Laws.{IsOrderOf}
use Rattle.postings_rewrite.specs.Stores.{StoredLists, list_at}
use Rattle.bool_query.specs.Tree.{Tree, of_term}
use Rattle.bool_query.specs.Answers.{IsMeantInStore}
use Rattle.bool_query.specs.AnswerLaws.{MeantIsBelow, AnswerIsOne}
use Rattle.query_file.specs.Queries.{Numbered}
use Rattle.bisection.specs.Progress.{depth_after}
use Rattle.command_words.specs.declared.reordering.Reordering.{Reordering}
use Rattle.rgb_app.specs.Reordering.{options_of}
use Rattle.live_index.specs.Answers.{IsAnswerUnder}
use Rattle.rgb_app.specs.Live.{down_to, slabs_at, IsVersion, IsLiveAnswer, AreLiveAnswers, AreAt, last_of}
use Rattle.rgb_app.specs.declared.live_answers.LiveAnswer.{LiveAnswer}
use Rattle.rgb_app.proofs.Reorderings.{AreOne, one_numbering, numbering_ordered, range_ordered}

-- what is told of numberings and of answers
pub record LiveLaws : Type 0 where
  pub ones : AreOne
  pub undo : NumbersUndoTheOrder
  pub below : MeantIsBelow
  pub answer : AnswerIsOne

-- ---- versions

pub version_is_one : AreOne → (options : Reordering) (index : IndexParts) (version : ℕ) (a b : List ℕ) → IsVersion options index version a → IsVersion options index version b → a ≡ b
version_is_one laws options index zero a b p q = p ∙ sym q
version_is_one laws options index (suc others) a b p q =
    (one_numbering laws (down_to options (depth_after (options_of options) (slabs_at options.by_name others))) index a b p.trace q.trace p.is_numbering q.is_numbering).numbering

pub version_is_order : AreOne → (options : Reordering) (index : IndexParts) → IsIndex index → (version : ℕ) (numbering : List ℕ) → IsVersion options index version numbering → IsOrderOf index numbering
version_is_order laws options index sound zero numbering is =
    subst (λ (order : List ℕ). IsOrderOf index order) (sym is) (record { ordered = range_ordered (length index.documents) sound.counted.documents; len = length-range_with_len 0 (length index.documents) })
version_is_order laws options index sound (suc others) numbering is =
    numbering_ordered laws.documents (down_to options (depth_after (options_of options) (slabs_at options.by_name others))) index numbering is.trace is.is_numbering

-- ---- rising numbers

-- a store whose one list is these numbers: a query of its term is answered by that list
abbrev store_of : List ℕ → StoredLists
store_of numbers = record { lists = numbers ∷ []; documents = 0 }

abbrev IsStored : List ℕ → ℕ → Type 0
IsStored numbers number = IsMeantInStore ([] ∷ []) (store_of numbers) (of_term []) number

is_stored : (numbers : List ℕ) (number : ℕ) → Contains numbers number → IsStored numbers number
is_stored numbers number stands = record { list = 0; named = refl; listed = stands }

stands_at : (numbers : List ℕ) (number place : ℕ) → Contains (list_at (store_of numbers) place) number → Contains numbers number
stands_at numbers number zero stands = stands
stands_at numbers number (suc place) stands = absurd (omega (arith, stands.1))

-- numbers that rise are told by which they are
same_numbers : AnswerIsOne → (xs ys : List ℕ) → IsStrictlyIncreasing xs → IsStrictlyIncreasing ys → ((z : ℕ) → Contains xs z → Contains ys z) → ((z : ℕ) → Contains ys z → Contains xs z) → xs ≡ ys
same_numbers law xs ys x_rises y_rises to from =
    law ([] ∷ []) (store_of ys) (of_term []) xs ys
    (record { rising = x_rises; each = λ z. ((λ stands. is_stored ys z (to z stands)), (λ has. from z (stands_at ys z has.list has.listed))) })
    (record { rising = y_rises; each = λ z. (is_stored ys z, (λ has. stands_at ys z has.list has.listed)) })

-- ---- answers under one numbering

-- the number at a place
at : (xs : List ℕ) (k d : ℕ) → k < length xs → get_or xs k d ≡ slice_index xs k
at xs k d lt = get_or_default_zero xs k d lt

-- a number that one answer has is the image of a document, which the other has too
has_too : (index : IndexParts) (order : List ℕ) (tree : Tree) (ids originals others owners : List ℕ) → IsAnswerUnder index order tree ids originals → IsAnswerUnder index order tree others owners
    → (z : ℕ) → Contains ids z → Contains others z
has_too index order tree ids originals others owners p q z (k, lt, is) =
    let here : k < length originals = omega (arith, lt, p.len) in
    let doc = slice_index originals k in
    let owned : Contains originals doc = (k, here, at originals k doc here) in
    let there = (q.each doc).1 ((p.each doc).0 owned) in
    let m = there.0 in
    let within : m < length others = omega (arith, there.1, q.len) in
    let owner : slice_index owners m ≡ doc = sym (at owners m doc there.1) ∙ there.2 in
    let z_is : slice_index ids k ≡ z = sym (at ids k z lt) ∙ is in
    let image : slice_index others m ≡ z = q.images m within ∙ ap (new_of order) owner ∙ sym (p.images k lt) ∙ z_is in
    (m, within, at others m z within ∙ image)

-- the documents of which the numbers are the images
same_owners : NumbersUndoTheOrder → MeantIsBelow → (index : IndexParts) → IsIndex index → (order : List ℕ) → IsOrderOf index order → (tree : Tree) (ids originals owners : List ℕ)
    → IsAnswerUnder index order tree ids originals → IsAnswerUnder index order tree ids owners → originals ≡ owners
same_owners undo below index sound order is tree ids originals owners p q =
    ext_get_or 0 originals owners (p.len ∙ sym q.len)
    (λ k lt.
    let inside : k < length owners = omega (arith, lt, p.len, q.len) in
    let place : k < length ids = omega (arith, lt, p.len) in
    let a = slice_index originals k in
    let b = slice_index owners k in
    let a_below : a < length index.documents = below index sound tree a ((p.each a).0 (k, lt, at originals k a lt)) in
    let b_below : b < length index.documents = below index sound tree b ((q.each b).0 (k, inside, at owners k b inside)) in
    let image : new_of order a ≡ new_of order b = sym (p.images k place) ∙ q.images k place in
    let a_back = ((undo order is.ordered).0 a (omega (arith, a_below, is.len))).1 in
    let b_back = ((undo order is.ordered).0 b (omega (arith, b_below, is.len))).1 in
    at originals k 0 lt ∙ sym a_back ∙ ap (slice_index order) image ∙ b_back ∙ sym (at owners k 0 inside))

-- ---- answers at one version

answer_of : ℕ → ℕ → List ℕ → List ℕ → LiveAnswer
answer_of line version ids originals = record { line = line; version = version; ids = ids; originals = originals }

answer_is : (a : LiveAnswer) → answer_of a.line a.version a.ids a.originals ≡ a
unfolding answer_of
answer_is a = refl

one_live_answer : LiveLaws → (options : Reordering) (index : IndexParts) → IsIndex index → (query : Numbered) (a b : LiveAnswer) → IsLiveAnswer options index query a → IsLiveAnswer options index query b
    → a.version ≡ b.version → a ≡ b
one_live_answer laws options index sound query a b p q same =
    let there : IsVersion options index b.version p.numbering = subst (λ (version : ℕ). IsVersion options index version p.numbering) same p.is_version in
    let order : p.numbering ≡ q.numbering = version_is_one laws.ones options index b.version p.numbering q.numbering there q.is_version in
    let mine : IsAnswerUnder index q.numbering query.query a.ids a.originals = subst (λ (n : List ℕ). IsAnswerUnder index n query.query a.ids a.originals) order p.is_answer in
    let ids : a.ids ≡ b.ids = same_numbers laws.answer a.ids b.ids mine.rising q.is_answer.rising
    (has_too index q.numbering query.query a.ids a.originals b.ids b.originals mine q.is_answer) (has_too index q.numbering query.query b.ids b.originals a.ids a.originals q.is_answer mine) in
    let theirs : IsAnswerUnder index q.numbering query.query b.ids a.originals = subst (λ (ns : List ℕ). IsAnswerUnder index q.numbering query.query ns a.originals) ids mine in
    let originals : a.originals ≡ b.originals =
    same_owners laws.undo laws.below index sound q.numbering (version_is_order laws.ones options index sound b.version q.numbering q.is_version) query.query b.ids a.originals b.originals theirs q.is_answer in
    sym (answer_is a) ∙ ap (λ (n : ℕ). answer_of n a.version a.ids a.originals) (p.line ∙ sym q.line) ∙ ap (λ (n : ℕ). answer_of b.line n a.ids a.originals) same
    ∙ ap (λ (ns : List ℕ). answer_of b.line b.version ns a.originals) ids ∙ ap (answer_of b.line b.version b.ids) originals ∙ answer_is b

-- at each place the answers have one version
abbrev pub AreOfOneVersion : List LiveAnswer → List LiveAnswer → Type 0
AreOfOneVersion ones others = (place : ℕ) (a b : LiveAnswer) → slice_get ones place ≡ Some a → slice_get others place ≡ Some b → a.version ≡ b.version

pub live_answers_are_one : LiveLaws → (options : Reordering) (index : IndexParts) → IsIndex index → (queries : List Numbered) (ones others : List LiveAnswer)
    → AreLiveAnswers options index queries ones → AreLiveAnswers options index queries others → AreOfOneVersion ones others → ones ≡ others
live_answers_are_one laws options index sound queries [] [] p q same = refl
live_answers_are_one laws options index sound queries [] (b ∷ others) p q same = absurd (omega (arith, p.len, q.len))
live_answers_are_one laws options index sound queries (a ∷ ones) [] p q same = absurd (omega (arith, p.len, q.len))
live_answers_are_one laws options index sound [] (a ∷ ones) (b ∷ others) p q same = absurd (omega (arith, p.len))
live_answers_are_one laws options index sound (query ∷ queries) (a ∷ ones) (b ∷ others) p q same =
    ap (λ (x : LiveAnswer). x ∷ ones) (one_live_answer laws options index sound query a b (p.each 0 query a refl refl) (q.each 0 query b refl refl) (same 0 a b refl refl))
    ∙ ap (λ (xs : List LiveAnswer). b ∷ xs)
    (live_answers_are_one laws options index sound queries ones others (record { len = omega (arith, p.len); each = λ place. p.each (suc place) }) (record { len = omega (arith, q.len); each = λ place. q.each (suc place) })
    (λ place. same (suc place)))

abbrev versions_of : List LiveAnswer → List ℕ
versions_of answers = map (λ answer. answer.version) answers

pub same_versions : (ones others : List LiveAnswer) → versions_of ones ≡ versions_of others → AreOfOneVersion ones others
same_versions [] others same place a b is other = absurd (none-some a is)
same_versions (x ∷ ones) [] same place a b is other = absurd (none-some b other)
same_versions (x ∷ ones) (y ∷ others) same zero a b is other =
    let head : x.version ≡ y.version = cc in
    ap (λ (answer : LiveAnswer). answer.version) (sym (same_Some x a is)) ∙ head ∙ ap (λ (answer : LiveAnswer). answer.version) (same_Some y b other)
same_versions (x ∷ ones) (y ∷ others) same (suc place) a b is other =
    let tail : versions_of ones ≡ versions_of others = cc in
    same_versions ones others tail place a b is other

pub same_last : (options : Reordering) (ones others : List LiveAnswer) → AreAt (last_of options) ones → AreAt (last_of options) others → AreOfOneVersion ones others
same_last options ones others p q place a b is other = p place a is ∙ sym (q place b other)
