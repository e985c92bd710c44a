-- The answers to queries over an index: to each query there is one and no other.
use Rattle.std.proofs.Common.{◌≡◌, ◌⊎◌, ℕ, zero, suc, ◌+◌, ◌<◌, ◌≤◌, List, [], ◌∷◌, ◌++◌, length, get_or, take, All, refl, sym, ap, subst, ◌∙◌, inl, inr, arith}
use Rattle.std.specs.List.Sorted.{IsStrictlyIncreasing}
use Rattle.std.proofs.lemmas.List.{take_more, map-append}
use Rattle.std.proofs.lemmas.List.Elements.{Contains-get_or}
use Rattle.query_file.specs.declared.queries.NumberedQuery.{NumberedQuery}
use Rattle.query_file.specs.View.{seen, all_seen}
use Rattle.rgb_base.specs.Parts.{IndexParts, IsIndex, terms_of}
use Rattle.bool_query.specs.Tree.{Tree}
use Rattle.bool_query.specs.Answers.{AreExactly, IsMeantInIndex, IsAnswerTo}
use Rattle.postings_rewrite.specs.Stores.{StoredLists, stored_of}
use Rattle.query_file.specs.Queries.{Numbered}
use Rattle.rgb_app.specs.declared.answers.Answer.{Answer}
use Rattle.rgb_app.specs.Answering.{IsAnswer, AreAnswers}
use Rattle.bool_query.specs.AnswerLaws.{AnswerIsOne, StoreAnswersAsTheIndex, MeantIsBelow}
use Rattle.rgb_app.proofs.Meanings.{Known, In, in_of, contains_of, meant_is_known}

-- ---- lists that rise

abbrev Above : ℕ → List ℕ → Type 0
Above x [] = Unit {0}
Above x (y ∷ ys) = (x < y) × Above x ys

abbrev Rises : List ℕ → Type 0
Rises [] = Unit {0}
Rises (x ∷ xs) = Above x xs × Rises xs

next : (k : ℕ) → suc k + 1 ≡ suc (k + 1)
next k = omega arith

increases_on : (x y : ℕ) (ys : List ℕ) → x < y → IsStrictlyIncreasing (y ∷ ys) → (k : ℕ) → k + 1 < length (x ∷ y ∷ ys) → get_or (x ∷ y ∷ ys) k 0 < get_or (x ∷ y ∷ ys) (k + 1) 0
increases_on x y ys first rest zero lt = first
increases_on x y ys first rest (suc k) lt = subst (λ n. get_or (y ∷ ys) k 0 < get_or (x ∷ y ∷ ys) n 0) (sym (next k)) (rest k (omega (arith, lt)))

increases : (xs : List ℕ) → Rises xs → IsStrictlyIncreasing xs
increases [] up = λ k lt. absurd (omega (arith, lt))
increases (x ∷ []) up = λ k lt. absurd (omega (arith, lt))
increases (x ∷ y ∷ ys) up = increases_on x y ys up.0.0 (increases (y ∷ ys) up.1)

-- ---- the documents of which something holds

-- those from a number on, so many of them
record Chosen (P : ℕ → Type 0) (from count : ℕ) : Type 0 where
  pub ids : List ℕ
  pub up : Rises ids
  pub from_on : (z : ℕ) → In z ids → from ≤ z
  pub holds : (z : ℕ) → In z ids → P z
  pub all : (z : ℕ) → from ≤ z → z < from + count → P z → In z ids

above_from : (x : ℕ) (ys : List ℕ) → ((z : ℕ) → In z ys → x < z) → Above x ys
above_from x [] lt = tt
above_from x (y ∷ ys) lt = (lt y (inl refl), above_from x ys (λ z i. lt z (inr i)))

equal_or_more : (a b : ℕ) → a ≤ b → (a ≡ b) ⊎ (a + 1 ≤ b)
equal_or_more zero zero le = inl refl
equal_or_more zero (suc b) le = inr (omega arith)
equal_or_more (suc a) zero le = absurd (omega (arith, le))
equal_or_more (suc a) (suc b) le = by (equal_or_more a b (omega (arith, le)))
  where
    by : (a ≡ b) ⊎ (a + 1 ≤ b) → (suc a ≡ suc b) ⊎ (suc a + 1 ≤ suc b)
    by (inl is) = inl (ap suc is)
    by (inr more) = inr (omega (arith, more))

choose : (P : ℕ → Type 0) → ((z : ℕ) → Known (P z)) → (count from : ℕ) → Chosen P from count
choose P known zero from = record {
  ids = [];
  up = tt;
  from_on = λ z i. absurd i;
  holds = λ z i. absurd i;
  all = λ z low high p. absurd (omega (arith, low, high));
}
choose P known (suc count) from = by (known from) (choose P known count (from + 1))
  where
    by : Known (P from) → Chosen P (from + 1) count → Chosen P from (suc count)
    by (inl p) rest = record {
      ids = from ∷ rest.ids;
      up = (above_from from rest.ids (λ z i. omega (arith, rest.from_on z i)), rest.up);
      from_on = first_or_from;
      holds = first_or_holds;
      all = λ z low high q. first_or_all z q (cases z low) high;
    }
      where
        cases : (z : ℕ) → from ≤ z → (from ≡ z) ⊎ (from + 1 ≤ z)
        cases z low = equal_or_more from z low

        first_or_from : (z : ℕ) → In z (from ∷ rest.ids) → from ≤ z
        first_or_from z (inl is) = omega (arith, is)
        first_or_from z (inr later) = omega (arith, rest.from_on z later)

        first_or_holds : (z : ℕ) → In z (from ∷ rest.ids) → P z
        first_or_holds z (inl is) = subst P is p
        first_or_holds z (inr later) = rest.holds z later

        first_or_all : (z : ℕ) → P z → (from ≡ z) ⊎ (from + 1 ≤ z) → z < from + suc count → In z (from ∷ rest.ids)
        first_or_all z q (inl is) high = inl is
        first_or_all z q (inr more) high = inr (rest.all z more (omega (arith, high)) q)
    by (inr never) rest = record {
      ids = rest.ids;
      up = rest.up;
      from_on = λ z i. omega (arith, rest.from_on z i);
      holds = rest.holds;
      all = λ z low high q. later_all z q (equal_or_more from z low) high;
    }
      where
        later_all : (z : ℕ) → P z → (from ≡ z) ⊎ (from + 1 ≤ z) → z < from + suc count → In z rest.ids
        later_all z q (inl is) high = absurd (never (subst P (sym is) q))
        later_all z q (inr more) high = rest.all z more (omega (arith, high)) q

pub some_exactly : (P : ℕ → Type 0) (documents : ℕ) → ((z : ℕ) → Known (P z)) → ((z : ℕ) → P z → z < documents) → (ids : List ℕ) × AreExactly P ids
some_exactly P documents known below =
    let chosen = choose P known documents 0 in
    (chosen.ids, record { rising = increases chosen.ids chosen.up; each = λ z. ((λ c. chosen.holds z (in_of chosen.ids z c)), (λ p. contains_of chosen.ids z (chosen.all z (omega arith) (omega (arith, below z p)) p))) })

-- ---- answers

answer_of : ℕ → List ℕ → Answer
answer_of line ids = record { line = line; ids = ids }

answer_is : (a : Answer) → answer_of a.line a.ids ≡ a
unfolding answer_of
answer_is a = refl

-- what is exactly meant over an index is an answer over what is stored of it
stored : StoreAnswersAsTheIndex → (index : IndexParts) (query : Tree) (ids : List ℕ) → AreExactly (IsMeantInIndex index query) ids → IsAnswerTo (terms_of index.lists) (stored_of index) query ids
stored law index query ids are = record {
  rising = are.rising;
  each = λ doc.
      let same = law index query doc in
      ((λ c. same.1 ((are.each doc).0 c)), (λ m. (are.each doc).1 (same.0 m)));
}

-- what is told of answers
pub record AnswerLaws : Type 0 where
  pub one : AnswerIsOne
  pub stored : StoreAnswersAsTheIndex
  pub below : MeantIsBelow

one_answer : AnswerLaws → (index : IndexParts) (query : Numbered) (a b : Answer) → IsAnswer index query a → IsAnswer index query b → a ≡ b
one_answer laws index query a b p q =
    let same : a.ids ≡ b.ids =
    laws.one (terms_of index.lists) (stored_of index) query.query a.ids b.ids (stored laws.stored index query.query a.ids p.documents) (stored laws.stored index query.query b.ids q.documents) in
    sym (answer_is a) ∙ ap (λ (n : ℕ). answer_of n a.ids) (p.line ∙ sym q.line) ∙ ap (answer_of b.line) same ∙ answer_is b

pub answers_are_one : AnswerLaws → (index : IndexParts) (queries : List Numbered) (ones others : List Answer) → AreAnswers index queries ones → AreAnswers index queries others → ones ≡ others
answers_are_one laws index [] [] [] p q = refl
answers_are_one laws index [] [] (b ∷ others) p q = absurd q
answers_are_one laws index [] (a ∷ ones) others p q = absurd p
answers_are_one laws index (query ∷ queries) [] others p q = absurd p
answers_are_one laws index (query ∷ queries) (a ∷ ones) [] p q = absurd q
answers_are_one laws index (query ∷ queries) (a ∷ ones) (b ∷ others) p q =
    ap (λ x. x ∷ ones) (one_answer laws index query a b p.0 q.0) ∙ ap (λ xs. b ∷ xs) (answers_are_one laws index queries ones others p.1 q.1)

pub some_answers : AnswerLaws → (index : IndexParts) → IsIndex index → (queries : List Numbered) → (answers : List Answer) × AreAnswers index queries answers
some_answers laws index sound [] = ([], tt)
some_answers laws index sound (query ∷ queries) =
    let ids = some_exactly (IsMeantInIndex index query.query) (length index.documents) (meant_is_known index query.query) (laws.below index sound query.query) in
    let rest = some_answers laws index sound queries in
    (record { line = query.line; ids = ids.0 } ∷ rest.0, (record { line = refl; documents = ids.1 }, rest.1))

-- one more answer
pub one_more_answer : (index : IndexParts) (queries : List Numbered) (answers : List Answer) (query : Numbered) (answer : Answer) → AreAnswers index queries answers → IsAnswer index query answer
    → AreAnswers index (queries ++ query ∷ []) (answers ++ answer ∷ [])
one_more_answer index [] [] query answer all one = (one, tt)
one_more_answer index [] (a ∷ answers) query answer all one = absurd all
one_more_answer index (q ∷ queries) [] query answer all one = absurd all
one_more_answer index (q ∷ queries) (a ∷ answers) query answer all one = (all.0, one_more_answer index queries answers query answer all.1 one)

-- by the terms and the documents of the lists
pub stored_answer : StoreAnswersAsTheIndex → (index : IndexParts) (terms : List (List ℕ)) (store : StoredLists) (query : Tree) (ids : List ℕ) → terms ≡ terms_of index.lists → store ≡ stored_of index
    → IsAnswerTo terms store query ids → AreExactly (IsMeantInIndex index query) ids
stored_answer law index terms store query ids terms_are store_is found =
    let own : IsAnswerTo (terms_of index.lists) (stored_of index) query ids =
    subst (λ ts. IsAnswerTo ts (stored_of index) query ids) terms_are (subst (λ s. IsAnswerTo terms s query ids) store_is found) in
    record {
      rising = own.rising;
      each = λ doc.
          let same = law index query doc in
          ((λ c. same.0 ((own.each doc).0 c)), (λ m. (own.each doc).1 (same.1 m)));
    }

-- documents alone
pub answer_within : MeantIsBelow → (index : IndexParts) → IsIndex index → (query : Tree) (ids : List ℕ) → AreExactly (IsMeantInIndex index query) ids → All (λ doc. doc < length index.documents) ids
answer_within law index sound query ids are = λ k d lt. law index sound query (get_or ids k d) ((are.each (get_or ids k d)).0 (Contains-get_or ids k d lt))

-- one more query of a list
pub next_seen : (queries : List NumberedQuery) (k : ℕ) (query : NumberedQuery) → k < length queries → query ≡ get_or queries k query → all_seen (take (k + 1) queries) ≡ all_seen (take k queries) ++ seen query ∷ []
next_seen queries k query lt is =
    ap all_seen (take_more queries k query lt) ∙ map-append seen (take k queries) (get_or queries k query ∷ []) ∙ ap (λ q. all_seen (take k queries) ++ seen q ∷ []) (sym is)
