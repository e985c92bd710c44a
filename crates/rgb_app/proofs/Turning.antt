-- The answers of one reader, one after another.
use Rattle.std.proofs.Common.{◌≡◌, ◌⊎◌, ℕ, zero, suc, ◌+◌, ◌*◌, ◌<◌, ◌≤◌, List, [], ◌∷◌, ◌++◌, length, get_or, slice_get, Some, refl, sym, ap, subst, ◌∙◌, inl, inr, arith}
use Rattle.std.proofs.Math.Nat.{lt_of_mul-lt-mul_right, suc-mul}
use Rattle.std.proofs.lemmas.Option.{same_Some, none-some, slice_get_within}
use Rattle.rgb_base.specs.Parts.{IndexParts}
use Rattle.query_file.specs.declared.queries.NumberedQuery.{NumberedQuery}
use Rattle.query_file.specs.Queries.{Numbered}
use Rattle.query_file.specs.View.{seen, all_seen}
use Rattle.live_index.specs.declared.history.History.{History}
use Rattle.live_index.specs.History.{IsOfSame}
use Rattle.command_words.specs.declared.reordering.Reordering.{Reordering}
use Rattle.rgb_app.specs.Live.{IsLiveAnswer, AreLiveAnswers, AreAt}
use Rattle.rgb_app.specs.Turns.{AreInTurn}
use Rattle.rgb_app.specs.declared.live_answers.LiveAnswer.{LiveAnswer}
use Rattle.rgb_app.specs.declared.plan.SlabPlan.{SlabPlan}

-- ---- lists that grow

pub pushed_at : {A : Type 0} (xs : List A) (x a : A) (k : ℕ) → slice_get (xs ++ x ∷ []) k ≡ Some a → (slice_get xs k ≡ Some a) ⊎ ((k ≡ length xs) × (a ≡ x))
pushed_at [] x a zero is = inr (refl, sym (same_Some x a is))
pushed_at [] x a (suc k) is = absurd (none-some a is)
pushed_at (y ∷ xs) x a zero is = inl is
pushed_at (y ∷ xs) x a (suc k) is = by (pushed_at xs x a k is)
  where
    by : (slice_get xs k ≡ Some a) ⊎ ((k ≡ length xs) × (a ≡ x)) → (slice_get xs k ≡ Some a) ⊎ ((suc k ≡ suc (length xs)) × (a ≡ x))
    by (inl p) = inl p
    by (inr p) = inr (ap suc p.0, p.1)

pub one_longer : (answers : List LiveAnswer) (answer : LiveAnswer) → length (answers ++ answer ∷ []) ≡ suc (length answers)
one_longer [] answer = refl
one_longer (a ∷ answers) answer = ap suc (one_longer answers answer)

-- the query at a place
pub seen_at : (queries : List NumberedQuery) (k : ℕ) (query : NumberedQuery) (asked : Numbered) → k < length queries → query ≡ get_or queries k query → slice_get (all_seen queries) k ≡ Some asked → asked ≡ seen query
seen_at [] k query asked lt is got = absurd (omega (arith, lt))
seen_at (q ∷ queries) zero query asked lt is got = sym (same_Some (seen q) asked got) ∙ ap seen (sym is)
seen_at (q ∷ queries) (suc k) query asked lt is got = seen_at queries k query asked (omega (arith, lt)) is got

pub seen_count : (queries : List NumberedQuery) → length (all_seen queries) ≡ length queries
seen_count [] = refl
seen_count (q ∷ queries) = ap suc (seen_count queries)

-- an answer to the query at a place
pub answered_at : (options : Reordering) (index : IndexParts) (queries : List NumberedQuery) (query : NumberedQuery) (answer : LiveAnswer) (place k : ℕ) → place ≡ k → place < length queries → query ≡ get_or queries place query
    → IsLiveAnswer options index (seen query) answer → (asked : Numbered) → slice_get (all_seen queries) k ≡ Some asked → IsLiveAnswer options index asked answer
answered_at options index queries query answer place k same lt is own asked got =
    subst (λ (q : Numbered). IsLiveAnswer options index q answer) (sym (seen_at queries place query asked lt is (ap (λ (n : ℕ). slice_get (all_seen queries) n) same ∙ got))) own

-- the place of the next turn
pub next_place : (answers grown : List LiveAnswer) (answer : LiveAnswer) (place number readers : ℕ) → grown ≡ answers ++ answer ∷ [] → place ≡ number + length answers * readers
    → place + readers ≡ number + length grown * readers
next_place answers grown answer place number readers pushed is =
    let len : length grown ≡ suc (length answers) = ap length pushed ∙ one_longer answers answer in
    let more : suc (length answers) * readers ≡ length answers * readers + readers = suc-mul (length answers) readers in
    ap (λ (n : ℕ). n + readers) is ∙ omega (arith, more) ∙ ap (λ (n : ℕ). number + n * readers) (sym len)

-- ---- histories of one reader

pub still_same : (a b c : History SlabPlan) → IsOfSame a b → IsOfSame b c → IsOfSame a c
still_same a b c p q = record { base = q.base ∙ p.base; plan = q.plan ∙ p.plan }

pub same_at_first : (a : History SlabPlan) → IsOfSame a a
same_at_first a = record { base = refl; plan = refl }

-- the answer of a reader that is of the index and the plan that it began with
pub answer_moved : (a b : History SlabPlan) (query : Numbered) (answer : LiveAnswer) → IsOfSame a b → IsLiveAnswer b.plan.options b.base query answer → IsLiveAnswer a.plan.options a.base query answer
answer_moved a b query answer same is =
    subst (λ (plan : SlabPlan). IsLiveAnswer plan.options a.base query answer) same.plan (subst (λ (base : IndexParts). IsLiveAnswer b.plan.options base query answer) same.base is)

-- ---- in turn

pub record AreSoFar (options : Reordering) (index : IndexParts) (queries : List Numbered) (readers reader seen : ℕ) (answers : List LiveAnswer) : Type 0 where
  pub each : (turn : ℕ) (query : Numbered) (answer : LiveAnswer) → slice_get queries (reader + turn * readers) ≡ Some query → slice_get answers turn ≡ Some answer → IsLiveAnswer options index query answer
  pub risen : (turn later : ℕ) (one other : LiveAnswer) → turn < later → slice_get answers turn ≡ Some one → slice_get answers later ≡ Some other → one.version ≤ other.version
  pub below : (turn : ℕ) (answer : LiveAnswer) → slice_get answers turn ≡ Some answer → answer.version < seen

pub none_so_far : (options : Reordering) (index : IndexParts) (queries : List Numbered) (readers reader seen : ℕ) → AreSoFar options index queries readers reader seen []
none_so_far options index queries readers reader seen = record {
  each = λ turn query answer asked is. absurd (none-some answer is);
  risen = λ turn later one other lt is other_is. absurd (none-some one is);
  below = λ turn answer is. absurd (none-some answer is);
}

pub one_more_turn : (options : Reordering) (index : IndexParts) (queries : List Numbered) (readers reader before after : ℕ) (answers grown : List LiveAnswer) (answer : LiveAnswer) → grown ≡ answers ++ answer ∷ []
    → AreSoFar options index queries readers reader before answers → ((query : Numbered) → slice_get queries (reader + length answers * readers) ≡ Some query → IsLiveAnswer options index query answer)
    → before ≤ after → after ≡ answer.version + 1 → AreSoFar options index queries readers reader after grown
one_more_turn options index queries readers reader before after answers grown answer pushed all now more last =
    subst (AreSoFar options index queries readers reader after) (sym pushed) (record {
      each = λ turn query a asked is. by_turn turn query a asked (pushed_at answers answer a turn is);
      risen = λ turn later one other lt is other_is. by_risen turn later one other lt (pushed_at answers answer one turn is) (pushed_at answers answer other later other_is);
      below = λ turn a is. by_below turn a (pushed_at answers answer a turn is);
    })
  where
    by_turn : (turn : ℕ) (query : Numbered) (a : LiveAnswer) → slice_get queries (reader + turn * readers) ≡ Some query → (slice_get answers turn ≡ Some a) ⊎ ((turn ≡ length answers) × (a ≡ answer)) → IsLiveAnswer options index query a
    by_turn turn query a asked (inl is) = all.each turn query a asked is
    by_turn turn query a asked (inr is) = subst (λ (x : LiveAnswer). IsLiveAnswer options index query x) (sym is.1) (now query (ap (λ (n : ℕ). slice_get queries (reader + n * readers)) (sym is.0) ∙ asked))

    by_risen : (turn later : ℕ) (one other : LiveAnswer) → turn < later → (slice_get answers turn ≡ Some one) ⊎ ((turn ≡ length answers) × (one ≡ answer))
        → (slice_get answers later ≡ Some other) ⊎ ((later ≡ length answers) × (other ≡ answer)) → one.version ≤ other.version
    by_risen turn later one other lt (inl is) (inl other_is) = all.risen turn later one other lt is other_is
    by_risen turn later one other lt (inl is) (inr last_is) =
        let same : other.version ≡ answer.version = ap (λ (x : LiveAnswer). x.version) last_is.1 in
        omega (arith, all.below turn one is, more, last, same)
    by_risen turn later one other lt (inr last_is) (inl other_is) = absurd (omega (arith, lt, last_is.0, slice_get_within answers later other other_is))
    by_risen turn later one other lt (inr last_is) (inr other_is) = absurd (omega (arith, lt, last_is.0, other_is.0))

    by_below : (turn : ℕ) (a : LiveAnswer) → (slice_get answers turn ≡ Some a) ⊎ ((turn ≡ length answers) × (a ≡ answer)) → a.version < after
    by_below turn a (inl is) = omega (arith, all.below turn a is, more)
    by_below turn a (inr is) =
        let same : a.version ≡ answer.version = ap (λ (x : LiveAnswer). x.version) is.1 in
        omega (arith, last, same)

pub turns_done : (options : Reordering) (index : IndexParts) (queries : List Numbered) (readers reader seen place : ℕ) (answers : List LiveAnswer) → AreSoFar options index queries readers reader seen answers
    → place ≡ reader + length answers * readers → length queries ≤ place → AreInTurn options index queries readers reader answers
turns_done options index queries readers reader seen place answers all is past = record {
  each = all.each;
  all = λ turn lt. lt_of_mul-lt-mul_right readers (omega (arith, lt, is, past));
  risen = all.risen;
}

-- ---- one after another

pub record AreFirst (options : Reordering) (index : IndexParts) (queries : List Numbered) (version : ℕ) (answers : List LiveAnswer) : Type 0 where
  pub each : (place : ℕ) (query : Numbered) (answer : LiveAnswer) → slice_get queries place ≡ Some query → slice_get answers place ≡ Some answer → IsLiveAnswer options index query answer
  pub at : AreAt version answers

pub none_first : (options : Reordering) (index : IndexParts) (queries : List Numbered) (version : ℕ) → AreFirst options index queries version []
none_first options index queries version = record {
  each = λ place query answer asked is. absurd (none-some answer is);
  at = λ place answer is. absurd (none-some answer is);
}

pub one_more_first : (options : Reordering) (index : IndexParts) (queries : List Numbered) (version : ℕ) (answers grown : List LiveAnswer) (answer : LiveAnswer) → grown ≡ answers ++ answer ∷ []
    → AreFirst options index queries version answers → ((query : Numbered) → slice_get queries (length answers) ≡ Some query → IsLiveAnswer options index query answer) → answer.version ≡ version
    → AreFirst options index queries version grown
one_more_first options index queries version answers grown answer pushed all now is_version =
    subst (AreFirst options index queries version) (sym pushed) (record {
      each = λ place query a asked is. by_each place query a asked (pushed_at answers answer a place is);
      at = λ place a is. by_at place a (pushed_at answers answer a place is);
    })
  where
    by_each : (place : ℕ) (query : Numbered) (a : LiveAnswer) → slice_get queries place ≡ Some query → (slice_get answers place ≡ Some a) ⊎ ((place ≡ length answers) × (a ≡ answer)) → IsLiveAnswer options index query a
    by_each place query a asked (inl is) = all.each place query a asked is
    by_each place query a asked (inr is) = subst (λ (x : LiveAnswer). IsLiveAnswer options index query x) (sym is.1) (now query (ap (λ (n : ℕ). slice_get queries n) (sym is.0) ∙ asked))

    by_at : (place : ℕ) (a : LiveAnswer) → (slice_get answers place ≡ Some a) ⊎ ((place ≡ length answers) × (a ≡ answer)) → a.version ≡ version
    by_at place a (inl is) = all.at place a is
    by_at place a (inr is) = ap (λ (x : LiveAnswer). x.version) is.1 ∙ is_version

pub all_first : (options : Reordering) (index : IndexParts) (queries : List NumberedQuery) (version : ℕ) (answers : List LiveAnswer) → AreFirst options index (all_seen queries) version answers → length answers ≡ length queries
    → AreLiveAnswers options index (all_seen queries) answers
all_first options index queries version answers all len = record { len = len ∙ sym (seen_count queries); each = all.each }
