-- The answers of readers in the order of the queries.
use Rattle.std.proofs.Common.{◌≡◌, ◌⊎◌, ℕ, ◌+◌, ◌*◌, ◌/◌, ◌%◌, ◌<◌, List, [], ◌∷◌, ◌++◌, length, map, get_or, slice_get, option_map, Some, refl, sym, ap, subst, ◌∙◌, inl, inr, arith}
use Rattle.std.specs.Global.{Vec}
use Rattle.std.specs.Borrow.{Bor}
use Rattle.std.proofs.Math.Nat.{lt_of_mul-lt-mul_right}
use Rattle.std.proofs.lemmas.List.{length-map, map-append}
use Rattle.std.proofs.lemmas.Option.{same_Some, none-some, slice_get_read, slice_get-map}
use Rattle.rgb_base.specs.Parts.{IndexParts}
use Rattle.query_file.specs.Queries.{Numbered}
use Rattle.command_words.specs.declared.reordering.Reordering.{Reordering}
use Rattle.rgb_app.specs.Live.{AreLiveAnswers, NoneFalls}
use Rattle.rgb_app.specs.Turns.{AreInTurn, AreByReader, HasTurns, StandsInTurn}
use Rattle.rgb_app.specs.Prepared.{all_lent}
use Rattle.rgb_app.specs.declared.live_answers.LiveAnswer.{LiveAnswer}
use Rattle.rgb_app.proofs.Turning.{pushed_at, one_longer}

-- ---- turns

-- a number is its rest and so many times the divisor
parts_of : (n d : ℕ) → 0 < d → n ≡ n % d + n / d * d
parts_of n d some = omega (arith, some)

-- each query has its turn
pub has_turns : (options : Reordering) (index : IndexParts) (queries : List Numbered) (readers count : ℕ) (by_reader : List (List LiveAnswer)) → 0 < readers → AreByReader options index queries readers readers by_reader
    → count ≡ length queries → HasTurns by_reader count
has_turns options index queries readers count by_reader some all is = record {
  some = omega (arith, some, all.len);
  each = λ place answers lt found.
      let same : length by_reader ≡ readers = all.len in
      let there : slice_get by_reader (place % readers) ≡ Some answers = subst (λ (n : ℕ). slice_get by_reader (place % n) ≡ Some answers) same found in
      let turn = all.each (place % readers) answers there in
      subst (λ (n : ℕ). place / n < length answers) (sym same) (turn.all (place / readers) (subst (λ (n : ℕ). n < length queries) (parts_of place readers some) (omega (arith, lt, is))));
}

-- the answer at a place is the reader's whose turn it was
record IsTurn (options : Reordering) (index : IndexParts) (queries : List Numbered) (readers place : ℕ) (answer : LiveAnswer) : Type 0 where
  pub answers : List LiveAnswer
  pub turns : AreInTurn options index queries readers (place % readers) answers
  pub at : slice_get answers (place / readers) ≡ Some answer

turn_at : (options : Reordering) (index : IndexParts) (queries : List Numbered) (readers : ℕ) (by_reader : List (List LiveAnswer)) → AreByReader options index queries readers readers by_reader
    → (place : ℕ) (answer : LiveAnswer) → StandsInTurn by_reader place answer → IsTurn options index queries readers place answer
turn_at options index queries readers by_reader all place answer stands = record {
  answers = stands.answers;
  turns = all.each (place % readers) stands.answers (subst (λ (n : ℕ). slice_get by_reader (place % n) ≡ Some stands.answers) all.len stands.reader);
  at = subst (λ (n : ℕ). slice_get stands.answers (place / n) ≡ Some answer) all.len stands.turn;
}

pub merged_answers : (options : Reordering) (index : IndexParts) (queries : List Numbered) (readers : ℕ) (by_reader : List (List LiveAnswer)) (merged : List LiveAnswer) → 0 < readers
    → AreByReader options index queries readers readers by_reader → length merged ≡ length queries
    → ((place : ℕ) (answer : LiveAnswer) → slice_get merged place ≡ Some answer → StandsInTurn by_reader place answer) → AreLiveAnswers options index queries merged
merged_answers options index queries readers by_reader merged some all len stands = record {
  len = len;
  each = λ place query answer asked is.
      let turn = turn_at options index queries readers by_reader all place answer (stands place answer is) in
      turn.turns.each (place / readers) query answer (ap (λ (n : ℕ). slice_get queries n) (sym (parts_of place readers some)) ∙ asked) turn.at;
}

-- of two places with one rest the later is more turns in
turns_rise : (readers place later : ℕ) → 0 < readers → place < later → place % readers ≡ later % readers → place / readers < later / readers
turns_rise readers place later some lt same = lt_of_mul-lt-mul_right readers (omega (arith, lt, same, parts_of place readers some, parts_of later readers some))

pub merged_in_turn : (options : Reordering) (index : IndexParts) (queries : List Numbered) (readers : ℕ) (by_reader : List (List LiveAnswer)) (merged : List LiveAnswer) → 0 < readers
    → AreByReader options index queries readers readers by_reader
    → ((place : ℕ) (answer : LiveAnswer) → slice_get merged place ≡ Some answer → StandsInTurn by_reader place answer) → NoneFalls readers merged
unfolding turn_at
merged_in_turn options index queries readers by_reader merged some all stands place later one other lt same is other_is =
    let a = turn_at options index queries readers by_reader all place one (stands place one is) in
    let b = turn_at options index queries readers by_reader all later other (stands later other other_is) in
    let found : slice_get by_reader (place % readers) ≡ Some a.answers = subst (λ (n : ℕ). slice_get by_reader (place % n) ≡ Some a.answers) all.len (stands place one is).reader in
    let found_later : slice_get by_reader (later % readers) ≡ Some b.answers = subst (λ (n : ℕ). slice_get by_reader (later % n) ≡ Some b.answers) all.len (stands later other other_is).reader in
    let answers : a.answers ≡ b.answers = same_Some a.answers b.answers (sym found ∙ ap (λ (n : ℕ). slice_get by_reader n) same ∙ found_later) in
    a.turns.risen (place / readers) (later / readers) one other (turns_rise readers place later some lt same) a.at (subst (λ (xs : List LiveAnswer). slice_get xs (later / readers) ≡ Some other) (sym answers) b.at)

-- ---- the loop over the queries

-- what each reader was answered
abbrev pub lists_of : List (Vec LiveAnswer) → List (List LiveAnswer)
lists_of by_reader = map (λ answers. answers.items) by_reader

-- the answers to the first queries
pub record AreMerged (by_reader : List (List LiveAnswer)) (count : ℕ) (merged : List LiveAnswer) : Type 0 where
  pub len : length merged ≡ count
  pub each : (place : ℕ) (answer : LiveAnswer) → slice_get merged place ≡ Some answer → StandsInTurn by_reader place answer

pub none_merged : (by_reader : List (List LiveAnswer)) → AreMerged by_reader 0 []
none_merged by_reader = record { len = refl; each = λ place answer is. absurd (none-some answer is) }

pub one_more_merged : (by_reader : List (List LiveAnswer)) (count : ℕ) (merged : List LiveAnswer) (answer : LiveAnswer) → AreMerged by_reader count merged → StandsInTurn by_reader count answer
    → AreMerged by_reader (count + 1) (merged ++ answer ∷ [])
one_more_merged by_reader count merged answer all now = record {
  len = omega (arith, all.len, one_longer merged answer);
  each = λ place a is. by place a (pushed_at merged answer a place is);
}
  where
    by : (place : ℕ) (a : LiveAnswer) → (slice_get merged place ≡ Some a) ⊎ ((place ≡ length merged) × (a ≡ answer)) → StandsInTurn by_reader place a
    by place a (inl is) = all.each place a is
    by place a (inr is) = subst (λ (x : LiveAnswer). StandsInTurn by_reader place x) (sym is.1) (subst (λ (n : ℕ). StandsInTurn by_reader n answer) (sym (is.0 ∙ all.len)) now)

pub one_more_lent : (answers : List (Bor LiveAnswer)) (answer : Bor LiveAnswer) → all_lent (answers ++ answer ∷ []) ≡ all_lent answers ++ answer.now ∷ []
one_more_lent answers answer = map-append (λ x. x.now) answers (answer ∷ [])

-- the list at the number of the reader
list_at : (by_reader : List (Vec LiveAnswer)) (reader : ℕ) (answers : Vec LiveAnswer) → reader < length by_reader → answers ≡ get_or by_reader reader answers → slice_get (lists_of by_reader) reader ≡ Some answers.items
list_at by_reader reader answers lt is =
    slice_get-map (λ answers. answers.items) by_reader reader ∙ ap (option_map (λ (x : Vec LiveAnswer). x.items)) (slice_get_read by_reader (length by_reader) reader answers refl lt is)

lists_count : (by_reader : List (Vec LiveAnswer)) (readers : ℕ) → readers ≡ length by_reader → length (lists_of by_reader) ≡ readers
lists_count by_reader readers is = length-map by_reader (λ answers. answers.items) ∙ sym is

pub some_readers : (by_reader : List (Vec LiveAnswer)) (readers count : ℕ) → readers ≡ length by_reader → HasTurns (lists_of by_reader) count → 0 < readers
some_readers by_reader readers count is turns = omega (arith, turns.some, lists_count by_reader readers is)

pub turn_within : (by_reader : List (Vec LiveAnswer)) (readers count place : ℕ) (answers : Vec LiveAnswer) → readers ≡ length by_reader → HasTurns (lists_of by_reader) count → place < count → answers ≡ get_or by_reader (place % readers) answers
    → place / readers < length answers.items
turn_within by_reader readers count place answers is turns lt at =
    let some = some_readers by_reader readers count is turns in
    let same = lists_count by_reader readers is in
    let found : slice_get (lists_of by_reader) (place % readers) ≡ Some answers.items = list_at by_reader (place % readers) answers (omega (arith, some, is)) at in
    subst (λ (n : ℕ). place / n < length answers.items) same (turns.each place answers.items lt (subst (λ (n : ℕ). slice_get (lists_of by_reader) (place % n) ≡ Some answers.items) (sym same) found))

pub stands_in_turn : (by_reader : List (Vec LiveAnswer)) (readers count place : ℕ) (answers : Vec LiveAnswer) (answer : LiveAnswer) → readers ≡ length by_reader → HasTurns (lists_of by_reader) count → place < count
    → answers ≡ get_or by_reader (place % readers) answers → answer ≡ get_or answers.items (place / readers) answer → StandsInTurn (lists_of by_reader) place answer
stands_in_turn by_reader readers count place answers answer is turns lt at own =
    let some = some_readers by_reader readers count is turns in
    let same = lists_count by_reader readers is in
    let found : slice_get (lists_of by_reader) (place % readers) ≡ Some answers.items = list_at by_reader (place % readers) answers (omega (arith, some, is)) at in
    let there : slice_get answers.items (place / readers) ≡ Some answer = slice_get_read answers.items (length answers.items) (place / readers) answer refl (turn_within by_reader readers count place answers is turns lt at) own in
    record {
      answers = answers.items;
      reader = subst (λ (n : ℕ). slice_get (lists_of by_reader) (place % n) ≡ Some answers.items) (sym same) found;
      turn = subst (λ (n : ℕ). slice_get answers.items (place / n) ≡ Some answer) (sym same) there;
    }
