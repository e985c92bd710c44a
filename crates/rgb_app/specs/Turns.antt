-- What the readers were answered beside a reordering, and what the publisher leaves.
use Rattle.std.specs.Prelude.{◌≡◌, ℕ, ◌+◌, ◌*◌, ◌/◌, ◌%◌, ◌<◌, ◌≤◌, List, length, map, slice_get, slice_index_or, Some, Ok, IfOk}
use Rattle.std.specs.Global.{Vec}
use Rattle.rgb_base.specs.Parts.{IndexParts}
use Rattle.query_file.specs.Queries.{Numbered}
use Rattle.command_words.specs.declared.reordering.Reordering.{Reordering}
use Rattle.live_index.specs.History.{IsOfSame}
use Rattle.rgb_app.specs.Live.{IsLiveAnswer, AreLiveAnswers, AreAt, last_of}
use Rattle.rgb_app.specs.Reordering.{IsNumberingBy, IsReordered}
use Rattle.rgb_app.specs.Prepared.{text_of}
use Rattle.rgb_app.specs.Text.{reorder_text}
use Rattle.rgb_app.specs.declared.live_answers.LiveAnswer.{LiveAnswer}
use Rattle.rgb_app.specs.declared.plan.SlabPlan.{SlabPlan}
use Rattle.rgb_app.specs.declared.beside.Seat.{Seat}
use Rattle.rgb_app.specs.declared.beside.Beside.{Beside}
use Rattle.rgb_app.specs.declared.beside.Published.{Published}
use Rattle.rgb_app.specs.declared.living.Lived.{Lived}

-- ---- one reader

-- the reader of this number, of so many, answered the query at its number and each that comes so many
-- behind, and its versions don't fall
pub record AreInTurn (options : Reordering) (index : IndexParts) (queries : List Numbered)
    (readers reader : ℕ) (answers : List LiveAnswer) : Type 0 where
  pub each : (turn : ℕ) (query : Numbered) (answer : LiveAnswer)
      → slice_get queries (reader + turn * readers) ≡ Some query
      → slice_get answers turn ≡ Some answer → IsLiveAnswer options index query answer
  pub all : (turn : ℕ) → reader + turn * readers < length queries → turn < length answers
  pub risen : (turn later : ℕ) (one other : LiveAnswer) → turn < later
      → slice_get answers turn ≡ Some one → slice_get answers later ≡ Some other
      → one.version ≤ other.version

-- the reader at the seat, of this number and of so many, took its turns
pub record IsTurn (queries : List Numbered) (readers reader : ℕ) (before after : Seat)
    : Type 0 where
  pub same : IsOfSame before.reader after.reader
  pub answered : IfOk after.answers (λ answers. AreInTurn before.reader.plan.options
      before.reader.base queries readers reader answers.items)

-- ---- all readers

-- each reader took its turns; its number is the place of its seat
pub record AreTurns (queries : List Numbered) (before after : List Seat) : Type 0 where
  pub len : length after ≡ length before
  pub each : (reader : ℕ) (seat : Seat) → reader < length before
      → IsTurn queries (length before) reader (slice_index_or before reader seat)
      (slice_index_or after reader seat)

-- the first of so many readers, by their numbers
pub record AreByReader (options : Reordering) (index : IndexParts) (queries : List Numbered)
    (readers first : ℕ) (by_reader : List (List LiveAnswer)) : Type 0 where
  pub len : length by_reader ≡ first
  pub each : (reader : ℕ) (answers : List LiveAnswer) → slice_get by_reader reader ≡ Some answers
      → AreInTurn options index queries readers reader answers

-- ---- readers beside the publisher

-- what the publisher leaves: all versions are published
pub record IsPublished (index : IndexParts) (plan : SlabPlan) (published : Published) : Type 0 where
  pub base : published.note.base ≡ index
  pub plan_is : published.note.plan ≡ plan
  pub all : published.note.length ≡ last_of plan.options + 1
  pub numbering : IsNumberingBy plan.options index published.numbering published.rounds
  pub len : length published.numbering ≡ length index.documents

-- the reader of this number, of so many, after its turns
pub record IsSeat (index : IndexParts) (plan : SlabPlan) (queries : List Numbered)
    (readers reader : ℕ) (seat : Seat) : Type 0 where
  pub base : seat.reader.base ≡ index
  pub plan_is : seat.reader.plan ≡ plan
  pub answered : IfOk seat.answers (λ answers.
      AreInTurn plan.options index queries readers reader answers.items)

-- what came of the publisher, and of so many readers beside it
pub record IsBeside (index : IndexParts) (plan : SlabPlan) (queries : List Numbered)
    (readers : ℕ) (beside : Beside) : Type 0 where
  pub published : IsPublished index plan beside.published
  pub len : length beside.seats.items ≡ readers
  pub each : (reader : ℕ) (seat : Seat) → slice_get beside.seats.items reader ≡ Some seat
      → IsSeat index plan queries readers reader seat

-- ---- afterwards

-- what the readers at these seats were answered
pub record AreOfSeats (seats : List Seat) (by_reader : List (Vec LiveAnswer)) : Type 0 where
  pub len : length by_reader ≡ length seats
  pub each : (reader : ℕ) (seat : Seat) (answers : Vec LiveAnswer)
      → slice_get seats reader ≡ Some seat → slice_get by_reader reader ≡ Some answers
      → seat.answers ≡ Ok answers

-- the reordering of the index, what so many readers were answered beside it, and the answers at the
-- last version
pub record IsLived (options : Reordering) (readers : ℕ) (index : IndexParts)
    (queries : List Numbered) (lived : Lived) : Type 0 where
  pub reordered : IsReordered options index lived.work.new lived.work.rounds
  pub text : text_of lived.work ≡ reorder_text index lived.work.new lived.work.rounds
  pub by_reader : AreByReader options index queries readers readers
      (map (λ answers. answers.items) lived.by_reader.items)
  pub finals : AreLiveAnswers options index queries lived.finals.items
  pub last : AreAt (last_of options) lived.finals.items

-- ---- the answers in the order of the queries

-- each of so many queries was answered by the reader whose turn it was
pub record HasTurns (by_reader : List (List LiveAnswer)) (count : ℕ) : Type 0 where
  pub some : 0 < length by_reader
  pub each : (place : ℕ) (answers : List LiveAnswer) → place < count
      → slice_get by_reader (place % length by_reader) ≡ Some answers
      → place / length by_reader < length answers

-- the answer stands at the place of the query: it is that of the reader whose turn it was
pub record StandsInTurn (by_reader : List (List LiveAnswer)) (place : ℕ) (answer : LiveAnswer)
    : Type 0 where
  pub answers : List LiveAnswer
  pub reader : slice_get by_reader (place % length by_reader) ≡ Some answers
  pub turn : slice_get answers (place / length by_reader) ≡ Some answer
