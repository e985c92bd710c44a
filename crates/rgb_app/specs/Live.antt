-- A reordering beside which readers ask: which numbering is published as which version, and what the
-- answers are. A numbering is the list of the old number at each new one.
use Rattle.std.specs.Prelude.{◌≡◌, ℕ, zero, suc, ◌+◌, ◌%◌, ◌<◌, ◌≤◌, Bool, true, false, List, length, slice_get, Some, if◌then◌else◌}
use Rattle.std.specs.List.{range_with_len}
use Rattle.rgb_base.specs.Parts.{IndexParts}
use Rattle.live_index.specs.Answers.{IsAnswerUnder}
use Rattle.query_file.specs.Queries.{Numbered}
use Rattle.cell_claims.specs.declared.trace.KeptRound.{KeptRound}
use Rattle.bisection.specs.Progress.{depth_after, slabs_of}
use Rattle.command_words.specs.declared.reordering.Reordering.{Reordering}
use Rattle.rgb_app.specs.Reordering.{IsNumberingBy, options_of}
use Rattle.rgb_app.specs.declared.live_answers.LiveAnswer.{LiveAnswer}

-- ---- versions

-- the options with another depth
abbrev pub down_to : Reordering → ℕ → Reordering
down_to options depth = record options { depth = depth }

-- the numbering of the levels that so many slabs have
pub record IsNumberingAfter (options : Reordering) (index : IndexParts) (slabs : ℕ)
    (numbering : List ℕ) : Type 0 where
  pub trace : List KeptRound
  pub is_numbering : IsNumberingBy (down_to options (depth_after (options_of options) slabs)) index
      numbering trace

-- how many slabs are done at the version that comes after version 0 and so many others: one for each
-- version, but where the documents start in the order of their names that order comes first
abbrev pub slabs_at : Bool → ℕ → ℕ
slabs_at false others = others + 1
slabs_at true others = others

-- version 0 leaves each document where it is, and the later ones are the numberings after slabs
abbrev pub IsVersion : Reordering → IndexParts → ℕ → List ℕ → Type 0
IsVersion options index zero numbering = numbering ≡ range_with_len 0 (length index.documents)
IsVersion options index (suc others) numbering =
    IsNumberingAfter options index (slabs_at options.by_name others) numbering

-- the last version, at which all slabs are done
abbrev pub last_of : Reordering → ℕ
last_of options = slabs_of (options_of options) + (if options.by_name then 1 else 0)

-- ---- answers

-- the answer has the number of the query's line, and is that of one of the versions
pub record IsLiveAnswer (options : Reordering) (index : IndexParts) (query : Numbered)
    (answer : LiveAnswer) : Type 0 where
  pub line : answer.line ≡ query.line
  pub most : answer.version ≤ last_of options
  pub numbering : List ℕ
  pub is_version : IsVersion options index answer.version numbering
  pub is_answer : IsAnswerUnder index numbering query.query answer.ids answer.originals

-- each query has its answer, in order
pub record AreLiveAnswers (options : Reordering) (index : IndexParts) (queries : List Numbered)
    (answers : List LiveAnswer) : Type 0 where
  pub len : length answers ≡ length queries
  pub each : (place : ℕ) (query : Numbered) (answer : LiveAnswer)
      → slice_get queries place ≡ Some query → slice_get answers place ≡ Some answer
      → IsLiveAnswer options index query answer

-- the readers take the queries in turn, and the versions of none of them fall
abbrev pub NoneFalls : ℕ → List LiveAnswer → Type 0
NoneFalls readers answers =
    (place later : ℕ) (one other : LiveAnswer) → place < later
    → place % readers ≡ later % readers → slice_get answers place ≡ Some one
    → slice_get answers later ≡ Some other → one.version ≤ other.version

-- each answer is of this version
abbrev pub AreAt : ℕ → List LiveAnswer → Type 0
AreAt version answers =
    (place : ℕ) (answer : LiveAnswer) → slice_get answers place ≡ Some answer
    → answer.version ≡ version

-- what so many readers were answered, and the answers at the last version
pub record AreLive (options : Reordering) (readers : ℕ) (index : IndexParts)
    (queries : List Numbered) (answers finals : List LiveAnswer) : Type 0 where
  pub answered : AreLiveAnswers options index queries answers
  pub in_turn : NoneFalls readers answers
  pub again : AreLiveAnswers options index queries finals
  pub last : AreAt (last_of options) finals
