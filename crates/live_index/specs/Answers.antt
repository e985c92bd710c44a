-- What an answer at a version of a live index is.
use Rattle.std.specs.Prelude.{◌≡◌, ◌≢◌, ◌↔◌, ℕ, ◌<◌, List, length, slice_index, AllPairs, Contains}
use Rattle.std.specs.List.Sorted.{IsStrictlyIncreasing}
use Rattle.rgb_base.specs.Parts.{IndexParts}
use Rattle.rgb_base.specs.Order.{new_of}
use Rattle.postings_rewrite.specs.Laws.{IsOrderOf}
use Rattle.bool_query.specs.Tree.{Tree}
use Rattle.bool_query.specs.Answers.{IsMeantInIndex}
use Rattle.live_index.specs.declared.history.History.{History}
use Rattle.live_index.specs.declared.answer.Answer.{Answer}
use Rattle.live_index.specs.History.{IsPlanned, IsLast}

-- the numbers rise, and are the images under the numbering of these documents of the base, place by
-- place, which are those that the query means over the base's own postings, each once
pub record IsAnswerUnder (base : IndexParts) (order : List ℕ) (tree : Tree) (ids originals : List ℕ)
    : Type 0 where
  pub rising : IsStrictlyIncreasing ids
  pub len : length originals ≡ length ids
  pub images : (place : ℕ) → place < length ids
      → slice_index ids place ≡ new_of order (slice_index originals place)
  pub once : AllPairs (λ a b. a ≢ b) originals
  pub each : (doc : ℕ) → Contains originals doc ↔ IsMeantInIndex base tree doc

module _ {K : Type 0} (versions : K → IndexParts → ℕ) (planned : K → IndexParts → ℕ → List ℕ → Type 0)
  where
    -- the answer is that of the last version of the history, under the numbering planned there
    pub record IsAnswerAt (history : History K) (tree : Tree) (answer : Answer) : Type 0 where
      pub last : IsLast history answer.version
      pub order : List ℕ
      pub is_order : IsOrderOf history.base order
      pub is_planned : IsPlanned versions planned history.base history.plan answer.version order
      pub is_answer : IsAnswerUnder history.base order tree answer.ids answer.originals
