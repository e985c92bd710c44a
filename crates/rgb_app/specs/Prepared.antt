-- What is to be printed, as the work before its delivery leaves it.
use Rattle.std.specs.Prelude.{◌≡◌, ℕ, ◌<◌, List, ◌++◌, length, map, All, string_bytes}
use Rattle.std.specs.Borrow.{Bor}
use Rattle.rgb_base.specs.Parts.{IndexParts}
use Rattle.rgb_app.specs.Text.{round_lines}
use Rattle.rgb_app.specs.declared.reordering.Reordered.{Reordered}
use Rattle.rgb_app.specs.declared.live_answers.LiveAnswer.{LiveAnswer}

-- the kept rounds between the first and the last lines
abbrev pub text_of : Reordered → List ℕ
text_of work = string_bytes work.first ++ (round_lines work.rounds ++ string_bytes work.last)

-- beside each number of the answer stands the document that has it, which is one of the index
pub record HasOwners (index : IndexParts) (answer : LiveAnswer) : Type 0 where
  pub len : length answer.originals ≡ length answer.ids
  pub within : All (λ doc. doc < length index.documents) answer.originals

-- answers that are lent
abbrev pub all_lent : List (Bor LiveAnswer) → List LiveAnswer
all_lent answers = map (λ answer. answer.now) answers
