-- The answers to the queries of a file.
use Rattle.std.specs.Prelude.{◌≡◌, ◌<◌, List, [], ◌∷◌, length, All}
use Rattle.rgb_base.specs.Parts.{IndexParts}
use Rattle.bool_query.specs.Answers.{AreExactly, IsMeantInIndex}
use Rattle.query_file.specs.Queries.{Numbered}
use Rattle.rgb_app.specs.declared.answers.Answer.{Answer}

-- the answer has the number of the query's line, and exactly the documents that the query means over
-- the index, in rising order
pub record IsAnswer (index : IndexParts) (query : Numbered) (answer : Answer) : Type 0 where
  pub line : answer.line ≡ query.line
  pub documents : AreExactly (IsMeantInIndex index query.query) answer.ids

-- each query has its answer, in order
abbrev pub AreAnswers : IndexParts → List Numbered → List Answer → Type 0
AreAnswers index [] [] = Unit {0}
AreAnswers index (query ∷ queries) (answer ∷ answers) =
    IsAnswer index query answer × AreAnswers index queries answers
AreAnswers index [] (answer ∷ answers) = ⊥
AreAnswers index (query ∷ queries) [] = ⊥

-- the documents of each answer are documents of the index
abbrev pub AreWithin : IndexParts → List Answer → Type 0
AreWithin index answers =
    All (λ answer. All (λ doc. doc < length index.documents) answer.ids) answers
