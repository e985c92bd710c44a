-- Which files are files of queries, and how the others are refused.
use Rattle.std.specs.Prelude.{◌≡◌, ℕ, ◌+◌, ◌^◌, ◌<◌, ◌≤◌, List, [], ◌∷◌, ◌++◌, length, Option, Some, None, IsUtf8}
use Rattle.bool_query.specs.Token.{AreBlank}
use Rattle.bool_query.specs.Tree.{Tree}
use Rattle.bool_query.specs.Fault.{IsQueryOf, IsFault}
use Rattle.query_file.specs.Lines.{AreLines}
use Rattle.query_file.specs.declared.error.LineCause.{LineCause}
use Rattle.query_file.specs.declared.error.LineCause.TheVariants.{NotText, NoQuery}

-- ---- accepted files

-- what a line asks: nothing where it has spaces and tabs alone, and else the query that its text is
abbrev pub Asks : List ℕ → Option Tree → Type 0
Asks line None = AreBlank line
Asks line (Some query) = (¬ AreBlank line) × IsUtf8 line × IsQueryOf line query

-- each line asks what stands at its place
abbrev pub AskEach : List (List ℕ) → List (Option Tree) → Type 0
AskEach [] [] = Unit {0}
AskEach (line ∷ lines) (one ∷ all) = Asks line one × AskEach lines all
AskEach [] (one ∷ all) = ⊥
AskEach (line ∷ lines) [] = ⊥

-- a query with the number of its line
pub record Numbered : Type 0 where
  pub line : ℕ
  pub query : Tree

-- the queries of lines, which are numbered from this number on
abbrev pub numbered : ℕ → List (Option Tree) → List Numbered
numbered line [] = []
numbered line (None ∷ all) = numbered (line + 1) all
numbered line (Some query ∷ all) = record { line = line; query = query } ∷ numbered (line + 1) all

-- the most bytes that a file of queries has
abbrev pub most_bytes : ℕ
most_bytes = 2 ^ 24

-- the file isn't too long, and these are the queries of its lines, which are numbered from 1 on
pub record AreQueries (file : List ℕ) (queries : List Numbered) : Type 0 where
  pub few : length file ≤ most_bytes
  pub lines : List (List ℕ)
  pub are_lines : AreLines file lines
  pub asked : List (Option Tree)
  pub ask : AskEach lines asked
  pub are : queries ≡ numbered 1 asked

-- ---- refused files

-- the file is too long
abbrev pub IsTooLong : List ℕ → Type 0
IsTooLong file = most_bytes < length file

-- the line is at fault at this byte for this cause: it isn't UTF-8, or its text is no query
abbrev pub IsLineFault : List ℕ → ℕ → LineCause → Type 0
IsLineFault line at NotText = (¬ AreBlank line) × (¬ IsUtf8 line) × (at ≡ 0)
IsLineFault line at (NoQuery cause) = (¬ AreBlank line) × IsUtf8 line × IsFault line at cause

-- the file isn't too long, and its line of this number is the first at fault, at this byte of the line
-- for this cause
pub record IsFirstFault (file : List ℕ) (number at : ℕ) (cause : LineCause) : Type 0 where
  pub few : length file ≤ most_bytes
  pub before : List (List ℕ)
  pub line : List ℕ
  pub behind : List (List ℕ)
  pub are_lines : AreLines file (before ++ line ∷ behind)
  pub asked : List (Option Tree)
  pub sound : AskEach before asked
  pub numbered : number ≡ length before + 1
  pub fault : IsLineFault line at cause
