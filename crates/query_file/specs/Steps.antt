-- How far the reading of a file, or of its lines, has come.
use Rattle.std.specs.Prelude.{◌≡◌, ℕ, List, [], ◌∷◌, ◌++◌, length, Option, Some, None}
use Rattle.std.specs.FinMap.{get}
use Rattle.rgb_host.specs.Files.{Files}
use Rattle.rgb_host.specs.Seen.{Seen}
use Rattle.bool_query.specs.Tree.{Tree}
use Rattle.query_file.specs.Lines.{HasNoFeed, without_return, AreLines}
use Rattle.query_file.specs.Queries.{Numbered, Asks, AskEach, numbered, IsLineFault}
use Rattle.query_file.specs.declared.error.QueriesError.{QueriesError}
use Rattle.query_file.specs.declared.error.QueriesError.TheVariants.{Fault, OutOfMemory, TooLong, BadLine}

-- the host tells its files, and the named one holds these bytes
pub record IsFile (host : Seen) (name file : List ℕ) : Type 0 where
  pub files : Files
  pub told : host.files ≡ Some files
  pub found : get files name ≡ Some file

-- the file begins with these bytes
abbrev pub IsFront : List ℕ → List ℕ → Type 0
IsFront bytes file = (rest : List ℕ) × (file ≡ bytes ++ rest)

-- the first line of the bytes, which a line feed ends, and what stands behind that
pub record IsEnded (bytes line rest : List ℕ) : Type 0 where
  pub front : List ℕ
  pub no_feed : HasNoFeed front
  pub spelt : bytes ≡ front ++ 10 ∷ rest
  pub is : line ≡ without_return front

-- the first line of the bytes, and what stands behind its line feed, if it has one
abbrev pub IsFirstLine : List ℕ → List ℕ → Option (List ℕ) → Type 0
IsFirstLine bytes line None = HasNoFeed bytes × (line ≡ bytes)
IsFirstLine bytes line (Some rest) = IsEnded bytes line rest

-- why the line of this number isn't taken
abbrev pub IsLineRefusal : List ℕ → ℕ → QueriesError → Type 0
IsLineRefusal line number (BadLine fault) =
    (fault.line ≡ number) × IsLineFault line fault.at fault.cause
IsLineRefusal line number OutOfMemory = Unit {0}
IsLineRefusal line number Fault = ⊥
IsLineRefusal line number TooLong = ⊥

-- the line asks this, and it was put behind the queries
pub record IsTaken (line : List ℕ) (number : ℕ) (before after : List Numbered) : Type 0 where
  pub found : Option Tree
  pub asks : Asks line found
  pub added : after ≡ before ++ numbered number (found ∷ [])

-- so many lines of the file were taken, which ask these queries; these bytes are left
pub record Taken (file : List ℕ) (number : ℕ) (queries : List Numbered) (left : List ℕ) : Type 0 where
  pub lines : List (List ℕ)
  pub are_lines : (others : List (List ℕ)) → AreLines left others → AreLines file (lines ++ others)
  pub count : number ≡ length lines
  pub asked : List (Option Tree)
  pub ask : AskEach lines asked
  pub are : queries ≡ numbered 1 asked
