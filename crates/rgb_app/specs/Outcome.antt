-- What a command comes to, as a relation to the files that are there.
use Rattle.std.specs.Prelude.{◌≡◌, ◌⊎◌, ℕ, min, List, [], ◌∷◌, map, Option, Some, None, IsSomeAnd}
use Rattle.std.specs.FinMap.{get}
use Rattle.rgb_base.specs.Parts.{IndexParts}
use Rattle.rgb_host.specs.Files.{Files}
use Rattle.ciff_format.specs.Canonical.{bytes_of}
use Rattle.ciff_format.specs.Accepted.{Accepted}
use Rattle.ciff_format.specs.Refused.{Refused}
use Rattle.ciff_format.specs.declared.cause.Cause.{Cause}
use Rattle.command_words.specs.Line.{Word}
use Rattle.command_words.specs.declared.reordering.Reordering.{Reordering}
use Rattle.command_words.specs.Command.{Command, copy, report, reorder, query, make, live}
use Rattle.query_file.specs.Queries.{Numbered, AreQueries, IsTooLong, IsFirstFault}
use Rattle.query_file.specs.declared.error.LineCause.{LineCause}
use Rattle.cell_claims.specs.declared.trace.KeptRound.{KeptRound}
use Rattle.rgb_app.specs.Text.{index_line, report_text, reorder_text, query_text, live_text}
use Rattle.generated_index.specs.Generated.{generated}
use Rattle.rgb_app.specs.Reordering.{IsReordered}
use Rattle.rgb_app.specs.Live.{AreLive}
use Rattle.rgb_app.specs.Summary.{IsSummary}
use Rattle.rgb_app.specs.Answering.{AreAnswers}
use Rattle.rgb_app.specs.declared.answers.Answer.{Answer}
use Rattle.rgb_app.specs.declared.live_answers.LiveAnswer.{LiveAnswer}

-- ---- which commands a call does

-- the commands that wait for nobody: all but `live`
abbrev pub IsPlain : Command → Type 0
IsPlain (copy input output) = Unit {0}
IsPlain (report input workers) = Unit {0}
IsPlain (reorder input output options) = Unit {0}
IsPlain (query input queries) = Unit {0}
IsPlain (make documents output number options) = Unit {0}
IsPlain (live input output queries options readers) = ⊥

abbrev pub IsAny : Command → Type 0
IsAny command = Unit {0}

-- ---- what a command reads

-- a file by its name, and what it is read as
pub data Input : Type 0 where
  index_file : Word → Input
  query_file : Word → Input

-- the files that a command reads, in the order in which it reads them
abbrev pub inputs_of : Command → List Input
inputs_of (copy input output) = index_file input ∷ []
inputs_of (report input workers) = index_file input ∷ []
inputs_of (reorder input output options) = index_file input ∷ []
inputs_of (query input queries) = index_file input ∷ query_file queries ∷ []
inputs_of (make documents output number options) = []
inputs_of (live input output queries options readers) =
    index_file input ∷ query_file queries ∷ []

-- the named file is there, and is accepted as this index
abbrev pub Holds : Files → Word → IndexParts → Type 0
Holds files name index = IsSomeAnd (get files name) (λ file. Accepted file index)

-- the named file is there, and is accepted as these queries
abbrev pub HoldsQueries : Files → Word → List Numbered → Type 0
HoldsQueries files name queries = IsSomeAnd (get files name) (λ file. AreQueries file queries)

-- ---- what a command comes to

-- a file that is written
pub record Written : Type 0 where
  pub name : Word
  pub bytes : List ℕ

-- the work of a command: the file that it writes, if it writes one, and the text that it prints
pub record Work : Type 0 where
  pub file : Option Written
  pub text : List ℕ

pub data Outcome : Type 0 where
  -- this work is done
  done : Work → Outcome
  -- an index that is there is refused at this place for this cause
  malformed : ℕ → Cause → Outcome
  -- a file isn't there
  missing : Outcome
  -- queries that are there are refused: in this line, at this byte of it, for this cause
  bad_query : ℕ → ℕ → LineCause → Outcome
  -- queries that are there are too many bytes
  too_long : Outcome

-- the input is there and accepted
abbrev pub IsGood : Files → Input → Type 0
IsGood files (index_file name) = (index : IndexParts) × Holds files name index
IsGood files (query_file name) = (queries : List Numbered) × HoldsQueries files name queries

-- the input isn't good, and this is the outcome of it
abbrev pub Stops : Files → Input → Outcome → Type 0
Stops files (index_file name) (done work) = ⊥
Stops files (index_file name) (malformed place cause) =
    IsSomeAnd (get files name) (λ file. Refused file place cause)
Stops files (index_file name) missing = get files name ≡ None
Stops files (index_file name) (bad_query line at cause) = ⊥
Stops files (index_file name) too_long = ⊥
Stops files (query_file name) (done work) = ⊥
Stops files (query_file name) (malformed place cause) = ⊥
Stops files (query_file name) missing = get files name ≡ None
Stops files (query_file name) (bad_query line at cause) =
    IsSomeAnd (get files name) (λ file. IsFirstFault file line at cause)
Stops files (query_file name) too_long = IsSomeAnd (get files name) IsTooLong

-- this is the outcome of the first input that isn't good: all before it are there and accepted
abbrev pub FirstStops : Files → List Input → Outcome → Type 0
FirstStops files [] outcome = ⊥
FirstStops files (input ∷ inputs) outcome =
    Stops files input outcome ⊎ (IsGood files input × FirstStops files inputs outcome)

-- a file of these bytes is written, and this text is printed
abbrev pub writing : Word → List ℕ → List ℕ → Work
writing name bytes text =
    record { file = Some (record { name = name; bytes = bytes }); text = text }

-- no file is written, and this text is printed
abbrev pub printing : List ℕ → Work
printing text = record { file = None; text = text }

-- the index that `make` writes. Words say at most a million documents; with the bound each value of
-- the type is a command that comes to something
abbrev pub index_made : ℕ → ℕ → IndexParts
index_made documents number = generated number (min documents 1000000)

-- the work of `live` where its readers were answered at these versions
pub record IsLiveWork (files : Files) (input output queries : Word) (options : Reordering)
    (readers : ℕ) (versions : List ℕ) (work : Work) : Type 0 where
  pub index : IndexParts
  pub new : IndexParts
  pub trace : List KeptRound
  pub asked : List Numbered
  pub answers : List LiveAnswer
  pub finals : List LiveAnswer
  pub holds : Holds files input index
  pub holds_queries : HoldsQueries files queries asked
  pub is_reordered : IsReordered options index new trace
  pub are_live : AreLive options readers index asked answers finals
  pub are_versions : versions ≡ map (λ answer. answer.version) answers
  pub is_work : work
      ≡ writing output (bytes_of new) (live_text index new trace readers answers finals)

-- the work of a command whose inputs are good
abbrev pub IsWork : Files → Command → Work → Type 0
IsWork files (copy input output) work = (index : IndexParts) × Holds files input index
    × (work ≡ writing output (bytes_of index) (index_line index))
IsWork files (report input workers) work = (index : IndexParts) × Holds files input index
    × (work ≡ printing (report_text index))
IsWork files (reorder input output options) work =
    (index new : IndexParts) × (trace : List KeptRound) × Holds files input index
    × IsReordered options index new trace
    × (work ≡ writing output (bytes_of new) (reorder_text index new trace))
IsWork files (query input queries) work =
    (index : IndexParts) × (asked : List Numbered) × (answers : List Answer)
    × Holds files input index × HoldsQueries files queries asked
    × AreAnswers index asked answers × (work ≡ printing (query_text index answers))
IsWork files (make documents output number options) work =
    (text : List ℕ) × IsSummary options (index_made documents number) text
    × (work ≡ writing output (bytes_of (index_made documents number)) text)
IsWork files (live input output queries options readers) work =
    (versions : List ℕ)
    × IsLiveWork files input output queries options readers versions work

-- over these files the command comes to this
abbrev pub ComesTo : Command → Files → Outcome → Type 0
ComesTo command files (done work) = IsWork files command work
ComesTo command files outcome = FirstStops files (inputs_of command) outcome
