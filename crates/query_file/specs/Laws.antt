-- What follows of files of queries, each the contract of a call of its own.
use Rattle.std.specs.Prelude.{◌≡◌, ℕ, List}
use Rattle.query_file.specs.Queries.{Numbered, AreQueries, IsTooLong, IsFirstFault}
use Rattle.query_file.specs.declared.error.LineCause.{LineCause}

-- a file is accepted as one list of queries at most
abbrev pub QueriesAreOne : Type 0
QueriesAreOne = (file : List ℕ) (one other : List Numbered)
    → AreQueries file one → AreQueries file other → one ≡ other

-- it has one first fault at most
abbrev pub FirstFaultIsOne : Type 0
FirstFaultIsOne = (file : List ℕ) (line number at place : ℕ) (one other : LineCause)
    → IsFirstFault file line at one → IsFirstFault file number place other
    → (line ≡ number) × (at ≡ place) × (one ≡ other)

-- a file that is accepted has no fault
abbrev pub AcceptedHasNoFault : Type 0
AcceptedHasNoFault = (file : List ℕ) (queries : List Numbered) (line at : ℕ) (cause : LineCause)
    → AreQueries file queries → ¬ IsFirstFault file line at cause

-- the file is accepted, is too long, or has a first fault
pub data Verdict (file : List ℕ) : Type 0 where
  accepted : (queries : List Numbered) → AreQueries file queries → Verdict file
  too_long : IsTooLong file → Verdict file
  at_fault : (line at : ℕ) (cause : LineCause) → IsFirstFault file line at cause → Verdict file

-- every file is
abbrev pub EveryFileHasVerdict : Type 0
EveryFileHasVerdict = (file : List ℕ) → Verdict file
