-- What follows of the steps of a host, each the contract of a call of its own.
use Rattle.std.specs.Prelude.{◌≡◌, List, ℕ, [], ◌++◌}
use Rattle.rgb_host.specs.Seen.{Seen, Lacks, created, grown, with_file, AppendedThenFailed}

-- bytes that are appended to a file just created are all that it holds
abbrev pub CreatedThenAppended : Type 0
CreatedThenAppended = (host : Seen) (name bytes : List ℕ)
    → grown name bytes (created name host) ≡ with_file name bytes host

-- two pieces that are appended one behind the other are one
abbrev pub AppendedTwice : Type 0
AppendedTwice = (host : Seen) (name first second : List ℕ)
    → grown name second (grown name first host) ≡ grown name (first ++ second) host

-- a file that is there stays as it is where no byte is appended
abbrev pub NothingAppended : Type 0
NothingAppended = (host : Seen) (name : List ℕ) → ¬ Lacks host name → grown name [] host ≡ host

-- a file to which bytes were appended is there
abbrev pub AppendedIsThere : Type 0
AppendedIsThere = (host : Seen) (name bytes : List ℕ) → ¬ Lacks (grown name bytes host) name

-- a failure after a first piece is a failure in the whole, whatever was to follow
abbrev pub FailedLater : Type 0
FailedLater = (before after : Seen) (name first second rest : List ℕ)
    → AppendedThenFailed name second (grown name first before) after
    → AppendedThenFailed name (first ++ (second ++ rest)) before after
