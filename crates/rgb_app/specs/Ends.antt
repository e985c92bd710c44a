-- How a run ends: the status, what it says of the outcome, and what stands after it.
use Rattle.std.specs.Prelude.{◌≡◌, ◌⊎◌, ℕ, ◌≤◌, List, length, take, Option, Some, None, IfSome, IsSomeAnd}
use Rattle.rgb_host.specs.Files.{Rose}
use Rattle.rgb_host.specs.Seen.{Seen, with_file, with_print, with_warning}
use Rattle.rgb_host.specs.Seen.{ReadFailed, WriteFailed, WarnedThenFailed, PrintedThenFailed}
use Rattle.command_words.specs.Line.{Word}
use Rattle.command_words.specs.Command.{Command, IsCommand}
use Rattle.rgb_app.specs.Outcome.{Written, Work, Outcome, done, malformed, missing, bad_query, too_long, ComesTo}
use Rattle.rgb_app.specs.Status.{code_of, warning_of, status_of}
use Rattle.rgb_app.specs.declared.status.Status.{Status}
use Rattle.rgb_app.specs.declared.status.Status.TheVariants.{Done, Usage, Malformed, ReadFault, WriteFault, Memory, BadQuery, TooLong}

-- ---- what stands after the work

-- the host with the file, if there is one, whole
abbrev pub with_written : Option Written → Seen → Seen
with_written None host = host
with_written (Some file) host = with_file file.name file.bytes host

-- the work stands whole: its file is written, its text printed
abbrev pub delivered : Work → Seen → Seen
delivered work host = with_print work.text (with_written work.file host)

-- a write failed before the work stood whole
pub data IsCutOff (work : Work) (before after : Seen) : Type 0 where
  -- the file couldn't be created
  not_created : (file : Written) → work.file ≡ Some file → WriteFailed before after
      → IsCutOff work before after
  -- the file holds the first n of its bytes
  not_written : (file : Written) → work.file ≡ Some file → (n : ℕ) → n ≤ length file.bytes
      → WriteFailed (with_file file.name (take n file.bytes) before) after
      → IsCutOff work before after
  -- the file is whole, and the first of the text was printed
  not_printed : PrintedThenFailed work.text (with_written work.file before) after
      → IsCutOff work before after

-- ---- the statuses

-- where the host tells its files, the command comes to this over them
abbrev pub MayComeTo : Command → Seen → Outcome → Type 0
MayComeTo command host outcome = IfSome host.files (λ files. ComesTo command files outcome)

-- the host tells its files, and the command comes to this over them
abbrev pub DoesComeTo : Command → Seen → Outcome → Type 0
DoesComeTo command host outcome = IsSomeAnd host.files (λ files. ComesTo command files outcome)

-- what a status says of a command that was run, from one host to the other
abbrev pub Says : Status → Command → Seen → Seen → Type 0
Says Done command before after =
    (work : Work) × MayComeTo command before (done work) × (after ≡ delivered work before)
Says (Malformed place cause) command before after =
    MayComeTo command before (malformed place cause) × (after ≡ before)
Says ReadFault command before after =
    ReadFailed before after ⊎ (DoesComeTo command before missing × (after ≡ before))
Says WriteFault command before after =
    (work : Work) × MayComeTo command before (done work) × IsCutOff work before after
Says Memory command before after = after ≡ before
Says (BadQuery line at cause) command before after =
    MayComeTo command before (bad_query line at cause) × (after ≡ before)
Says TooLong command before after = MayComeTo command before too_long × (after ≡ before)
Says Usage command before after = ⊥

-- the words spell none of the commands that the call does
abbrev pub SpellsNone : (Command → Type 0) → List Word → Type 0
SpellsNone Does words = (command : Command) → Does command → ¬ IsCommand words command

-- they spell one command at most
abbrev pub SpellsOne : List Word → Type 0
SpellsOne words = (one other : Command) → IsCommand words one → IsCommand words other → one ≡ other

-- the words are refused with nothing done, or they are one of the commands that the call does, which
-- was run
abbrev pub Runs : (Command → Type 0) → Status → List Word → Seen → Seen → Type 0
Runs Does status words before after =
    (SpellsNone Does words × (status ≡ Usage) × (after ≡ before))
    ⊎ ((command : Command) × Does command × IsCommand words command
    × Says status command before after)

-- the line, if there is one, was warned: all of it, or the first of it before a warning failed
abbrev pub Warned : Option (List ℕ) → Seen → Seen → Type 0
Warned None before after = after ≡ before
Warned (Some line) before after =
    (after ≡ with_warning line before) ⊎ WarnedThenFailed line before after

-- a run of the words by a call that does these commands ends with this number: the work comes first,
-- then the line of its status
pub record Ends (Does : Command → Type 0) (words : List Word) (before after : Seen) (number : ℕ)
    : Type 0 where
  pub status : Status
  pub code : number ≡ code_of status
  pub between : Seen
  pub runs : Runs Does status words before between
  pub warned : Warned (warning_of status) between after

-- ---- which status comes

-- a failure was counted that can keep the outcome from being told
abbrev pub IsDisturbed : Outcome → Seen → Seen → Type 0
IsDisturbed (done work) before after =
    Rose before.read_faults after.read_faults ⊎ Rose before.write_faults after.write_faults
IsDisturbed (malformed place cause) before after = Rose before.read_faults after.read_faults
IsDisturbed missing before after = Rose before.read_faults after.read_faults
IsDisturbed (bad_query line at cause) before after = Rose before.read_faults after.read_faults
IsDisturbed too_long before after = Rose before.read_faults after.read_faults

-- where no failure was counted the number is that of the outcome, or memory ran out
abbrev pub IsExact : (Command → Type 0) → List Word → Seen → Seen → ℕ → Type 0
IsExact Does words before after number =
    (command : Command) → Does command → IsCommand words command
    → (outcome : Outcome) → DoesComeTo command before outcome → ¬ IsDisturbed outcome before after
    → (number ≡ code_of (status_of outcome)) ⊎ (number ≡ code_of Memory)
