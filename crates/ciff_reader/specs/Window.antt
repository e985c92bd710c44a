-- The window over a file that is read piece by piece, and the message at its front.
use Rattle.std.specs.Prelude.{◌≡◌, ◌⊎◌, ℕ, ◌+◌, ◌^◌, ◌<◌, ◌≤◌, List, ◌++◌, length, take, drop, Some}
use Rattle.std.specs.FinMap.{get}
use Rattle.ciff_wire.specs.Varint.{Reads, EndsEarly, RunsOn}
use Rattle.rgb_host.specs.Files.{Files}
use Rattle.rgb_host.specs.Seen.{Seen}
use Rattle.ciff_format.specs.declared.cause.Cause.{Cause}
use Rattle.ciff_format.specs.declared.cause.Cause.TheVariants.{CutShort, BadLength}
use Rattle.ciff_format.specs.Refused.{IsCutShort, IsTooLong}
use Rattle.ciff_reader.specs.declared.error.ReadError.{ReadError}
use Rattle.ciff_reader.specs.declared.error.ReadError.TheVariants.{Fault, OutOfMemory, Malformed}
use Rattle.ciff_reader.specs.declared.message.Span.{Span}
use Rattle.ciff_reader.specs.Reading.{Explains}

-- a place of the file, and the bytes from there on that were read
pub record Held : Type 0 where
  pub place : ℕ
  pub bytes : List ℕ

-- the window with its first n bytes let go
abbrev pub without : ℕ → Held → Held
without n window = record { place = window.place + n; bytes = drop n window.bytes }

-- the host tells its files, and the named one holds these bytes
pub record IsFile (host : Seen) (name file : List ℕ) : Type 0 where
  pub files : Files
  pub told : host.files ≡ Some files
  pub found : get files name ≡ Some file

-- what is held are bytes of the file, and more of them may follow
pub record IsAt (window : Held) (file : List ℕ) : Type 0 where
  pub rest : List ℕ
  pub within : window.place ≤ length file
  pub bytes : drop window.place file ≡ window.bytes ++ rest

-- the first n bytes of the file from the place on stand behind the bytes, and one at least where
-- bytes are left
pub record IsNextPiece (file : List ℕ) (at : ℕ) (before after : List ℕ) (n : ℕ) : Type 0 where
  pub bytes : after ≡ before ++ take n (drop at file)
  pub left : n ≤ length (drop at file)
  pub some : 0 < length (drop at file) → 0 < n

-- all bytes from the place on are held
pub record IsAtEnd (window : Held) (file : List ℕ) : Type 0 where
  pub within : window.place ≤ length file
  pub bytes : drop window.place file ≡ window.bytes

-- why a read stops, which refuses nothing
abbrev pub Stops : ReadError → List ℕ → Seen → Seen → Type 0
Stops Fault name before after = Explains Fault name before after
Stops OutOfMemory name before after = after ≡ before
Stops (Malformed place cause) name before after = ⊥

-- why a step of reading stops: as the whole does, but a refusal is that of each file of which this
-- holds
abbrev pub ExplainsWhere : (List ℕ → Type 0) → (List ℕ → ℕ → Cause → Type 0) → ReadError
    → List ℕ → Seen → Seen → Type 0
ExplainsWhere Holds IsWrong (Malformed place cause) name before after =
    ((file : List ℕ) → Holds file → IsWrong file place cause) × (after ≡ before)
ExplainsWhere Holds IsWrong Fault name before after = Explains Fault name before after
ExplainsWhere Holds IsWrong OutOfMemory name before after = after ≡ before

-- the named file is this one, and the window is at it
pub record Opens (host : Seen) (name : List ℕ) (window : Held) (file : List ℕ) : Type 0 where
  pub is : IsFile host name file
  pub at : IsAt window file

-- ---- the message at the front

-- the bytes that are held end before the message does, or it ends too far away
abbrev pub IsUnended : ℕ → List ℕ → Type 0
IsUnended place bytes =
    EndsEarly bytes
    ⊎ ((size : ℕ) × (used : ℕ) × Reads bytes size used
    × (place + used + size ≤ 2 ^ 41) × (length bytes < used + size))

abbrev pub IsFar : ℕ → List ℕ → Type 0
IsFar place bytes =
    RunsOn bytes
    ⊎ ((size : ℕ) × (used : ℕ) × Reads bytes size used × (2 ^ 41 < place + used + size))

-- a message lies there in the bytes
pub record IsSpan (place : ℕ) (bytes : List ℕ) (span : Span) : Type 0 where
  pub reads : Reads bytes span.size span.from
  pub within : span.from + span.size ≤ length bytes
  pub near : place + span.from + span.size ≤ 2 ^ 41

-- the message in the bytes
abbrev pub message_in : List ℕ → Span → List ℕ
message_in bytes span = take span.size (drop span.from bytes)

-- what is wrong with the place of a message, before it is read
abbrev pub IsFrameFault : List ℕ → ℕ → Cause → Type 0
IsFrameFault file place CutShort = IsCutShort file place
IsFrameFault file place BadLength = IsTooLong file place
IsFrameFault file place cause = ⊥
