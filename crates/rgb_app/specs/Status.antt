-- The statuses: what each tells, its number, and the line that is warned with it.
use Rattle.std.specs.Prelude.{ℕ, List, Option, Some, None, codes}
use Rattle.ciff_reader.specs.declared.error.ReadError.{ReadError}
use Rattle.ciff_reader.specs.declared.error.ReadError.TheVariants as errors
use Rattle.query_file.specs.declared.error.QueriesError.{QueriesError}
use Rattle.query_file.specs.declared.error.QueriesError.TheVariants as query_errors
use Rattle.rgb_app.specs.Outcome.{Outcome, done, malformed, missing, bad_query, too_long}
use Rattle.rgb_app.specs.Text.{line_of, malformed_words, bad_query_words}
use Rattle.rgb_app.specs.declared.status.Status.{Status}
use Rattle.rgb_app.specs.declared.status.Status.TheVariants.{Done, Usage, Malformed, ReadFault, WriteFault, Memory, BadQuery, TooLong}

-- the number that the program ends with
abbrev pub code_of : Status → ℕ
code_of Done = 0
code_of Usage = 2
code_of (Malformed place cause) = 3
code_of ReadFault = 4
code_of WriteFault = 5
code_of Memory = 6
code_of (BadQuery line at cause) = 7
code_of TooLong = 8

-- the line on standard error
abbrev pub warning_of : Status → Option (List ℕ)
warning_of Done = None
warning_of Usage = Some (line_of (codes "usage"))
warning_of (Malformed place cause) = Some (line_of (malformed_words place cause))
warning_of ReadFault = Some (line_of (codes "read fault"))
warning_of WriteFault = Some (line_of (codes "write fault"))
warning_of Memory = Some (line_of (codes "memory"))
warning_of (BadQuery line at cause) = Some (line_of (bad_query_words line at cause))
warning_of TooLong = Some (line_of (codes "queries too long"))

-- the status that tells an outcome
abbrev pub status_of : Outcome → Status
status_of (done work) = Done
status_of (malformed place cause) = Malformed place cause
status_of missing = ReadFault
status_of (bad_query line at cause) = BadQuery line at cause
status_of too_long = TooLong

-- the status of an index that isn't read
abbrev pub status_of_read : ReadError → Status
status_of_read errors.Fault = ReadFault
status_of_read (errors.Malformed place cause) = Malformed place cause
status_of_read errors.OutOfMemory = Memory

-- the status of queries that aren't read
abbrev pub status_of_queries : QueriesError → Status
status_of_queries query_errors.Fault = ReadFault
status_of_queries query_errors.OutOfMemory = Memory
status_of_queries query_errors.TooLong = TooLong
status_of_queries (query_errors.BadLine fault) = BadQuery fault.line fault.at fault.cause
