-- What reading a file of queries gives, and how it fails.
use Rattle.std.specs.Prelude.{◌≡◌, ◌⊎◌, ℕ, List, IfSome, IsSomeAnd}
use Rattle.std.specs.FinMap.{get}
use Rattle.rgb_host.specs.Seen.{Seen, Lacks, ReadFailed}
use Rattle.query_file.specs.Queries.{IsTooLong, IsFirstFault}
use Rattle.query_file.specs.declared.error.QueriesError.{QueriesError}
use Rattle.query_file.specs.declared.error.QueriesError.TheVariants.{Fault, OutOfMemory, TooLong, BadLine}

-- where the host tells its files, the named one is there and P holds of its bytes
abbrev pub OfFile : Seen → List ℕ → (List ℕ → Type 0) → Type 0
OfFile host name P = IfSome host.files (λ files. IsSomeAnd (get files name) P)

-- the bytes are refused in this way; other errors refuse nothing
abbrev pub IsRefusal : List ℕ → QueriesError → Type 0
IsRefusal bytes TooLong = IsTooLong bytes
IsRefusal bytes (BadLine fault) = IsFirstFault bytes fault.line fault.at fault.cause
IsRefusal bytes Fault = ⊥
IsRefusal bytes OutOfMemory = Unit {0}

-- why a file isn't read as queries, and what that leaves of the host
abbrev pub Explains : QueriesError → List ℕ → Seen → Seen → Type 0
Explains Fault name before after = ReadFailed before after ⊎ (Lacks before name × (after ≡ before))
Explains TooLong name before after = OfFile before name IsTooLong × (after ≡ before)
Explains (BadLine fault) name before after =
    OfFile before name (λ file. IsFirstFault file fault.line fault.at fault.cause) × (after ≡ before)
Explains OutOfMemory name before after = after ≡ before
