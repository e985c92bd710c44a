-- What reading a file gives, and how it fails.
use Rattle.std.specs.Prelude.{◌≡◌, ◌⊎◌, ℕ, List, IfSome, IsSomeAnd}
use Rattle.std.specs.FinMap.{get}
use Rattle.rgb_host.specs.Seen.{Seen, Lacks, ReadFailed}
use Rattle.ciff_format.specs.Refused.{Refused}
use Rattle.ciff_reader.specs.declared.error.ReadError.{ReadError}
use Rattle.ciff_reader.specs.declared.error.ReadError.TheVariants.{Fault, OutOfMemory, Malformed}

-- where the host tells its files, the named one is there and P holds of its bytes
abbrev pub OfFile : Seen → List ℕ → (List ℕ → Type 0) → Type 0
OfFile host name P = IfSome host.files (λ files. IsSomeAnd (get files name) P)

-- why a file isn't read as an index, and what that leaves of the host
abbrev pub Explains : ReadError → List ℕ → Seen → Seen → Type 0
Explains Fault name before after = ReadFailed before after ⊎ (Lacks before name × (after ≡ before))
Explains (Malformed place cause) name before after =
    OfFile before name (λ file. Refused file place cause) × (after ≡ before)
Explains OutOfMemory name before after = after ≡ before
