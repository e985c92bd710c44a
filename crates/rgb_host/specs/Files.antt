-- What a host's calls do to the files and texts that it tells, and when they may fail.
use Rattle.std.specs.Prelude.{◌≡◌, ℕ, ◌+◌, ◌-◌, ◌^◌, ◌<◌, ◌≤◌, min, List, [], ◌++◌, length, take, drop, Option, Some, None, unwrap_or, IfSome}
use Rattle.std.specs.Ordering.{nat_cmp}
use Rattle.std.specs.Cmp.Lexicographic.{slice_cmp}
use Rattle.std.specs.FinMap.{FinMap, get, insert}

-- a finite map from the bytes of names to bytes
abbrev pub Files : Type 0
Files = FinMap (slice_cmp nat_cmp) (List ℕ)

-- the bytes of a named file, and none where it isn't there
abbrev pub bytes_of : Files → List ℕ → List ℕ
bytes_of files name = unwrap_or (get files name) []

-- the files with these bytes behind those of the named one
abbrev pub appended : List ℕ → List ℕ → Files → Files
appended name bytes files = insert files name (bytes_of files name ++ bytes)

-- the host tells its files, and has none of this name
abbrev pub IsMissing : Option Files → List ℕ → Type 0
IsMissing None name = ⊥
IsMissing (Some files) name = get files name ≡ None

-- one more, where a count ends at 2^64 - 1
abbrev pub one_more : ℕ → ℕ
one_more count = min (count + 1) (2 ^ 64 - 1)

-- a count of faults has risen in between: there is at least one more, or it stands at its end
abbrev pub Rose : ℕ → ℕ → Type 0
Rose before after = one_more before ≤ after

-- a read into a buffer gave the first n bytes of the file from a place on, and one at least where
-- bytes and room are left
pub record Reads (file : List ℕ) (at : ℕ) (buffer : List ℕ) (n : ℕ) : Type 0 where
  pub front : take n buffer ≡ take n (drop at file)
  pub left : n ≤ length (drop at file)
  pub some : 0 < length (drop at file) → 0 < length buffer → 0 < n

-- where the host tells its files and has this one, the read gave its bytes
abbrev pub ReadsTold : Option Files → List ℕ → ℕ → List ℕ → ℕ → Type 0
ReadsTold told name at buffer n =
    IfSome told (λ files. IfSome (get files name) (λ file. Reads file at buffer n))

-- a piece was taken up to n: all of it fits, and one byte at least where there is one
pub record Takes (piece : List ℕ) (n : ℕ) : Type 0 where
  pub within : n ≤ length piece
  pub some : 0 < length piece → 0 < n
