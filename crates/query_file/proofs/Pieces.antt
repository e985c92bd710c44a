-- A file that is read piece by piece.
use Rattle.std.proofs.Common.{◌≡◌, ℕ, zero, suc, ◌<◌, List, [], ◌++◌, length, take, drop, Option, Some, None, refl, sym, ap, subst, ◌∙◌, arith, IfSome, IsSomeAnd, append_assoc}
use Rattle.std.specs.FinMap.{get}
use Rattle.std.proofs.lemmas.List.{append-nil, drop_at, take-append-drop, nil_from_length, length-append}
use Rattle.rgb_host.specs.Files.{Files, Reads, ReadsTold}
use Rattle.rgb_host.specs.Seen.{Seen, Lacks}
use Rattle.query_file.specs.Queries.{IsTooLong}
use Rattle.query_file.specs.Steps.{IsFile, IsFront}

reads_of : (told : Option Files) (files : Files) (name file buffer : List ℕ) (at n : ℕ) → told ≡ Some files → get files name ≡ Some file
    → ReadsTold told name at buffer n → Reads file at buffer n
reads_of told files name file buffer at n is there reads =
    subst (λ (f : Option (List ℕ)). IfSome f (λ file. Reads file at buffer n)) there (subst (λ (t : Option Files). ReadsTold t name at buffer n) is reads)

-- the bytes with one more piece are the first of the file
pub grown : (host : Seen) (name file buffer before after : List ℕ) (at n : ℕ) → IsFile host name file → ReadsTold host.files name at buffer n → at ≡ length before
    → after ≡ before ++ take n buffer → IsFront before file → IsFront after file
grown host name file buffer before after at n is told place items front =
    let reads = reads_of host.files is.files name file buffer at n is.told is.found told in
    let rest : drop at file ≡ front.0 = ap (drop at) front.1 ∙ drop_at before front.0 at (sym place) in
    let piece : take n buffer ≡ take n front.0 = reads.front ∙ ap (take n) rest in (
      drop n front.0,
      front.1 ∙ ap (λ (bs : List ℕ). before ++ bs) (sym (take-append-drop n front.0)) ∙ sym (append_assoc before (take n front.0) (drop n front.0))
          ∙ ap (λ (bs : List ℕ). bs ++ drop n front.0) (ap (λ (bs : List ℕ). before ++ bs) (sym piece) ∙ sym items),
    )

-- no more came: the bytes are all of the file
pub ended : (host : Seen) (name file buffer before after : List ℕ) (at n : ℕ) → IsFile host name file → ReadsTold host.files name at buffer n → 0 < length buffer → at ≡ length before
    → after ≡ before ++ take n buffer → n ≡ 0 → IsFront before file → file ≡ after
ended host name file buffer before after at n is told room place items none front =
    let reads = reads_of host.files is.files name file buffer at n is.told is.found told in
    let rest : drop at file ≡ front.0 = ap (drop at) front.1 ∙ drop_at before front.0 at (sym place) in
    let left : front.0 ≡ [] = nil_from_length front.0 (empty (length front.0) (λ some. reads.some (subst (λ (bs : List ℕ). 0 < length bs) (sym rest) some) room)) in
    front.1 ∙ ap (λ (bs : List ℕ). before ++ bs) left ∙ append-nil before ∙ sym (items ∙ ap (λ (k : ℕ). before ++ take k buffer) none ∙ append-nil before)
  where
    empty : (k : ℕ) → (0 < k → 0 < n) → k ≡ 0
    empty zero some = refl
    empty (suc k) some = absurd (omega (arith, some (omega arith), none))

-- what holds of the file's bytes, where the host tells them
pub of_file : (host : Seen) (name : List ℕ) (P : List ℕ → Type 0) → ¬ Lacks host name → ((file : List ℕ) → IsFile host name file → P file)
    → IfSome host.files (λ files. IsSomeAnd (get files name) P)
of_file host name P there holds = by_files host.files refl
  where
    by_found : (files : Files) → host.files ≡ Some files → (found : Option (List ℕ)) → get files name ≡ found → IsSomeAnd found P
    by_found files told None none = absurd (there (rw told none))
    by_found files told (Some file) is = holds file (record { files = files; told = told; found = is })

    by_files : (told : Option Files) → host.files ≡ told → IfSome told (λ files. IsSomeAnd (get files name) P)
    by_files None told = tt
    by_files (Some files) told = by_found files told (get files name) refl

-- a fact of the file's bytes that follows from another
pub of_file_then : (host : Seen) (name : List ℕ) (P Q : List ℕ → Type 0) → ((file : List ℕ) → P file → Q file) → IfSome host.files (λ files. IsSomeAnd (get files name) P)
    → IfSome host.files (λ files. IsSomeAnd (get files name) Q)
of_file_then host name P Q step = by_files host.files
  where
    by_found : (found : Option (List ℕ)) → IsSomeAnd found P → IsSomeAnd found Q
    by_found None holds = holds
    by_found (Some file) holds = step file holds

    by_files : (told : Option Files) → IfSome told (λ files. IsSomeAnd (get files name) P) → IfSome told (λ files. IsSomeAnd (get files name) Q)
    by_files None holds = tt
    by_files (Some files) holds = by_found (get files name) holds

-- reads that succeed leave the files
pub still_file : (before after : Seen) (name file : List ℕ) → after ≡ before → IsFile before name file → IsFile after name file
still_file before after name file same is = subst (λ (h : Seen). IsFile h name file) (sym same) is

pub still_there : (before after : Seen) (name : List ℕ) → after ≡ before → ¬ Lacks after name → ¬ Lacks before name
still_there before after name same there = subst (λ (h : Seen). ¬ Lacks h name) same there

-- a front of the file is too long
pub too_long : (file front rest : List ℕ) → file ≡ front ++ rest → 16777216 < length front → IsTooLong file
too_long file front rest is long = omega (arith, ap length is, length-append front rest)
