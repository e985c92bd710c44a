-- A window over a file, piece by piece.
use Rattle.std.proofs.Common.{◌≡◌, ℕ, zero, suc, ◌+◌, ◌<◌, ◌≤◌, List, ◌++◌, length, take, drop, Option, Some, None, refl, sym, ap, subst, ◌∙◌, arith, IfSome, IsSomeAnd, Result, Ok, Err, IfOk, OnOk}
use Rattle.std.specs.FinMap.{get}
use Rattle.std.proofs.lemmas.List.{append_assoc, append-nil, drop_at, drop-drop, drop-append-le, take-append-drop, length-append, length-drop, nil_from_length}
use Rattle.rgb_host.specs.Files.{Files, Reads, ReadsTold}
use Rattle.rgb_host.specs.Seen.{Seen, Lacks}
use Rattle.ciff_reader.specs.Window.{Held, IsFile, IsAt, IsAtEnd, IsNextPiece}

reads_of : (told : Option Files) (found : Option (List ℕ)) (files : Files) (name file buffer : List ℕ) (at n : ℕ) → told ≡ Some files → get files name ≡ Some file
    → ReadsTold told name at buffer n → Reads file at buffer n
reads_of told found files name file buffer at n is there reads =
    subst (λ (f : Option (List ℕ)). IfSome f (λ file. Reads file at buffer n)) there (subst (λ (t : Option Files). ReadsTold t name at buffer n) is reads)

pub next_piece : (host : Seen) (name file buffer before after : List ℕ) (at n : ℕ) → IsFile host name file → ReadsTold host.files name at buffer n → 0 < length buffer
    → after ≡ before ++ take n buffer → IsNextPiece file at before after n
next_piece host name file buffer before after at n is told room items =
    let reads = reads_of host.files (get is.files name) is.files name file buffer at n is.told is.found told in
    record {
      bytes = items ∙ ap (λ (bs : List ℕ). before ++ bs) reads.front;
      left = reads.left;
      some = λ left. reads.some left room;
    }

-- what is left of the file behind what is held
behind : (window : Held) (file : List ℕ) (at : ℕ) (is : IsAt window file) → at ≡ window.place + length window.bytes → drop at file ≡ is.rest
behind window file at is place =
    ap (λ (k : ℕ). drop k file) place ∙ sym (drop-drop (length window.bytes) window.place file) ∙ ap (drop (length window.bytes)) is.bytes ∙ drop_at window.bytes is.rest (length window.bytes) refl

-- the window with one more piece
pub grown_at : (window : Held) (file items items' : List ℕ) (start at n : ℕ) → window.bytes ≡ drop start items → start ≤ length items → at ≡ window.place + length window.bytes
    → IsNextPiece file at items items' n → IsAt window file → IsAt (record { place = window.place; bytes = drop start items' }) file
grown_at window file items items' start at n held within place piece is =
    let rest = behind window file at is place in
    let more : drop start items' ≡ window.bytes ++ take n is.rest =
    ap (drop start) (piece.bytes ∙ ap (λ (bs : List ℕ). items ++ take n bs) rest) ∙ drop-append-le start items (take n is.rest) within ∙ ap (λ (bs : List ℕ). bs ++ take n is.rest) (sym held) in
    record {
      rest = drop n is.rest;
      within = is.within;
      bytes = is.bytes ∙ ap (λ (bs : List ℕ). window.bytes ++ bs) (sym (take-append-drop n is.rest)) ∙ sym (append_assoc window.bytes (take n is.rest) (drop n is.rest))
          ∙ ap (λ (bs : List ℕ). bs ++ drop n is.rest) (sym more);
    }

-- no more came: all that is left is held
pub ended_at : (window : Held) (file items items' : List ℕ) (at n : ℕ) → at ≡ window.place + length window.bytes → n ≡ 0
    → IsNextPiece file at items items' n → IsAt window file → IsAtEnd window file
ended_at window file items items' at n place none piece is =
    let rest = behind window file at is place in
    record {
      within = is.within;
      bytes = is.bytes ∙ ap (λ (bs : List ℕ). window.bytes ++ bs) (nil_from_length is.rest (empty (length is.rest) (ap length rest))) ∙ append-nil window.bytes;
    }
  where
    empty : (k : ℕ) → length (drop at file) ≡ k → k ≡ 0
    empty zero same = refl
    empty (suc k) same = absurd (omega (arith, piece.some (omega (arith, same)), none))

-- ---- of what a call gave

pub ok_then : {T E : Type 0} (result : Result T E) (P : T → Type 0) (Q : Type 0) → ((x : T) → P x → Q) → IfOk result P → OnOk result Q
ok_then (Ok x) P Q step is = step x is
ok_then (Err e) P Q step is = tt

pub if_then : {T E : Type 0} (result : Result T E) (P Q : T → Type 0) → ((x : T) → P x → Q x) → IfOk result P → IfOk result Q
if_then (Ok x) P Q step is = step x is
if_then (Err e) P Q step is = tt

pub both : {T E : Type 0} (result : Result T E) (P Q : T → Type 0) → IfOk result P → IfOk result Q → IfOk result (λ x. P x × Q x)
both (Ok x) P Q p q = (p, q)
both (Err e) P Q p q = tt

-- ---- files that are told

-- reads that succeed leave the files
pub still_file : (before after : Seen) (name file : List ℕ) → after ≡ before → IsFile before name file → IsFile after name file
still_file before after name file same is = subst (λ (h : Seen). IsFile h name file) (sym same) is

-- what holds of the file's bytes, where the host tells them
pub of_file : (host : Seen) (name : List ℕ) (P : List ℕ → Type 0) → ¬ Lacks host name → ((file : List ℕ) → IsFile host name file → P file)
    → IfSome host.files (λ files. IsSomeAnd (get files name) P)
of_file host name P there holds = by_files host.files refl
  where
    by_found : (files : Files) → host.files ≡ Some files → (found : Option (List ℕ)) → get files name ≡ found → IsSomeAnd found P
    by_found files told None none = absurd (there (rw told none))
    by_found files told (Some file) is = holds file (record { files = files; told = told; found = is })

    by_files : (told : Option Files) → host.files ≡ told → IfSome told (λ files. IsSomeAnd (get files name) P)
    by_files None told = tt
    by_files (Some files) told = by_found files told (get files name) refl

pub ok_both : {T E : Type 0} (result : Result T E) (P Q : Type 0) → OnOk result P → OnOk result Q → OnOk result (P × Q)
ok_both (Ok x) P Q p q = (p, q)
ok_both (Err e) P Q p q = tt

-- ---- the end of a file

pub is_before_end : (window : Held) (file : List ℕ) → IsAt window file → 0 < length window.bytes → window.place < length file
is_before_end window file at some =
    omega (arith, ap length at.bytes, length-append window.bytes at.rest, length-drop window.place file, at.within)

pub is_end : (window : Held) (file : List ℕ) → IsAtEnd window file → length window.bytes ≡ 0 → window.place ≡ length file
is_end window file at none = omega (arith, ap length at.bytes, length-drop window.place file, at.within)
