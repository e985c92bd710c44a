-- What stands after a file was created, written and the text printed, whole or not.
use Rattle.std.proofs.Common.{◌≡◌, List, ℕ, take, Result, Ok, Err, OnErr, refl, ap, subst, ◌∙◌}
use Rattle.rgb_host.specs.Seen.{Seen, created, grown, with_file, with_print, WriteFailed, AppendedThenFailed, PrintedThenFailed}
use Rattle.rgb_host.specs.Laws.{CreatedThenAppended}
use Rattle.rgb_app.specs.Outcome.{writing}
use Rattle.rgb_app.specs.Ends.{delivered, IsCutOff, not_created, not_written, not_printed}

-- a fact that holds anyhow holds of an error
pub on_err : {T E : Type 0} (result : Result T E) (P : Type 0) → P → OnErr result P
on_err (Ok x) P p = tt
on_err (Err e) P p = p

-- the file couldn't be created
pub cut_at_creation : (name bytes text : List ℕ) (before after : Seen) → WriteFailed before after → IsCutOff (writing name bytes text) before after
cut_at_creation name bytes text before after failed = not_created (record { name = name; bytes = bytes }) refl failed

-- it was created, and then written to its nth byte
pub cut_at_write : CreatedThenAppended → (name bytes text : List ℕ) (before made after : Seen) → made ≡ created name before → AppendedThenFailed name bytes made after
    → IsCutOff (writing name bytes text) before after
cut_at_write law name bytes text before made after new cut =
    let same : grown name (take cut.n bytes) made ≡ with_file name (take cut.n bytes) before = ap (grown name (take cut.n bytes)) new ∙ law before name (take cut.n bytes) in
    not_written (record { name = name; bytes = bytes }) refl cut.n cut.within (subst (λ host. WriteFailed host after) same cut.failed)

-- it was created and written whole
pub written_whole : CreatedThenAppended → (name bytes : List ℕ) (before made whole : Seen) → made ≡ created name before → whole ≡ grown name bytes made → whole ≡ with_file name bytes before
written_whole law name bytes before made whole new all = all ∙ ap (grown name bytes) new ∙ law before name bytes

pub cut_at_print : (name bytes text : List ℕ) (before whole after : Seen) → whole ≡ with_file name bytes before → PrintedThenFailed text whole after → IsCutOff (writing name bytes text) before after
cut_at_print name bytes text before whole after is cut = not_printed (subst (λ host. PrintedThenFailed text host after) is cut)

pub stands_whole : (name bytes text : List ℕ) (before whole after : Seen) → whole ≡ with_file name bytes before → after ≡ with_print text whole → after ≡ delivered (writing name bytes text) before
stands_whole name bytes text before whole after is shown = shown ∙ ap (with_print text) is
