use Rattle.std.proofs.Common.{◌≡◌, List, length, subst}
use Rattle.std.specs.Prelude.{Result, Ok, Err, IfErr}
use Rattle.std.proofs.lemmas.Result.{err_from_is_err_and}
use Rattle.rgb_base.specs.declared.parts.TermList.{TermList}
use Rattle.rgb_base.specs.declared.parts.DocRecord.{DocRecord}
use Rattle.rgb_base.specs.declared.parts.Header.{Header}
use Rattle.rgb_base.specs.Parts.{AreCounted, AreOrdered}
use Rattle.rgb_base.proofs.index.Index.from_parts.Goals as goal

-- the front of what makes parts an index
record IsFront (header : Header) (lists : List TermList) (documents : List DocRecord) : Type 0 where
  counted : AreCounted (record { header = header; lists = lists; documents = documents })
  ordered : AreOrdered (length documents) lists

-- what holds anyway holds at this error
at_error : {T E : Type 0} (r : Result T E) (e : E) (P : Type 0) → P → IfErr r (λ x. x ≡ e → P)
at_error (Ok x) e P p = tt
at_error (Err x) e P p = λ _. p

pub returns-in_err-total-clause-memory : goal.returns-in_err-total-clause-memory
returns-in_err-total-clause-memory c =
    let p = err_from_is_err_and c.from_residual.result c.from_residual.ensures.1 in
    rw (p.1, p.2) (λ same.
    let told = c.in_err-total.ensures.memory same in
    let front : IsFront c.args.header c.deref.result.now c.deref-2.result.now = record { counted = told.0; ordered = told.1 } in
    let moved : IsFront c.args.header c.args.lists.items c.args.documents.items =
    subst (λ (ds : List DocRecord). IsFront c.args.header c.args.lists.items ds) c.deref-2.ensures.value
    (subst (λ (ls : List TermList). IsFront c.args.header ls c.deref-2.result.now) c.deref.ensures.value front) in
    (moved.counted, moved.ordered))

pub returns-in_err-filled-clause-memory : goal.returns-in_err-filled-clause-memory
returns-in_err-filled-clause-memory c =
    let sound = c.in_ok-total.ensures.sound in
    let front : IsFront c.args.header c.deref.result.now c.deref-2.result.now = record { counted = record { lists = sound.counted.lists; documents = sound.counted.documents }; ordered = sound.ordered } in
    let moved : IsFront c.args.header c.args.lists.items c.args.documents.items =
    subst (λ (ds : List DocRecord). IsFront c.args.header c.args.lists.items ds) c.deref-2.ensures.value
    (subst (λ (ls : List TermList). IsFront c.args.header ls c.deref-2.result.now) c.deref.ensures.value front) in
    at_error c.from_residual-in_err-filled.result _ _ (moved.counted, moved.ordered)
