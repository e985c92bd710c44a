use Rattle.std.proofs.Common.{◌≡◌, ℕ, List, length, sym, subst, ap, ◌∙◌}
use Rattle.cell_claims.specs.declared.trace.KeptRound.{KeptRound}
use Rattle.bisection.specs.Trace.{IsTrace}
use Rattle.bisection.specs.Recursion.{IsNumbered}
use Rattle.bisection.specs.Progress.{Progress, limits_of, slabs_of}
use Rattle.bisection.proofs.Progressing.{finished, finished_len, finished_trace, done_from_none}
use Rattle.bisection.proofs.recursion.reorder.Goals as goal

pub returns-clause-ok : goal.returns-clause-ok
returns-clause-ok g c =
    let options = c.args.options in
    let forward = c.args.forward.now in
    let old = c.loop-bisector.bisector in
    let is = c.loop-bisector.invariant in
    let none = done_from_none c.in_ok-advance.field-0 _ c.in_default.not-Some c.in_ok-advance.ensures.none in
    let numbering : c.into_parts.result.0 ≡ old.numbering = c.into_parts.ensures.numbering ∙ ap (λ (p : Progress). p.numbering) none.1 in
    let trace : c.into_parts.result.1 ≡ old.trace = c.into_parts.ensures.trace ∙ ap (λ (p : Progress). p.trace) none.1 in
    let numbered = finished c.laws_of_recursion.ensures.laws old forward options is.sound is.same_forward is.same_options (none.0 ∙ ap slabs_of is.same_options) in
    let at_numbering : IsNumbered forward (limits_of options) options.depth c.into_parts.result.0 old.trace = subst (λ (xs : List ℕ). IsNumbered forward (limits_of options) options.depth xs old.trace) (sym numbering) numbered in
    subst (λ (t : List KeptRound). IsNumbered forward (limits_of options) options.depth c.into_parts.result.0 t) (sym trace) at_numbering

pub returns-clause-len : goal.returns-clause-len
returns-clause-len g c =
    let old = c.loop-bisector.bisector in
    let is = c.loop-bisector.invariant in
    let none = done_from_none c.in_ok-advance.field-0 _ c.in_default.not-Some c.in_ok-advance.ensures.none in
    let numbering : c.into_parts.result.0 ≡ old.numbering = c.into_parts.ensures.numbering ∙ ap (λ (p : Progress). p.numbering) none.1 in
    ap length numbering ∙ finished_len c.laws_of_recursion.ensures.laws old c.args.forward.now c.args.options is.sound is.same_forward is.same_options (none.0 ∙ ap slabs_of is.same_options)

pub returns-clause-trace : goal.returns-clause-trace
returns-clause-trace g c =
    let old = c.loop-bisector.bisector in
    let is = c.loop-bisector.invariant in
    let none = done_from_none c.in_ok-advance.field-0 _ c.in_default.not-Some c.in_ok-advance.ensures.none in
    let trace : c.into_parts.result.1 ≡ old.trace = c.into_parts.ensures.trace ∙ ap (λ (p : Progress). p.trace) none.1 in
    subst (λ (t : List KeptRound). IsTrace t) (sym trace) (finished_trace c.laws_of_recursion.ensures.laws old c.args.forward.now c.args.options is.sound is.same_forward is.same_options (none.0 ∙ ap slabs_of is.same_options))
