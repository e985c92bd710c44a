use Rattle.cell_claims.specs.declared.trace.KeptRound.{KeptRound}
use Rattle.bisection.specs.declared.desk.Left.{Left}
use Rattle.bisection.specs.Desks.{IsLeft}
use Rattle.std.proofs.Common.{ℕ, List, subst, refl, sym}
use Rattle.bisection.proofs.Works.{can_make, left_made}
use Rattle.bisection.proofs.desk.make.Goals as goal

pub bisect-requires-clause-can : goal.bisect-requires-clause-can
bisect-requires-clause-can g c κs within =
    can_make c.args.slab.now.options c.args.slab.now.logs.now c.args.slab.now.last c.args.parts.now c.args.claims.now.cells c.args.cell.now c.index-parts-place.result c.requires.work c.requires.claimed c.index-parts-place.is

pub returns-clause-made : goal.returns-clause-made
returns-clause-made g c =
    let options = c.args.slab.now.options in
    let cell = c.args.cell.now in
    let made = c.in_ok-docs.field-0 in
    let left : Left = record { place = cell.place; parts = made.made.parts } in
    let base = left_made options c.args.slab.now.logs.now c.args.slab.now.last c.args.parts.now c.args.claims.now.cells cell c.index-parts-place.result made.docs.items made.made.trace.items left c.requires.work c.requires.claimed c.index-parts-place.is refl c.in_ok-docs.ensures.ok in
    subst (λ (x : List ℕ × List KeptRound). IsLeft options c.args.slab.now.last c.args.parts.now c.args.claims.now.cells (record { place = cell.place; docs = x.0; kept = x.1 }) left) (λ i. (sym c.of-docs.ensures.same i, sym c.of-kept.ensures.same i)) base
