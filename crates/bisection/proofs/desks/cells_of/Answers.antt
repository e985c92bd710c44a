use Rattle.std.proofs.Common.{◌≡◌, ℕ, ◌+◌, ◌-◌, ◌<◌, take, drop, length, get_or, refl, sym, ap, ◌∙◌, arith}
use Rattle.std.proofs.lemmas.List.{length-take-le}
use Rattle.cell_claims.specs.declared.cell.CellWork.{CellWork}
use Rattle.bisection.specs.declared.cell.Part.{Part}
use Rattle.bisection.specs.Desks.{IsCellAt}
use Rattle.bisection.proofs.Shares.{cells_next}
use Rattle.bisection.proofs.desks.cells_of.Goals as goal

pub loop-place-preserved : goal.loop-place-preserved
loop-place-preserved c =
    let parts = c.args.parts.now in
    let place = c.loop-place.place in
    let part = c.index-parts-place.result in
    let is = c.index-parts-place.is in
    let low : place < length parts = omega (arith, c.loop-place-test.true, c.in-Ok.ensures) in
    let size : (c.loop-place.start + (get_or parts place part).len) - c.loop-place.start ≡ part.len = (let e : part.len ≡ (get_or parts place part).len = ap (λ (p : Part). p.len) is in omega arith) in
    let cell : CellWork = record { place = place; level = c.args.level; start = c.loop-place.start; docs = c.of-docs.result } in
    let at : IsCellAt c.args.level (length (take place parts)) c.loop-place.start part c.args.docs.now cell = record {
      place = sym (length-take-le place parts (omega (arith, low)));
      level_is = refl;
      start_is = refl;
      docs_are = c.of-docs.ensures.same ∙ c.in_ok-own.ensures.items ∙ ap (λ (n : ℕ). take n (drop c.loop-place.start c.args.docs.now)) size;
    } in
    let n = cells_next c.args.level place parts part c.args.docs.now c.loop-place.cells.items c.push.new.self.items cell c.loop-place.start low is c.loop-place.invariant.0 c.loop-place.invariant.1 c.in_ok-push.ensures.items at in
    (ap (λ (p : Part). c.loop-place.start + p.len) (sym is) ∙ n.0, n.1)
