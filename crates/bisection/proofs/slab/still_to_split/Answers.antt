use Rattle.std.proofs.Common.{rules, ◌≡◌, None, arith}
use Rattle.bisection.proofs.Keeping.{none_next, none_all}
use Rattle.bisection.proofs.slab.still_to_split.Goals as goal
use Rattle.bisection.proofs.slab.still_to_split.Goals.{then-is_some, else-is_some}

pub loop-part-preserved : goal.loop-part-preserved
loop-part-preserved c = elim c.if-is_some.branch [
  | then-is_some w ↦ (omega (arith, c.loop-part.invariant.0, w.cells-is), λ e. absurd (omega (arith, e, w.cells-is)))
  | else-is_some w ↦ (
    omega (arith, c.loop-part.invariant.0, w.cells-is),
    λ e.
        let none : c.part-item.result.rows ≡ None = search rules in
        none_next c.args.parts.now c.loop-part.part-index c.part-item.result (omega (arith, c.loop-part-test.true)) c.part-item.is none (c.loop-part.invariant.1 (omega (arith, e, w.cells-is))),
  )
]

pub returns-clause-none : goal.returns-clause-none
returns-clause-none c none = none_all c.args.parts.now c.loop-part.part-index (omega (arith, c.loop-part-test.false)) (c.loop-part.invariant.1 none)
