use Rattle.std.proofs.Common.{refl, arith}
use Rattle.bisection.specs.Cells.{output_of}
use Rattle.bisection.specs.Desks.{output}
use Rattle.bisection.proofs.Keeping.{kept_none, kept_next, none_read}
use Rattle.bisection.proofs.slab.keep_all.Goals as goal

pub loop-part-init : goal.loop-part-init
loop-part-init c = kept_none c.args.slab.now.options c.args.level c.args.slab.now.last c.args.parts.now c.args.docs.now (output_of c.args.made.now)

pub loop-part-preserved : goal.loop-part-preserved
loop-part-preserved c =
    let slab = c.args.slab.now in
    let can = c.requires.can in
    let part = c.part-item.result in
    let low = c.loop-part-test.true in
    let none = none_read c.args.parts.now c.loop-part.part-index part (omega (arith, low)) c.part-item.is c.requires.none in
    kept_next slab.options c.args.level slab.last c.loop-part.part-index c.args.parts.now part c.args.docs.now (output_of c.args.made.now) (output_of c.loop-part.made) (output c.push.new.self.items c.loop-part.made.trace.items)
    (let o = can.order in omega arith) can.within (omega (arith, low)) c.part-item.is none c.in_ok-push.ensures.items refl c.loop-part.invariant
