use Rattle.bisection.specs.Cells.{output_of}
use Rattle.bisection.proofs.Keeping.{AreKept}
use Rattle.bisection.proofs.slab.keep_all.Given as goal

abbrev pub invariant-loop-part : goal.invariant-loop-part
invariant-loop-part l = AreKept l.slab.options l.level l.slab.last l.part-index l.parts l.docs (output_of l.fn.made) (output_of l.made)
