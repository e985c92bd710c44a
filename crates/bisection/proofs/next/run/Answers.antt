use Rattle.std.proofs.Common.{ℕ, Vec, Global, slice_index}
use Rattle.std.proofs.lemmas.Result.{IfOk-weaker}
use Rattle.bisection.specs.Progress.{limits_of}
use Rattle.bisection.specs.Recursion.{all_places}
use Rattle.bisection.specs.Cells.{IsMade, RunsFrom, output_of}
use Rattle.bisection.proofs.Standing.{run_first}
use Rattle.bisection.proofs.next.run.Goals as goal

pub returns-then-level-eq0 : goal.returns-then-level-eq0
returns-then-level-eq0 g c =
    let slab = c.args.slab.now in
    let limits = limits_of slab.options in
    let depth = slab.options.depth in
    let docs = c.args.docs.items in
    let old = output_of c.args.made.now in
    let new = output_of c.run_first.new.made in
    record {
      ok = IfOk-weaker c.run_first.result
          (λ (order : Vec ℕ Global). IsMade c.args.forward.now limits depth 0 slab.last 0 (all_places c.args.forward.now) (slice_index docs) order.items old new)
          (λ (order : Vec ℕ Global). RunsFrom c.args.forward.now limits depth c.args.level slab.last c.args.parts.now docs order.items old new)
          (λ order. run_first c.args.forward.now limits depth c.args.level slab.last c.args.parts.now docs order.items old new c.requires.sound c.if-level-eq0.true)
          c.run_first.ensures.ok;
    }
