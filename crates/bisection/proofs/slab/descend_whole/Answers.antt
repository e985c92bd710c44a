use Rattle.std.proofs.Common.{None, refl, arith}
use Rattle.std.proofs.lemmas.Result.{on_ok_weaker}
use Rattle.exchange.specs.Halving.{half_b}
use Rattle.bisection.specs.declared.cell.Part.{Part}
use Rattle.bisection.specs.Progress.{limits_of}
use Rattle.bisection.specs.Cells.{output_of}
use Rattle.bisection.proofs.Levels.{ready_from_part}
use Rattle.bisection.proofs.Slabs.{whole_small, whole_split}
use Rattle.bisection.proofs.slab.descend_whole.Goals as goal

pub returns-then-len-slab : goal.returns-then-len-slab
returns-then-len-slab g c =
    let options = c.args.slab.now.options in
    let part : Part = record { len = c.docs-len.result; rows = None } in
    record {
      ok = whole_small (limits_of options) options.depth c.args.slab.now.last c.args.forward.now c.args.docs.now c.requires.len part _ _ c.requires.last c.docs-len.ensures.same refl c.if-len-slab.true c.in_ok-push.ensures.items refl;
    }

pub go_on-requires-clause-ready_b : goal.go_on-requires-clause-ready_b
go_on-requires-clause-ready_b g c κs within =
    let options = c.args.slab.now.options in
    let is = c.in_ok-split.ensures.ok in
    ready_from_part c.args.forward.now (limits_of options) options.depth 1 (half_b is.places) c.in_ok-split.split.b is.part_b

pub returns : goal.returns
returns g c =
    let options = c.args.slab.now.options in
    record {
      ok = on_ok_weaker c.go_on.result
          (whole_split (limits_of options) options.depth c.args.slab.now.last c.args.forward.now c.args.docs.now c.requires.len c.in_ok-split.split c.halve_cell.new.docs c.go_on.new.docs (output_of c.args.made.now) (output_of c.go_on.new.made)
          c.requires.sound (omega (arith, c.if-len-slab.false, c.docs-len.ensures.same)) c.in_ok-split.ensures.ok)
          c.go_on.ensures.ok;
    }
