use Rattle.std.proofs.Common.{◌+◌, refl, arith}
use Rattle.std.proofs.lemmas.Result.{on_ok_weaker}
use Rattle.exchange.specs.Halving.{half_b}
use Rattle.bisection.specs.Progress.{limits_of}
use Rattle.bisection.specs.Cells.{output_of}
use Rattle.bisection.proofs.Levels.{ready_from_part}
use Rattle.bisection.proofs.Descents.{descend_none, descend_split}
use Rattle.bisection.proofs.slab.descend_lent.Goals as goal

pub go_on-requires-clause-ready_b : goal.go_on-requires-clause-ready_b
go_on-requires-clause-ready_b g c κs within =
    let options = c.args.slab.now.options in
    let is = c.in_ok-split-in-Some.ensures.ok in
    ready_from_part c.in-Some.rows (limits_of options) options.depth (c.args.level + 1) (half_b is.places) c.in_ok-split-in-Some.split.b is.part_b

pub returns-in_ok-push-in-None : goal.returns-in_ok-push-in-None
returns-in_ok-push-in-None g c =
    let options = c.args.slab.now.options in
    record {
      ok = descend_none (limits_of options) options.depth c.args.level c.args.slab.now.last c.args.start c.args.part.now c.args.docs.now _ _ (omega (arith, c.requires.order)) c.requires.last c.in-None.is c.in_ok-push-in-None.ensures.items refl;
    }

pub returns-in_ok-split-in-Some : goal.returns-in_ok-split-in-Some
returns-in_ok-split-in-Some g c =
    let options = c.args.slab.now.options in
    record {
      ok = on_ok_weaker c.go_on.result
          (descend_split (limits_of options) options.depth c.args.level c.args.slab.now.last c.args.start c.requires.laws c.args.part.now c.in-Some.rows c.in_ok-split-in-Some.split c.args.docs.now c.halve_cell.new.docs c.go_on.new.docs
          (output_of c.args.made.now) (output_of c.go_on.new.made) c.in-Some.is c.in_ok-split-in-Some.ensures.ok)
          c.go_on.ensures.ok;
    }
