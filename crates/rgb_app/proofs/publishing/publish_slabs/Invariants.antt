use Rattle.std.proofs.Common.{◌-◌}
use Rattle.bisection.specs.Progress.{slabs_of}
use Rattle.live_index.specs.History.{IsOfSame}
use Rattle.rgb_app.specs.Reordering.{options_of}
use Rattle.rgb_app.specs.Planned.{IsAbreast}
use Rattle.rgb_app.proofs.publishing.publish_slabs.Given as goal

abbrev pub invariant-slabs : goal.invariant-slabs
invariant-slabs g l = record {
  same : IsOfSame l.fn.publisher l.publisher;
  abreast : IsAbreast l.fn.options l.publisher l.bisector;
}

abbrev pub decreases-slabs : goal.decreases-slabs
decreases-slabs g l = slabs_of (options_of l.fn.options) - l.bisector.done
