-- It is the recursion over this forward index with these options.
use Rattle.std.proofs.Common.{◌≡◌, ◌-◌}
use Rattle.bisection.specs.Progress.{IsProgress, slabs_of}
use Rattle.bisection.proofs.recursion.reorder.Given as goal

abbrev pub invariant-loop-bisector : goal.invariant-loop-bisector
invariant-loop-bisector g l = record {
  same_forward : l.bisector.forward ≡ l.forward;
  same_options : l.bisector.options ≡ l.fn.options;
  sound : IsProgress l.bisector;
}

abbrev pub decreases-loop-bisector : goal.decreases-loop-bisector
decreases-loop-bisector g l = slabs_of l.fn.options - l.bisector.done
