use Rattle.std.proofs.Common.{◌≡◌, [], map, take, get_or}
use Rattle.rgb_base.proofs.index.names_in_order.Given as goal

abbrev pub invariant-loop-new : goal.invariant-loop-new
invariant-loop-new l = l.moved ≡ map (λ old. get_or l.names old []) (take l.new l.order)
