use Rattle.std.proofs.Common.{◌≡◌, pos, map, take, get_or}
use Rattle.rgb_base.proofs.index.sizes_in_order.Given as goal

abbrev pub invariant-loop-new : goal.invariant-loop-new
invariant-loop-new l = l.moved.items ≡ map (λ old. get_or l.sizes old (pos 0)) (take l.new l.order)
