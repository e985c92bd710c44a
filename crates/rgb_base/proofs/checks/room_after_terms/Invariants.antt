use Rattle.std.proofs.Common.{◌≡◌, ◌+◌, length, sum_by, take}
use Rattle.rgb_base.proofs.checks.room_after_terms.Given as goal

abbrev pub invariant-loop-list : goal.invariant-loop-list
invariant-loop-list l = l.left + sum_by (λ list. length list.term) (take l.list-index l.lists) ≡ l.room
