use Rattle.std.proofs.Common.{◌≡◌, ◌-◌, ◌*◌, ◌^◌, ◌<◌, ◌≤◌, ◌++◌, take, drop}
use Rattle.ciff_wire.specs.Varint.{varint, groups}
use Rattle.ciff_wire.proofs.put.put_longer.Given as goal

-- the bytes so far and the groups of what is left are the varint
abbrev pub invariant-loop-left : goal.invariant-loop-left
invariant-loop-left l =
    (l.used ≤ 9) × (l.left * 128 ^ l.used < 2 ^ 64) × (take l.used l.out ++ groups (9 - l.used) l.left ≡ varint l.value) × (drop l.used l.out ≡ drop l.used l.initial.out)

abbrev pub decreases-loop-left : goal.decreases-loop-left
decreases-loop-left l = l.left
