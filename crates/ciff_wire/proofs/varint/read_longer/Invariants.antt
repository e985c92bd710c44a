use Rattle.std.proofs.Common.{◌≡◌, ◌%◌, ◌^◌, ◌≤◌, take}
use Rattle.std.specs.List.{All}
use Rattle.ciff_wire.specs.Varint.{sum_of}
use Rattle.ciff_wire.proofs.varint.read_longer.Given as goal

-- the bytes so far all go on, and the value is their sum
abbrev pub invariant-loop-i : goal.invariant-loop-i
invariant-loop-i l = (l.value ≡ sum_of (take l.i l.bytes) % 2 ^ 64) × All (λ b. 128 ≤ b) (take l.i l.bytes)
