use Rattle.std.proofs.Common.{◌≡◌, ◌+◌, ◌-◌, ◌*◌, ◌^◌, ◌<◌, ◌≤◌, ◌++◌, length, take}
use Rattle.ciff_wire.specs.Varint.{varint, groups}
use Rattle.ciff_writer.proofs.buffer.Buffer.put_varint.Given as goal

abbrev pub invariant-loop-left : goal.invariant-loop-left
invariant-loop-left g l =
    let at = l.initial.self-inside.filled in
    record {
      room : length l.self-inside.room ≡ length l.initial.self-inside.room;
      begun : at ≤ l.end;
      used : l.end ≤ at + 9;
      fits : l.left < 2 * 128 ^ (at + 9 - l.end);
      bytes : take l.end l.self-inside.room ++ groups (at + 9 - l.end) l.left ≡ take at l.initial.self-inside.room ++ varint l.value;
    }

abbrev pub decreases-loop-left : goal.decreases-loop-left
decreases-loop-left g l = l.left
