use Rattle.std.proofs.Common.{◌≡◌, take}
use Rattle.std.specs.List.{fold}
use Rattle.rgb_base.specs.Marks.{mark_after}
use Rattle.rgb_base.proofs.marks.mark_of.Given as goal

abbrev pub invariant-loop-byte : goal.invariant-loop-byte
invariant-loop-byte l = l.mark ≡ fold mark_after 14695981039346656037 (take l.byte-index l.byte-items)
