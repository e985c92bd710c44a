use Rattle.std.proofs.Common.{◌≡◌, map, take, slice_index}
use Rattle.live_index.proofs.answer.originals_of.Given as goal

abbrev pub invariant-loop-id : goal.invariant-loop-id
invariant-loop-id l = l.originals.items ≡ map (slice_index l.numbering) (take l.id-index l.ids)
