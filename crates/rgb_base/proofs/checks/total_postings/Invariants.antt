use Rattle.std.proofs.Common.{◌≡◌, take}
use Rattle.rgb_base.specs.Parts.{posting_count}
use Rattle.rgb_base.proofs.checks.total_postings.Given as goal

abbrev pub invariant-loop-list : goal.invariant-loop-list
invariant-loop-list l = l.total ≡ posting_count (take l.list-index l.lists)
