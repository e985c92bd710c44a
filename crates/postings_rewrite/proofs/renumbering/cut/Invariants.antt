use Rattle.std.proofs.Common.{◌≡◌}
use Rattle.std.specs.Prelude.{slice_range}
use Rattle.rgb_base.specs.Parts.{posting_count}
use Rattle.postings_rewrite.proofs.renumbering.cut.Given as goal

abbrev pub invariant-loop-list : goal.invariant-loop-list
invariant-loop-list l = l.place ≡ posting_count (slice_range l.index.lists l.from l.list)
