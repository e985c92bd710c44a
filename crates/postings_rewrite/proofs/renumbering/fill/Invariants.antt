-- The parts of the lists passed are filled.
use Rattle.std.proofs.Common.{◌≡◌, take}
use Rattle.std.specs.Prelude.{slice_range}
use Rattle.rgb_base.specs.Parts.{posting_count}
use Rattle.postings_rewrite.specs.Tables.{IsTableRenumbered}
use Rattle.postings_rewrite.proofs.renumbering.fill.Given as goal

abbrev pub invariant-loop-list : goal.invariant-loop-list
invariant-loop-list l = record {
  place : l.start ≡ posting_count (slice_range l.index.lists l.from l.list);
  filled : IsTableRenumbered l.by (slice_range l.index.lists l.from l.list) (take l.start l.table);
}
