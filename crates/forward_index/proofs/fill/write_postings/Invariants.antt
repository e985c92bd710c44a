-- The postings passed are written.
use Rattle.std.proofs.Common.{◌+◌, ◌<◌, get_or, take, All}
use Rattle.rgb_base.specs.declared.parts.Posting.{Posting}
use Rattle.forward_index.specs.Rows.{times, AreMoved, AreWritten}
use Rattle.forward_index.proofs.fill.write_postings.Given as goal

abbrev pub invariant-loop-passed : goal.invariant-loop-passed
invariant-loop-passed l = record {
  below : All (λ (posting : Posting). posting.doc < l.limit) (take l.passed l.postings);
  moved : AreMoved (λ k. times (get_or l.start (l.first + k) 0) (take l.passed l.postings)) l.initial.cursors l.cursors;
  written : AreWritten l.base l.term l.initial.cursors l.cursors l.initial.entries l.entries;
}
