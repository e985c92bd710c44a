-- No gap was passed over, and the next document is not behind the last one.
use Rattle.std.proofs.Common.{◌<◌, ◌≤◌, length, get_or, drop}
use Rattle.gap_report.proofs.Gaps.{gaps_after, no_posting}
use Rattle.gap_report.proofs.Tallies.{IsOnTheWay}
use Rattle.gap_report.proofs.tally.Tally.with_list.Given as goal

abbrev pub invariant-loop-posting : goal.invariant-loop-posting
invariant-loop-posting l = record {
  rises : l.posting-index < length l.postings → l.before ≤ (get_or l.postings l.posting-index no_posting).doc;
  sums : IsOnTheWay l.fn.self l.tally (gaps_after 0 l.postings) (gaps_after l.before (drop l.posting-index l.postings));
}
