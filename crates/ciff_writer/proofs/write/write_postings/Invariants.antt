use Rattle.std.proofs.Common.{drop}
use Rattle.ciff_wire.specs.Canonical.{message_of}
use Rattle.ciff_format.specs.Canonical.{postings_fields}
use Rattle.rgb_host.specs.Seen.{Lacks}
use Rattle.ciff_writer.specs.Sending.{Puts}
use Rattle.ciff_writer.proofs.Postings.{IsBefore}
use Rattle.ciff_writer.proofs.write.write_postings.Given as goal

abbrev pub invariant-loop-posting : goal.invariant-loop-posting
invariant-loop-posting g l = record {
  puts : Puts l.name (message_of (postings_fields 0 l.postings)) (message_of (postings_fields l.before (drop l.posting-index l.postings))) l.fn.buffer l.buffer (g.H.Host.seen l.fn.host) (g.H.Host.seen l.host);
  there : ¬ Lacks (g.H.Host.seen l.host) l.name;
  before : IsBefore l.postings l.posting-index l.before;
}
