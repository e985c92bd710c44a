use Rattle.std.proofs.Common.{◌≡◌, ◌+◌, length, drop}
use Rattle.rgb_host.specs.Seen.{Lacks}
use Rattle.ciff_format.specs.Canonical.{records_from}
use Rattle.ciff_writer.specs.Sending.{Puts}
use Rattle.ciff_writer.proofs.write.write_records.Given as goal

abbrev pub invariant-loop-doc : goal.invariant-loop-doc
invariant-loop-doc g l = record {
  len : l.len + length (records_from l.doc (drop l.doc l.index.documents)) ≡ length (records_from 0 l.index.documents);
  puts : Puts l.name (records_from 0 l.index.documents) (records_from l.doc (drop l.doc l.index.documents)) l.fn.buffer l.buffer (g.H.Host.seen l.fn.host) (g.H.Host.seen l.host);
  there : ¬ Lacks (g.H.Host.seen l.host) l.name;
}
