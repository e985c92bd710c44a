use Rattle.std.proofs.Common.{◌≡◌, ◌≤◌, ◌+◌, ◌*◌, length, drop}
use Rattle.ciff_wire.specs.Canonical.{message_of}
use Rattle.ciff_format.specs.Canonical.{postings_fields}
use Rattle.ciff_writer.proofs.Postings.{IsBefore}
use Rattle.ciff_writer.proofs.sizes.postings_size.Given as goal

abbrev pub invariant-loop-posting : goal.invariant-loop-posting
invariant-loop-posting l = record {
  same : l.size + length (message_of (postings_fields l.before (drop l.posting-index l.postings))) ≡ length (message_of (postings_fields 0 l.postings));
  most : l.size ≤ 24 * l.posting-index;
  before : IsBefore l.postings l.posting-index l.before;
}
