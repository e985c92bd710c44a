use Rattle.std.proofs.Common.{◌≡◌, ◌^◌, ◌≤◌, List, length}
use Rattle.rgb_base.specs.declared.parts.TermList.{TermList}
use Rattle.rgb_base.specs.Parts.{terms_of}
use Rattle.ciff_reader.specs.Awaited.{with_lists}
use Rattle.ciff_reader.specs.Listing.{listing}
use Rattle.ciff_reader.specs.Steps.{AtGood}
use Rattle.ciff_reader.proofs.Readings.{Reads}
use Rattle.ciff_reader.proofs.documents.read_records.Given as goal

abbrev pub invariant-loop-record : goal.invariant-loop-record
invariant-loop-record g l = record {
  reads : (lists : List TermList) → terms_of lists ≡ terms_of l.fn.builder.lists
      → Reads (g.H.Host.seen l.fn.host) l.name lists (AtGood (g.H.Host.seen l.fn.host) l.name l.fn.window (listing (length lists) (with_lists lists l.fn.builder))) l.window l.builder l.waiting l.text l.record;
  little : l.text ≤ 2 ^ 40;
  lists : l.builder.lists ≡ l.fn.builder.lists;
  documents : l.builder.documents ≡ l.count;
  same : g.H.Host.seen l.host ≡ g.H.Host.seen l.fn.host;
}
