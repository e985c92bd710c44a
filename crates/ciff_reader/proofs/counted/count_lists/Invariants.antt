use Rattle.std.proofs.Common.{◌≡◌, ◌^◌, ◌<◌, ℕ, List, [], length}
use Rattle.ciff_reader.specs.Counting.{AtCounted}
use Rattle.ciff_reader.specs.Listing.{listing}
use Rattle.ciff_reader.specs.Steps.{AtGood}
use Rattle.ciff_reader.proofs.counted.count_lists.Given as goal

abbrev pub invariant-loop-list : goal.invariant-loop-list
invariant-loop-list g l = record {
  lists : length l.builder.lists ≡ l.list;
  none_pending : l.pending.postings ≡ [];
  pending : l.pending.documents ≡ l.fn.builder.documents;
  none_open : l.builder.postings ≡ [];
  no_record : l.builder.records ≡ [];
  documents : l.builder.documents ≡ l.fn.builder.documents;
  room : l.tally.postings < 2 ^ 32;
  at : (file : List ℕ) → AtGood (g.H.Host.seen l.fn.host) l.name l.fn.window (listing l.count l.fn.builder) file
      → AtCounted (g.H.Host.seen l.fn.host) l.name l.window l.count l.builder l.tally file;
  same : g.H.Host.seen l.host ≡ g.H.Host.seen l.fn.host;
}
