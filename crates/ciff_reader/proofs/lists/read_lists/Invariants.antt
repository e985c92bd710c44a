use Rattle.std.proofs.Common.{◌≡◌, ℕ, List, [], length}
use Rattle.ciff_reader.specs.Listing.{listing}
use Rattle.ciff_reader.specs.Steps.{AtGood}
use Rattle.ciff_reader.proofs.lists.read_lists.Given as goal

abbrev pub invariant-loop-list : goal.invariant-loop-list
invariant-loop-list g l = record {
  lists : length l.builder.lists ≡ l.list;
  none_pending : l.pending.postings ≡ [];
  pending : l.pending.documents ≡ l.fn.builder.documents;
  none_open : l.builder.postings ≡ [];
  no_record : l.builder.records ≡ [];
  documents : l.builder.documents ≡ l.fn.builder.documents;
  at : (file : List ℕ) → AtGood (g.H.Host.seen l.fn.host) l.name l.fn.window (listing l.count l.fn.builder) file
      → AtGood (g.H.Host.seen l.fn.host) l.name l.window (listing l.count l.builder) file;
  same : g.H.Host.seen l.host ≡ g.H.Host.seen l.fn.host;
}
