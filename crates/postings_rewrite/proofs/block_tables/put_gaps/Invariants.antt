-- The entries before this one are put, with the skip entries of the blocks that begin among them.
use Rattle.std.proofs.Common.{◌≡◌, length, map}
use Rattle.postings_rewrite.proofs.Writing.{IsPut}
use Rattle.postings_rewrite.proofs.block_tables.put_gaps.Given as goal

abbrev pub invariant-loop-entry : goal.invariant-loop-entry
invariant-loop-entry l = record {
  start : l.from ≡ length l.fn.bytes.items;
  put : IsPut (map (λ posting. posting.doc) l.fn.postings) l.fn.bytes.items l.fn.befores.items l.fn.offsets.items l.entry l.before l.bytes.items l.befores.items l.offsets.items;
}
