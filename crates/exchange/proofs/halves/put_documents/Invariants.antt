-- The first places are filled.
use Rattle.std.proofs.Common.{◌≡◌, length, take}
use Rattle.exchange.specs.Tries.{docs_of}
use Rattle.exchange.proofs.halves.put_documents.Given as goal

abbrev pub invariant-loop-place : goal.invariant-loop-place
invariant-loop-place l = record {
  len : length l.docs ≡ length l.entries;
  filled : take l.place l.docs ≡ take l.place (docs_of l.entries);
}
