use Rattle.std.proofs.Common.{◌≡◌, length, take, map}
use Rattle.postings_rewrite.specs.Renumbering.{moved}
use Rattle.postings_rewrite.proofs.postings.map_list.Given as goal

abbrev pub invariant-loop-place : goal.invariant-loop-place
invariant-loop-place l = record {
  len : length l.part ≡ length l.postings;
  mapped : take l.place l.part ≡ map (moved l.by) (take l.place l.postings);
}
