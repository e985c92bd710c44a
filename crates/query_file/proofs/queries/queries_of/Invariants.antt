use Rattle.std.proofs.Common.{◌+◌, ◌≤◌, length}
use Rattle.query_file.specs.Steps.{Taken}
use Rattle.query_file.specs.View.{all_seen}
use Rattle.query_file.proofs.queries.queries_of.Given as goal

abbrev pub invariant-lines : goal.invariant-lines
invariant-lines l = record {
  taken : Taken l.bytes l.count (all_seen l.queries.items) l.left;
  few : l.count + length l.left ≤ length l.bytes;
}

abbrev pub decreases-lines : goal.decreases-lines
decreases-lines l = length l.left
