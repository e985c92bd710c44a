-- The records of the documents passed.
use Rattle.std.proofs.Common.{◌≡◌, map}
use Rattle.std.specs.List.{range_with_len}
use Rattle.generated_index.specs.Generated.{record_of}
use Rattle.generated_index.proofs.index.push_records.Given as goal

abbrev pub invariant-loop-document : goal.invariant-loop-document
invariant-loop-document l = l.builder ≡ record l.initial.builder { records = map record_of (range_with_len 0 l.document) }
