use Rattle.std.proofs.Common.{◌≡◌, ◌+◌, length, sum_by, take, All}
use Rattle.rgb_base.specs.Parts.{FitsRecord}
use Rattle.rgb_base.proofs.checks.room_after_names.Given as goal

abbrev pub invariant-loop-document : goal.invariant-loop-document
invariant-loop-document l = record {
  left : l.left + sum_by (λ document. length document.name) (take l.document-index l.documents) ≡ l.room;
  fits : All FitsRecord (take l.document-index l.documents);
}
