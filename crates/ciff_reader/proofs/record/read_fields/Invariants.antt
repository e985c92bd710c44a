use Rattle.std.proofs.Common.{◌-◌, ◌≤◌, length, take}
use Rattle.ciff_format.specs.Fields.{record_table}
use Rattle.ciff_reader.specs.Says.{ReadAs, SaysRecord}
use Rattle.ciff_reader.proofs.record.read_fields.Given as goal

abbrev pub invariant-fields : goal.invariant-fields
invariant-fields l = record {
  within : l.at ≤ length l.message;
  front : ReadAs record_table SaysRecord (take l.at l.message) l.kept;
}

abbrev pub decreases-fields : goal.decreases-fields
decreases-fields l = length l.message - l.at
