use Rattle.std.proofs.Common.{◌-◌, ◌≤◌, length, take}
use Rattle.ciff_format.specs.Fields.{header_table}
use Rattle.ciff_reader.specs.Says.{ReadAs, SaysHeader}
use Rattle.ciff_reader.proofs.header.read_header_fields.Given as goal

abbrev pub invariant-fields : goal.invariant-fields
invariant-fields l = record {
  within : l.at ≤ length l.message;
  front : ReadAs header_table SaysHeader (take l.at l.message) l.kept;
}

abbrev pub decreases-fields : goal.decreases-fields
decreases-fields l = length l.message - l.at
