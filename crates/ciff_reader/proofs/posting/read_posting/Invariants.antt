use Rattle.std.proofs.Common.{◌-◌, ◌≤◌, length, take}
use Rattle.ciff_format.specs.Fields.{posting_table}
use Rattle.ciff_reader.specs.Says.{ReadAs, SaysPosting}
use Rattle.ciff_reader.proofs.posting.read_posting.Given as goal

abbrev pub invariant-fields : goal.invariant-fields
invariant-fields l = record {
  within : l.at ≤ length l.message;
  front : ReadAs posting_table SaysPosting (take l.at l.message) l.kept;
}

abbrev pub decreases-fields : goal.decreases-fields
decreases-fields l = length l.message - l.at
