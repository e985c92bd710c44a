use Rattle.std.proofs.Common.{◌-◌, ◌≤◌, length, take}
use Rattle.ciff_reader.specs.Listing.{ChangesPostings, ReadsList}
use Rattle.ciff_reader.proofs.list.read_fields.Given as goal

abbrev pub invariant-fields : goal.invariant-fields
invariant-fields l = record {
  within : l.at ≤ length l.message;
  read : ReadsList (take l.at l.message) l.kept l.gaps l.pending;
  same : ChangesPostings l.fn.pending l.pending;
}

abbrev pub decreases-fields : goal.decreases-fields
decreases-fields l = length l.message - l.at
