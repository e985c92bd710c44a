use Rattle.std.proofs.Common.{◌-◌, ◌≤◌, length, take}
use Rattle.ciff_reader.specs.declared.list.ListFields.{ListFields}
use Rattle.ciff_reader.specs.Listing.{ChangesPostings, ReadsList}
use Rattle.ciff_reader.proofs.gaps.Gaps.with_short_postings.Given as goal

abbrev pub invariant-postings : goal.invariant-postings
invariant-postings l = record {
  behind : l.start ≤ l.at;
  within : l.at ≤ length l.message;
  same : ChangesPostings l.fn.pending l.pending;
  read : (kept : ListFields) → ReadsList (take l.start l.message) kept l.fn.self l.fn.pending → ReadsList (take l.at l.message) kept l.gaps l.pending;
}

abbrev pub decreases-postings : goal.decreases-postings
decreases-postings l = length l.message - l.at
