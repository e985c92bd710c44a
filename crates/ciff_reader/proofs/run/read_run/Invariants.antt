use Rattle.std.proofs.Common.{◌≡◌, ◌-◌, ◌^◌, ◌<◌, ◌≤◌, length, take, drop}
use Rattle.rgb_base.specs.Building.{Building, with_postings}
use Rattle.ciff_reader.specs.declared.list.ListFields.{ListFields}
use Rattle.ciff_reader.specs.Listing.{ReadsList}
use Rattle.ciff_reader.proofs.Runs.{AreKept, good_gaps}
use Rattle.ciff_reader.proofs.run.read_run.Given as goal

abbrev pub invariant-postings : goal.invariant-postings
invariant-postings l = record {
  count : l.count ≤ length l.room;
  behind : l.start ≤ length l.message - length l.rest;
  within : length l.rest ≤ length l.message;
  rest : l.rest ≡ drop (length l.message - length l.rest) l.message;
  least : l.least < 2 ^ 32;
  document : l.document < 2 ^ 32;
  kept : AreKept l.documents (good_gaps l.least l.document) (take l.count l.room);
  read : (kept : ListFields) (building : Building) → building.documents ≡ l.documents → ReadsList (take l.start l.message) kept l.fn.gaps building
      → ReadsList (take (length l.message - length l.rest) l.message) kept (good_gaps l.least l.document) (with_postings building (take l.count l.room));
}

abbrev pub decreases-postings : goal.decreases-postings
decreases-postings l = length l.room - l.count
