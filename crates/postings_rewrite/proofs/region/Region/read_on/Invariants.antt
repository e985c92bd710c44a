-- All entries on the way are below the target.
use Rattle.std.proofs.Common.{◌≡◌, ℕ, ◌-◌, ◌<◌, ◌≤◌, length, slice_index}
use Rattle.postings_rewrite.specs.Blocks.{IsBefore}
use Rattle.postings_rewrite.proofs.region.Region.read_on.Given as goal

abbrev pub invariant-loop-at : goal.invariant-loop-at
invariant-loop-at l = record {
  forward : l.fn.place.entry ≤ l.at.entry;
  within : l.at.entry ≤ length l.self;
  passed : (k : ℕ) → l.fn.place.entry ≤ k → k < l.at.entry → slice_index l.self k < l.target;
  stands : IsBefore l.self l.at l.at.entry;
}

abbrev pub decreases-loop-at : goal.decreases-loop-at
decreases-loop-at l = length l.self - l.at.entry
