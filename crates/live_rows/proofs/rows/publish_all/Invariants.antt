use Rattle.std.proofs.Common.{◌≡◌}
use Rattle.live_rows.proofs.rows.publish_all.Given as goal

-- the publisher stays that of this base and these numberings
abbrev pub invariant-loop : goal.invariant-loop
invariant-loop g l = record {
  base : l.publisher.base ≡ l.base;
  plan : l.publisher.plan.numberings.now ≡ l.numberings;
}
