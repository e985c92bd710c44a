use Rattle.std.proofs.Common.{◌≡◌, drop, length, All}
use Rattle.std.specs.Arc.{arc_value}
use Rattle.left_right.specs.Sides.{view as party_of}
use Rattle.live_index.specs.Rule.{IsPublishing, seen_in}
use Rattle.live_index.proofs.opening.readers_of.Given as goal

-- the writer keeps what it shows, and each reader made so far has seen it
abbrev pub invariant-loop : goal.invariant-loop
invariant-loop g l = record {
  publishing : IsPublishing g.K.Plan.versions g.K.Plan.planned l.base l.plan l.writer.desk.shown.value
      (party_of l.writer.desk.place) (drop l.writer.behind l.writer.log.items);
  shows : arc_value l.writer.desk.shown.value.view ≡ arc_value l.view;
  count : length l.made.items ≡ l.counter;
  readers : All (λ reader. reader ≡ seen_in l.base l.plan (arc_value l.view)) l.made.items;
}
