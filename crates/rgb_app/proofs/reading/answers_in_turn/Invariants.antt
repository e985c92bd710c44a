use Rattle.std.proofs.Common.{◌≡◌, ◌+◌, ◌-◌, ◌*◌, length}
use Rattle.query_file.specs.View.{all_seen}
use Rattle.live_index.specs.History.{IsOfSame}
use Rattle.rgb_app.proofs.Turning.{AreSoFar}
use Rattle.rgb_app.proofs.reading.answers_in_turn.Given as goal

abbrev pub invariant-turns : goal.invariant-turns
invariant-turns g l = record {
  same : IsOfSame l.initial.reader l.reader;
  place : l.place ≡ l.number + length l.answers.items * l.readers;
  so_far : AreSoFar l.initial.reader.plan.options l.initial.reader.base (all_seen l.queries) l.readers l.number l.reader.length l.answers.items;
}

abbrev pub decreases-turns : goal.decreases-turns
decreases-turns g l = length l.queries - l.place
