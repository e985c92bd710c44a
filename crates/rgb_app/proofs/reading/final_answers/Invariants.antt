use Rattle.std.proofs.Common.{◌≡◌, ◌≤◌, length}
use Rattle.query_file.specs.View.{all_seen}
use Rattle.live_index.specs.History.{IsOfSame}
use Rattle.rgb_app.specs.Live.{last_of}
use Rattle.rgb_app.proofs.Turning.{AreFirst}
use Rattle.rgb_app.proofs.reading.final_answers.Given as goal

abbrev pub invariant-loop-query : goal.invariant-loop-query
invariant-loop-query l = record {
  same : IsOfSame l.initial.reader l.reader;
  longer : l.initial.reader.length ≤ l.reader.length;
  len : length l.answers.items ≡ l.query-index;
  first : AreFirst l.initial.reader.plan.options l.initial.reader.base (all_seen l.queries) (last_of l.initial.reader.plan.options) l.answers.items;
}
