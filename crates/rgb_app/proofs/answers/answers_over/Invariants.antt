use Rattle.std.proofs.Common.{take}
use Rattle.query_file.specs.View.{all_seen}
use Rattle.rgb_app.specs.Answering.{AreAnswers, AreWithin}
use Rattle.rgb_app.proofs.answers.answers_over.Given as goal

abbrev pub invariant-loop-query : goal.invariant-loop-query
invariant-loop-query l = record {
  are : AreAnswers l.index (all_seen (take l.query-index l.queries)) l.answers.items;
  within : AreWithin l.index l.answers.items;
}
