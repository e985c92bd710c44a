use Rattle.std.proofs.Common.{◌<◌}
use Rattle.bool_query.specs.Answers.{AreExactly}
use Rattle.bool_query.proofs.merge.all_documents.Given as goal

abbrev pub invariant-loop-doc : goal.invariant-loop-doc
invariant-loop-doc l = AreExactly (λ doc. doc < l.doc) l.ids.items
